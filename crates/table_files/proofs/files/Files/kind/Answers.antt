use Rattle.std.proofs.Common.{◌≡◌, ℕ, List, [], ◌-◌, get_or, length, sym, ap, ◌∙◌, arith}
use Rattle.table_files.specs.Headers.{kind_of_file}
use Rattle.table_files.specs.Files.{file_at}
use Rattle.table_files.proofs.Lists.{kind_there, kind_past, kind_before, at_place}
use Rattle.table_files.proofs.files.Files.kind.Goals as goal

pub returns-then-file-eq0 : goal.returns-then-file-eq0
returns-then-file-eq0 c = sym (kind_before c.args.self.now c.args.file c.if-file-eq0.true)

pub returns-then-file-len : goal.returns-then-file-len
returns-then-file-len c =
    let size : length c.self.inside.files.items ≡ length c.args.self.now = ap length c.self.view_is in
    sym (kind_past c.args.self.now c.args.file (omega (arith, size, c.len.ensures, c.if-file-len.true)))

pub returns : goal.returns
returns c =
    let size : length c.self.inside.files.items ≡ length c.args.self.now = ap length c.self.view_is in
    let there : c.index.result.now ≡ file_at c.args.self.now c.args.file =
    c.index.ensures ∙ ap (λ (files : List (List ℕ)). get_or files (c.args.file - 1) c.index.result.now) c.self.view_is
    ∙ at_place c.args.self.now (c.args.file - 1) c.index.result.now [] (omega (arith, size, c.len.ensures, c.if-file-len.false, c.if-file-eq0.false)) in
    c.kind.ensures ∙ ap kind_of_file there ∙ sym (kind_there c.args.self.now c.args.file (omega (arith, c.if-file-eq0.false)) (omega (arith, size, c.len.ensures, c.if-file-len.false)))
