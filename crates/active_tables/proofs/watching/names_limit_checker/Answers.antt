use Rattle.std.proofs.Common.{◌+◌, ◌<◌, ◌||◌, Bool, drop, length, sym, ap, ◌∙◌, arith}
use Rattle.std.specs.List.{list_any}
use Rattle.table_files.specs.Files.{file_at}
use Rattle.active_tables.specs.Tables.{names_limits, lc_named}
use Rattle.active_tables.proofs.Files.{any_step, any_none}
use Rattle.active_tables.proofs.watching.names_limit_checker.Goals as goal

pub returns-then-names_limits : goal.returns-then-names_limits
unfolding lc_named
returns-then-names_limits c =
    let files = c.args.files.now in
    let within : c.files.i < length files = omega (arith, c.files-test.true, c.len-i-end.ensures.len) in
    let rest = list_any names_limits (drop (c.files.i + 1) files) in
    sym (c.files.invariant ∙ any_step names_limits files c.files.i within ∙ ap (λ (b : Bool). b || rest) (sym (c.names_limits.ensures (file_at files (c.files.i + 1)) c.get.ensures) ∙ c.if-names_limits.true))

pub files-preserved : goal.files-preserved
files-preserved c =
    let files = c.args.files.now in
    let within : c.files.i < length files = omega (arith, c.files-test.true, c.len-i-end.ensures.len) in
    let rest = list_any names_limits (drop (c.files.i + 1) files) in
    c.files.invariant ∙ any_step names_limits files c.files.i within ∙ ap (λ (b : Bool). b || rest) (sym (c.names_limits.ensures (file_at files (c.files.i + 1)) c.get.ensures) ∙ c.if-names_limits.false)

pub returns : goal.returns
unfolding lc_named
returns c = sym (c.files.invariant ∙ any_none names_limits c.args.files.now c.files.i (omega (arith, c.files-test.false, c.len-i-end.ensures.len)))
