use Rattle.std.proofs.Common.{◌≡◌, ◌<◌, ◌≤◌, List, ℕ, length, Some, None, sym, subst, ◌∙◌}
use Rattle.table_files.specs.Headers.{payload_of_file}
use Rattle.table_files.proofs.Accepted.{long, loaded_bytes, loaded_size}
use Rattle.table_files.proofs.Lists.{load_there}
use Rattle.table_files.proofs.files.Files.load.Goals as goal

pub load_in-requires : goal.load_in-requires
load_in-requires c = long c.in-Some.file.now c.in-Some.ensures.load.0

pub returns-in-Some-clause-load : goal.returns-in-Some-clause-load
returns-in-Some-clause-load c =
    let bytes : c.load_in.result.1.now ≡ payload_of_file c.in-Some.file.now = c.load_in.ensures.bytes ∙ sym (loaded_bytes c.in-Some.file.now c.in-Some.ensures.load.1) in
    rw (c.load_in.ensures.at, bytes)
    (load_there c.self.inside.files.items c.deref.result.now c.args.self.now c.args.n (Some c.in-Some.file.now) c.self.view_is c.deref.ensures.value c.in-Some.ensures.file)

pub returns-in-Some-clause-size : goal.returns-in-Some-clause-size
returns-in-Some-clause-size c =
    let bytes : c.load_in.result.1.now ≡ payload_of_file c.in-Some.file.now = c.load_in.ensures.bytes ∙ sym (loaded_bytes c.in-Some.file.now c.in-Some.ensures.load.1) in
    subst (λ (b : List ℕ). (0 < length b) × (length b ≤ 65536)) (sym bytes) (loaded_size c.in-Some.file.now c.in-Some.ensures.load.0 c.in-Some.ensures.load.1)

pub returns-in-None-clause-load : goal.returns-in-None-clause-load
returns-in-None-clause-load c = load_there c.self.inside.files.items c.deref.result.now c.args.self.now c.args.n None c.self.view_is c.deref.ensures.value c.in-None.ensures.file
