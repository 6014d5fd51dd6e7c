use Rattle.ground_making.specs.MadeFiles.{asked_by}
use Rattle.ground_making.proofs.VerbLemmas.{ends_made}
use Rattle.ground_making.proofs.made_files.make_file.Goals as goal

pub returns-then-wants_load : goal.returns-then-wants_load
returns-then-wants_load g c = λ before was.
    ends_made (asked_by c.args.wanted.now) c.make_load.result before c.in-Ok.bytes.items c.as_slice-bytes.result.now _ _ _ was c.read_input.ensures.held (c.in-Ok.ensures.bytes before was)
    c.as_slice-bytes.ensures.value c.make_load.ensures.done c.make_load.ensures.undone c.make_load.ensures.cause

pub returns : goal.returns
returns g c = λ before was.
    ends_made (asked_by c.args.wanted.now) c.make_bytes.result before c.in-Ok.bytes.items c.as_slice-bytes.result.now _ _ _ was c.read_input.ensures.held (c.in-Ok.ensures.bytes before was)
    c.as_slice-bytes.ensures.value c.make_bytes.ensures.done c.make_bytes.ensures.undone c.make_bytes.ensures.cause
