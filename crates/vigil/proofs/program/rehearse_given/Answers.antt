use Rattle.std.proofs.Common.{map, drop}
use Rattle.std.specs.Prelude.{string_bytes}
use Rattle.std.specs.Vec.Iter.{into_iter_items}
use Rattle.subjects.specs.Own.{own_subjects}
use Rattle.rehearsal.specs.Promise.{sink_use}
use Rattle.rehearsal.specs.PromiseLaws.{ends_without_memory}
use Rattle.vigil.proofs.program.rehearse_given.Goals as goal

pub returns-in_default-clause-promise : goal.returns-in_default-clause-promise
returns-in_default-clause-promise g c =
    rw c.in-Ok.is
    (ends_without_memory c.tell_no_memory.result (drop 1 (map string_bytes (into_iter_items c.in-Ok.texts))) own_subjects g.S.Shelf.told g.S.Shelf.is_open g.S.Shelf.faults g.S.Shelf.mark c.args.shelf.now g.O.Sink.held g.O.Sink.faults c.args.out.now
    (sink_use g.E.Sink.held g.E.Sink.faults c.args.err.now c.tell_no_memory.new.err) c.tell_no_memory.ensures.same c.tell_no_memory.ensures.told)

pub returns-in_default-own_subjects-clause-promise : goal.returns-in_default-own_subjects-clause-promise
returns-in_default-own_subjects-clause-promise g c =
    rw c.in-Ok.is
    (ends_without_memory c.tell_no_memory-in_default-own_subjects.result (drop 1 (map string_bytes (into_iter_items c.in-Ok.texts))) own_subjects g.S.Shelf.told g.S.Shelf.is_open g.S.Shelf.faults g.S.Shelf.mark c.args.shelf.now g.O.Sink.held g.O.Sink.faults c.args.out.now
    (sink_use g.E.Sink.held g.E.Sink.faults c.args.err.now c.tell_no_memory-in_default-own_subjects.new.err) c.tell_no_memory-in_default-own_subjects.ensures.same c.tell_no_memory-in_default-own_subjects.ensures.told)

pub returns-clause-promise : goal.returns-clause-promise
returns-clause-promise g c =
    rw c.in-Ok.is (rw (← c.in-Ok-words_behind_name.ensures) (rw c.in-Ok-own_subjects.ensures.subjects at c.vigil_with.ensures))
