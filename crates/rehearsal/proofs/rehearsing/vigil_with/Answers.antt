use Rattle.std.proofs.Common.{◌∙◌, map}
use Rattle.frame_exec.specs.Beside.{crowd_in}
use Rattle.rehearsal.specs.Promise.{shelf_use, sink_use}
use Rattle.rehearsal.specs.PromiseLaws.{ends_refused, ends_without_memory}
use Rattle.rehearsal.proofs.Promised.{carries_out, keeps_promise}
use Rattle.rehearsal.proofs.rehearsing.vigil_with.Goals as goal

pub returns-in-Ok-None : goal.returns-in-Ok-None
returns-in-Ok-None g c =
    rw c.told.ensures.same
    (ends_refused c.at.result c.args.words.now (map g.C.Subject.seen c.args.subjects.items) g.S.Shelf.told g.S.Shelf.is_open g.S.Shelf.faults g.S.Shelf.mark c.args.shelf.now g.O.Sink.held g.O.Sink.faults c.args.out.now
    (sink_use g.E.Sink.held g.E.Sink.faults c.args.err.now c.told.new.err) c.at.ensures (c.in-Ok-None.ensures ∙ c.in-Ok-None.field-0-is) c.told.ensures.told)

pub returns-in-Err : goal.returns-in-Err
returns-in-Err g c =
    rw c.told-in-Err.ensures.same
    (ends_without_memory c.at-in-Err.result c.args.words.now (map g.C.Subject.seen c.args.subjects.items) g.S.Shelf.told g.S.Shelf.is_open g.S.Shelf.faults g.S.Shelf.mark c.args.shelf.now g.O.Sink.held g.O.Sink.faults c.args.out.now
    (sink_use g.E.Sink.held g.E.Sink.faults c.args.err.now c.told-in-Err.new.err) c.at-in-Err.ensures c.told-in-Err.ensures.told)

pub returns-in_default : goal.returns-in_default
returns-in_default g c =
    rw c.told-in_default.ensures.same
    (ends_without_memory c.at-in_default.result c.args.words.now (map g.C.Subject.seen c.args.subjects.items) g.S.Shelf.told g.S.Shelf.is_open g.S.Shelf.faults g.S.Shelf.mark c.args.shelf.now g.O.Sink.held g.O.Sink.faults c.args.out.now
    (sink_use g.E.Sink.held g.E.Sink.faults c.args.err.now c.told-in_default.new.err) c.at-in_default.ensures c.told-in_default.ensures.told)

pub returns : goal.returns
returns g c =
    let shelf = shelf_use g.S.Shelf.told g.S.Shelf.is_open g.S.Shelf.faults g.S.Shelf.mark c.args.shelf.now c.carry_out.new.shelf in
    let out = sink_use g.O.Sink.held g.O.Sink.faults c.args.out.now c.carry_out.new.out in
    let crowd = crowd_in g.C.Subject.seen c.in-Ok.crowd in
    let carried = carries_out c.carry_out.result c.in-Ok-Some.plan crowd shelf out c.carry_out.ensures.outcome c.carry_out.ensures.opening c.carry_out.ensures.mark c.carry_out.ensures.opened c.carry_out.ensures.causes in
    rw c.told-2.ensures.same
    (keeps_promise c.carry_out.result c.args.words.now c.in-Ok-Some.plan (map g.C.Subject.seen c.args.subjects.items) crowd shelf out (sink_use g.E.Sink.held g.E.Sink.faults c.args.err.now c.told-2.new.err)
    (c.in-Ok-Some.ensures ∙ c.in-Ok-Some.field-0-is) c.in-Ok.ensures c.carry_out.ensures.accepted carried c.carry_out.ensures.file_refused c.carry_out.ensures.no_memory c.carry_out.ensures.causes c.told-2.ensures.told)
