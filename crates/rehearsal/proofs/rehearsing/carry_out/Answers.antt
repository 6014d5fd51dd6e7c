use Rattle.std.proofs.Common.{◌<◌, ◌+◌, length, refl, sym, inl, arith}
use Rattle.fsw_outside.specs.TellingLaws.{told_nothing, told_map, told_then, told_and}
use Rattle.frame_exec.specs.Beside.{crowd_in}
use Rattle.rehearsal.proofs.Beginnings.{some_faulty}
use Rattle.rehearsal.proofs.Stages.{opens_front, opens_all, ends_before, ends_at_tables, reads_scenario, runs_drill, asked_or_none}
use Rattle.rehearsal.proofs.rehearsing.carry_out.Goals as goal

pub returns-in-Err-clause-outcome : goal.returns-in-Err-clause-outcome
returns-in-Err-clause-outcome g c =
    told_map c.in-Err.ensures.content (λ before after first.
    ends_before c.args.plan.now (crowd_in g.C.Subject.seen c.args.crowd.now) c.files.result.now (length c.take_files.new.files + 1) c.in-Err.report _ before after c.files.ensures.value first.0 first.1 (told_nothing _ _ (λ held. refl)))

pub returns-in-Err-clause-opening : goal.returns-in-Err-clause-opening
returns-in-Err-clause-opening g c =
    told_map c.in-Err.ensures.content (λ before after first. opens_front c.args.plan.now c.files.result.now (length c.take_files.new.files + 1) before after c.files.ensures.value first.0)

pub returns-in-Err-load-clause-outcome : goal.returns-in-Err-load-clause-outcome
returns-in-Err-load-clause-outcome g c =
    let faulty = some_faulty c.take_files.new.files c.in-Err-load.fault c.in-Err-load.ensures.fault in
    let some : 0 < length c.files.result.now = omega (arith, faulty, c.in-Ok.ensures.all) in
    told_map c.in-Ok.ensures.content (λ before after first.
    ends_at_tables c.args.plan.now (crowd_in g.C.Subject.seen c.args.crowd.now) c.files.result.now c.file_refused.result c.in-Err-load.fault c.take_files.new.files _ before after c.files.ensures.value some
    c.file_refused.ensures c.in-Err-load.ensures.fault first.0 first.1 first.2 (told_nothing _ _ (λ held. refl)))

pub returns-in-Err-load-clause-opening : goal.returns-in-Err-load-clause-opening
returns-in-Err-load-clause-opening g c =
    told_map c.in-Ok.ensures.content (λ before after first. opens_front c.args.plan.now c.files.result.now (length c.files.result.now) before after c.files.ensures.value first.0)

pub returns-in-Err-load-clause-opened : goal.returns-in-Err-load-clause-opened
returns-in-Err-load-clause-opened g c = λ read.
    let faulty = some_faulty c.take_files.new.files c.in-Err-load.fault c.in-Err-load.ensures.fault in
    inl (c.in-Ok.ensures.opened (omega (arith, faulty, c.in-Ok.ensures.all)))

pub returns-in-Err-load-clause-mark : goal.returns-in-Err-load-clause-mark
returns-in-Err-load-clause-mark g c =
    let faulty = some_faulty c.take_files.new.files c.in-Err-load.fault c.in-Err-load.ensures.fault in
    inl (c.take_files.ensures.mark (omega (arith, faulty, c.in-Ok.ensures.all)))

pub returns-in-None-clause-outcome : goal.returns-in-None-clause-outcome
returns-in-None-clause-outcome g c =
    told_then c.in-Ok.ensures.content (told_and c.run_scenario.ensures.opening c.run_scenario.ensures.outcome) (λ before middle after first second.
    reads_scenario c.args.plan.now (crowd_in g.C.Subject.seen c.args.crowd.now) c.files.result.now c.run_scenario.result c.scenario.result.now c.take_files.new.files _ (g.S.Shelf.faults c.take_files.new.shelf) before middle after (sym c.in-None.ensures.value) c.files.ensures.value c.in-Ok.ensures.well
    c.scenario.ensures first.0 first.1 c.in-Ok-load.ensures.loaded.well second.0 second.1)

pub returns-in-None-clause-opening : goal.returns-in-None-clause-opening
returns-in-None-clause-opening g c =
    told_then c.in-Ok.ensures.content c.run_scenario.ensures.opening (λ before middle after first second.
    (length c.args.plan.now.files + 1, opens_all c.args.plan.now c.files.result.now c.scenario.result.now before middle after (sym c.in-None.ensures.value) c.files.ensures.value c.scenario.ensures first.0 second))

pub returns-clause-outcome : goal.returns-clause-outcome
returns-clause-outcome g c =
    told_map c.in-Ok.ensures.content (λ before after first.
    runs_drill c.args.plan.now (crowd_in g.C.Subject.seen c.args.crowd.now) c.files.result.now c.run_drill.result c.in-Some.k c.take_files.new.files _ before after (sym c.in-Some.ensures.value) c.files.ensures.value first.0 first.1 first.2 c.in-Ok-load.ensures.loaded.well
    (c.run_drill.ensures.well.1, c.run_drill.ensures.well.2) (c.run_drill.ensures.outcome c.in-Some.k c.start-text.ensures))

pub returns-clause-opening : goal.returns-clause-opening
returns-clause-opening g c =
    told_map c.in-Ok.ensures.content (λ before after first. opens_front c.args.plan.now c.files.result.now (length c.files.result.now) before after c.files.ensures.value first.0)

pub returns-clause-mark : goal.returns-clause-mark
returns-clause-mark g c =
    asked_or_none _ _ _ c.args.plan.now c.in-Some.k c.files.result.now (sym c.in-Some.ensures.value) c.files.ensures.value c.take_files.ensures.mark c.in-Ok.ensures.unasked

pub returns-clause-opened : goal.returns-clause-opened
returns-clause-opened g c = λ read.
    asked_or_none _ _ _ c.args.plan.now c.in-Some.k c.files.result.now (sym c.in-Some.ensures.value) c.files.ensures.value c.in-Ok.ensures.opened c.in-Ok.ensures.unasked
