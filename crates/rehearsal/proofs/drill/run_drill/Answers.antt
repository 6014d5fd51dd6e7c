use Rattle.fsw_outside.specs.TellingLaws.{told_nothing, told_map}
use Rattle.packet_log.specs.Logged.{logged}
use Rattle.frame_exec.specs.Beside.{crowd_in}
use Rattle.rehearsal.proofs.Drilled.{none_risen, ran, done_summed, never_refused, unread_summed, memory_summed, leaves_frames}
use Rattle.rehearsal.proofs.drill.run_drill.Goals as goal

pub returns-in-Done-clause-outcome : goal.returns-in-Done-clause-outcome
returns-in-Done-clause-outcome g c = λ k drawn.
    let o = ran c.args.files.now (crowd_in g.C.Subject.seen c.args.crowd.now) k c.run_open-report.result _ _ _ (logged c.run_open-report.new.out) drawn c.start-summary.ensures c.run_open-report.ensures.outcome
    (λ failed. none_risen _ (c.run_open-report.ensures.causes.read_failed failed)) (λ failed. none_risen _ (c.run_open-report.ensures.causes.write_failed failed)) in
    told_map c.write_summary.ensures.sums (λ old new sums. done_summed c.args.files.now (crowd_in g.C.Subject.seen c.args.crowd.now) k c.write_summary.result c.run_open-report.result _ old new c.in-Done.is o sums)

pub returns-in-FileRefused-clause-outcome : goal.returns-in-FileRefused-clause-outcome
returns-in-FileRefused-clause-outcome g c = λ k drawn.
    let o = ran c.args.files.now (crowd_in g.C.Subject.seen c.args.crowd.now) k c.run_open-report.result _ _ _ (logged c.run_open-report.new.out) drawn c.start-summary.ensures c.run_open-report.ensures.outcome
    (λ failed. none_risen _ (c.run_open-report.ensures.causes.read_failed failed)) (λ failed. none_risen _ (c.run_open-report.ensures.causes.write_failed failed)) in
    told_nothing _ _ (λ held. unread_summed c.args.files.now (crowd_in g.C.Subject.seen c.args.crowd.now) k c.run_open-report.result _ held c.in-FileRefused.is o)

pub returns-in-NoMemory-clause-outcome : goal.returns-in-NoMemory-clause-outcome
returns-in-NoMemory-clause-outcome g c = λ k drawn.
    let o = ran c.args.files.now (crowd_in g.C.Subject.seen c.args.crowd.now) k c.run_open-report.result _ _ _ (logged c.run_open-report.new.out) drawn c.start-summary.ensures c.run_open-report.ensures.outcome
    (λ failed. none_risen _ (c.run_open-report.ensures.causes.read_failed failed)) (λ failed. none_risen _ (c.run_open-report.ensures.causes.write_failed failed)) in
    told_nothing _ _ (λ held. memory_summed c.args.files.now (crowd_in g.C.Subject.seen c.args.crowd.now) k c.run_open-report.result _ held c.in-NoMemory.is o)

pub unreachable-requires-in-ScenarioRefused : goal.unreachable-requires-in-ScenarioRefused
unreachable-requires-in-ScenarioRefused g c =
    let of = c.requires.drawn in
    let o = ran c.args.files.now (crowd_in g.C.Subject.seen c.args.crowd.now) of.0 c.run_open-report.result _ _ _ (logged c.run_open-report.new.out) of.1 c.start-summary.ensures c.run_open-report.ensures.outcome
    (λ failed. none_risen _ (c.run_open-report.ensures.causes.read_failed failed)) (λ failed. none_risen _ (c.run_open-report.ensures.causes.write_failed failed)) in
    never_refused c.args.files.now (crowd_in g.C.Subject.seen c.args.crowd.now) of.0 c.run_open-report.result _ o c.in-ScenarioRefused.is

pub returns-in-NoMemory-clause-unrun : goal.returns-in-NoMemory-clause-unrun
returns-in-NoMemory-clause-unrun g c = λ out. leaves_frames c.args.files.now (crowd_in g.C.Subject.seen c.args.crowd.now) c.run_open-report.result _ _ _ _ out c.run_open-report.ensures.outcome
