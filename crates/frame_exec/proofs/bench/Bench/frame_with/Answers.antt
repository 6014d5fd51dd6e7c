use Rattle.std.proofs.Common.{◌≡◌, List, [], ◌∷◌, ◌++◌, map, ◌∙◌, subst}
use Rattle.fsw_outside.specs.Told.{WhereTold}
use Rattle.fsw_outside.specs.Written.{AppendsPart}
use Rattle.packet_forms.specs.declared.name.Counter.{Counter}
use Rattle.frame_runs.specs.Runs.{frame_lines}
use Rattle.frame_runs.specs.Crowds.{with_counters, beside}
use Rattle.frame_exec.specs.Standing.{Stands, IsInterrupted}
use Rattle.frame_exec.specs.Stages.{HasGiven}
use Rattle.frame_exec.proofs.Obeying.{obeyed_frame}
use Rattle.frame_exec.proofs.bench.Bench.frame_with.Goals as goal

-- the readings of the crowd are the counters that the frame was run on
pub returns-in-Ok-clause-lines : goal.returns-in-Ok-clause-lines
returns-in-Ok-clause-lines g c = λ setup frames stands.
    subst (λ (counters : List Counter). WhereTold (g.O.Sink.held c.args.sink.now) (g.O.Sink.held c.frame_on.new.sink) (λ before after. after ≡ before ++ frame_lines setup frames (with_counters counters c.args.input.now))) (c.readings.ensures.readings ∙ c.cycle_on.ensures.readings)
    (c.in-Ok.ensures.lines setup frames stands)

pub returns-in-Ok-clause-stands : goal.returns-in-Ok-clause-stands
returns-in-Ok-clause-stands g c = λ setup frames stands.
    subst (λ (counters : List Counter). Stands c.frame_on.new.self setup (frames ++ with_counters counters c.args.input.now ∷ [])) (c.readings.ensures.readings ∙ c.cycle_on.ensures.readings) (c.in-Ok.ensures.stands setup frames stands)

pub returns-in-Ok-clause-crowd : goal.returns-in-Ok-clause-crowd
returns-in-Ok-clause-crowd g c = λ setup frames stands.
    let old = map g.S.Subject.seen c.args.crowd.now.subjects in
    let given = subst (λ (counters : List Counter). HasGiven c.frame_on.new.self setup frames (with_counters counters c.args.input.now)) (c.readings.ensures.readings ∙ c.cycle_on.ensures.readings) (c.in-Ok.ensures.given setup frames stands) in
    obeyed_frame c.frame_on.new.self setup frames (beside old c.args.input.now) old (map g.S.Subject.seen c.cycle_on.new.self.subjects) (map g.S.Subject.seen c.tell.new.crowd.subjects) given c.cycle_on.ensures.subjects c.tell.ensures.subjects

pub returns-in-Ok-clause-readings : goal.returns-in-Ok-clause-readings
returns-in-Ok-clause-readings g c = c.tell.ensures.readings ∙ c.cycle_on.ensures.readings

pub returns-in-Err-clause-lines : goal.returns-in-Err-clause-lines
returns-in-Err-clause-lines g c = λ setup frames stands.
    subst (λ (counters : List Counter). WhereTold (g.O.Sink.held c.args.sink.now) (g.O.Sink.held c.frame_on.new.sink) (λ before after. AppendsPart (frame_lines setup frames (with_counters counters c.args.input.now)) before after))
    (c.readings.ensures.readings ∙ c.cycle_on.ensures.readings) (c.in-Err.ensures.lines setup frames stands)

pub returns-in-Err-clause-interrupted : goal.returns-in-Err-clause-interrupted
returns-in-Err-clause-interrupted g c = λ setup frames stands.
    subst (λ (counters : List Counter). IsInterrupted c.frame_on.new.self setup frames (with_counters counters c.args.input.now)) (c.readings.ensures.readings ∙ c.cycle_on.ensures.readings) (c.in-Err.ensures.interrupted setup frames stands)
