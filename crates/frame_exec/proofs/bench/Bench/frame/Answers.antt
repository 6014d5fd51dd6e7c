use Rattle.std.proofs.Common.{List, [], ◌∷◌, ◌++◌, subst}
use Rattle.std.specs.Prelude.{OnOk, OnErr}
use Rattle.fsw_outside.specs.Told.{WhereTold}
use Rattle.fsw_outside.specs.Written.{WritesAll}
use Rattle.packet_forms.specs.declared.name.Counter.{Counter}
use Rattle.frame_runs.specs.Runs.{frame_lines}
use Rattle.frame_runs.specs.Crowds.{with_counters}
use Rattle.frame_exec.specs.Standing.{Stands, IsInterrupted}
use Rattle.frame_exec.proofs.bench.Bench.frame.Goals as goal

-- the frame's own counters are those that it was run on
pub returns-clause-lines : goal.returns-clause-lines
returns-clause-lines g c = λ setup frames stands.
    subst (λ (counters : List Counter). WhereTold (g.O.Sink.held c.args.sink.now) (g.O.Sink.held c.frame_on.new.sink) (WritesAll c.frame_on.result (frame_lines setup frames (with_counters counters c.args.input.now)))) c.counters.ensures.value
    (c.frame_on.ensures.lines setup frames stands)

pub returns-clause-stands : goal.returns-clause-stands
returns-clause-stands g c = λ setup frames stands.
    subst (λ (counters : List Counter). OnOk c.frame_on.result (Stands c.frame_on.new.self setup (frames ++ with_counters counters c.args.input.now ∷ []))) c.counters.ensures.value (c.frame_on.ensures.stands setup frames stands)

pub returns-clause-interrupted : goal.returns-clause-interrupted
returns-clause-interrupted g c = λ setup frames stands.
    subst (λ (counters : List Counter). OnErr c.frame_on.result (IsInterrupted c.frame_on.new.self setup frames (with_counters counters c.args.input.now))) c.counters.ensures.value (c.frame_on.ensures.interrupted setup frames stands)
