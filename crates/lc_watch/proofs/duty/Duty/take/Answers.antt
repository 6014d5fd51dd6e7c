use Rattle.std.proofs.Common.{List, not, ◌++◌, sym, subst}
use Rattle.lc_watch.specs.Outcomes.{OutcomesStand}
use Rattle.lc_watch.specs.declared.watchpoints.WatchRow.{WatchRow}
use Rattle.lc_watch.proofs.Both.{both_true, off_by_not}
use Rattle.lc_watch.proofs.duty.Duty.take.Goals as goal

pub returns-clause-outcomes : goal.returns-clause-outcomes
returns-clause-outcomes c = λ before stood.
    subst (λ (rows : List WatchRow). OutcomesStand rows (before ++ c.args.telemetry.now) c.take_telemetry-changed.new.outcomes) c.rows.ensures.rows
    (c.take_telemetry-changed.ensures.outcomes before (subst (λ (rows : List WatchRow). OutcomesStand rows before c.args.self.now.outcomes) (sym c.rows.ensures.rows) stood))

pub returns-clause-whole : goal.returns-clause-whole
returns-clause-whole c = c.rows.ensures.whole

pub returns-clause-calm : goal.returns-clause-calm
returns-clause-calm c = λ all.
    let both = both_true c.args.self.now.calm (not c.take_telemetry-changed.result) all in
    (both.0, c.take_telemetry-changed.ensures.unchanged (off_by_not c.take_telemetry-changed.result both.1))
