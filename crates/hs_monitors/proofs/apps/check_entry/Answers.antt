use Rattle.std.proofs.Common.{◌++◌, ◌∷◌, []}
use Rattle.hs_actions.specs.declared.action.Source.TheVariants.{AppMonitor}
use Rattle.hs_actions.proofs.Series.{performs_none, performs_one, performs_same}
use Rattle.hs_monitors.proofs.Lists.{off_by_not, on_by_not}
use Rattle.hs_monitors.proofs.Performing.{app_quiet, app_acts}
use Rattle.hs_monitors.proofs.apps.check_entry.Goals as goal

pub returns-then-not-checked-clause-performs : goal.returns-then-not-checked-clause-performs
returns-then-not-checked-clause-performs c = λ checks stood.
    performs_none c.args.acts.now c.args.now _ c.args.actions.now c.args.out.now (λ k. app_quiet c.args.entry.now (checks ++ c.args.counters.now ∷ []) c.check-checked.result.acts k (c.check-checked.ensures.acts checks stood) (off_by_not _ c.if-not-checked.true))

pub returns-clause-performs : goal.returns-clause-performs
returns-clause-performs c = λ checks stood.
    performs_same c.args.acts.now c.args.now _ _ c.args.actions.now c.perform.new.self c.args.out.now c.perform.new.out
    (λ k. app_acts c.args.entry.now (checks ++ c.args.counters.now ∷ []) c.check-checked.result.acts k (c.check-checked.ensures.acts checks stood) (on_by_not _ c.if-not-checked.false))
    (performs_one c.args.acts.now c.args.now AppMonitor c.args.entry.now.name c.args.entry.now.action c.args.actions.now c.perform.new.self c.args.out.now c.perform.new.out c.perform.ensures.stands c.perform.ensures.items)
