use Rattle.std.proofs.Common.{ℕ, List, sym, subst, replicate}
use Rattle.lc_watch.specs.Outcomes.{OutcomesStand}
use Rattle.lc_watch.specs.Histories.{setup_of}
use Rattle.lc_watch.specs.declared.outcomes.Outcome.TheVariants.{Unseen}
use Rattle.lc_watch.proofs.Following.{telemetry_none, fired_none}
use Rattle.lc_watch.proofs.Taking.{none_stand}
use Rattle.lc_watch.proofs.duty.Duty.start.Goals as goal

pub returns : goal.returns
returns c = λ watch. record {
  outcomes = subst (λ (telemetry : List (List ℕ)). OutcomesStand watch telemetry (replicate 32 Unseen)) (sym telemetry_none) (none_stand watch);
  points = c.begin_all.ensures watch;
  fired = sym (fired_none (setup_of watch c.args.actions.now));
  calm = λ is. cc;
}
