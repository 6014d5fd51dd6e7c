-- A wakeup between its commands and its firings.
use Rattle.std.proofs.Common.{◌≡◌, ℕ, true, List, ◌++◌, length, refl, sym, subst, ◌∙◌}
use Rattle.bus_pipes.specs.declared.names.Counts.{Counts}
use Rattle.lc_watch.specs.Outcomes.{outcome_at, kept_at, OutcomesStand}
use Rattle.lc_watch.specs.Histories.{Input, Setup, ordered_at, telemetry_of}
use Rattle.lc_watch.specs.Firing.{is_active, fired_count}
use Rattle.lc_watch.specs.Housekeeping.{results_of, active_bits, housekeeping_of, housekeeping_at}
use Rattle.lc_watch.specs.State.{PointsStand, DutyStands, HasTaken, AreCalm}
use Rattle.lc_watch.specs.declared.outcomes.Outcome.{Outcome}
use Rattle.lc_watch.specs.declared.instructions.Instruction.{Instruction}
use Rattle.lc_watch.specs.declared.duty.Duty.{Duty}
use Rattle.lc_watch.proofs.Following.{telemetry_more}

module _ (setup : Setup) (history : List Input) (input : Input) where
  -- the telemetry was taken behind the commands
  pub has_taken : (before after : Duty) → length setup.watch ≡ 32 → DutyStands setup history (ordered_at setup input) before
      → OutcomesStand setup.watch (telemetry_of history ++ input.seen) after.outcomes → after.points ≡ before.points → after.fired ≡ before.fired
      → (after.calm ≡ true → (before.calm ≡ true) × (after.outcomes ≡ before.outcomes)) → HasTaken setup history input after
  has_taken before after whole stood outcomes points fired calm = record {
    whole = whole;
    outcomes = subst (λ (telemetry : List (List ℕ)). OutcomesStand setup.watch telemetry after.outcomes) (sym (telemetry_more history input)) outcomes;
    points = subst (PointsStand setup history (ordered_at setup input)) (sym points) stood.points;
    fired = fired ∙ stood.fired;
    calm = λ is.
        let same = calm is in
        subst (AreCalm (kept_at after.outcomes) setup.actions) (sym points)
        (subst (λ (outcomes : List Outcome). AreCalm (kept_at outcomes) setup.actions before.points) (sym same.1) (stood.calm same.0));
  }

  -- housekeeping shows what the commands before it left
  pub housekeeping_shown : (counts : Counts) (orders : List Instruction) (now active fired results : ℕ) (p : List ℕ) → input.time ≡ now
      → active ≡ active_bits (is_active setup history orders) → fired ≡ fired_count setup history → results ≡ results_of (outcome_at setup.watch (telemetry_of history))
      → p ≡ housekeeping_of now counts active fired results → p ≡ housekeeping_at setup history input counts orders
  unfolding housekeeping_at
  housekeeping_shown counts orders now active fired results p timed bits count codes is = rw timed (is ∙ rw (bits, count, codes) refl)
