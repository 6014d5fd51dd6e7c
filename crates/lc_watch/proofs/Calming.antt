-- A wakeup in which all actionpoints are calm.
use Rattle.std.proofs.Common.{◌≡◌, ℕ, zero, suc, ◌+◌, ◌-◌, ◌<◌, ◌≤◌, ◌%◌, Bool, true, false, List, [], ◌∷◌, ◌++◌, length, Option, Some, None, option_to_list, refl, sym, ap, subst, ◌∙◌, arith}
use Rattle.std.specs.List.{flat_map}
use Rattle.bus_pipes.specs.Held.{Held, adding}
use Rattle.bus_pipes.specs.declared.names.Out.{Out}
use Rattle.bus_pipes.proofs.Deliveries.{adding_none}
use Rattle.lc_watch.specs.Outcomes.{outcome_at, kept_at}
use Rattle.lc_watch.specs.Actionpoints.{act_at, evaluation_of}
use Rattle.lc_watch.specs.Failing.{by_firing, fires_by, IsCalm, PointStands}
use Rattle.lc_watch.specs.Histories.{Input, Setup, ordered_at, switches_in, telemetry_of, evaluation_at, evaluations_of}
use Rattle.lc_watch.specs.Firing.{starts_active, settings_of, fires, fired_at, fired_of, fired_count}
use Rattle.lc_watch.specs.Answers.{point_items}
use Rattle.lc_watch.specs.State.{PointsStand, AwaitsEvaluation, AreCalm, point_at}
use Rattle.lc_watch.specs.declared.outcomes.Outcome.{Outcome}
use Rattle.lc_watch.specs.declared.actionpoints.ActRow.{ActRow}
use Rattle.lc_watch.specs.declared.points.Point.{Point}
use Rattle.lc_watch.proofs.Evaluating.{evaluation_same}
use Rattle.lc_watch.proofs.Rows.{unseen_stands, unseen_fires, passes_stands, passes_fires, all_stands, all_fires}
use Rattle.lc_watch.proofs.Following.{fired_more}
use Rattle.lc_watch.proofs.Serving.{IsPoint, served_is, fired_below, below_none, below_more, below_all}

-- the actionpoint in a place is calm
abbrev pub IsCalmAt : List Outcome → List ActRow → ℕ → Point → Type 0
IsCalmAt outcomes actions k p = IsCalm (evaluation_of (kept_at outcomes) (act_at actions k)) (act_at actions k).failures p

-- what an evaluation leaves of a calm actionpoint, and that it doesn't fire
abbrev IsLeft : Bool → ℕ → List Bool → List Bool → Point → Option Bool → Type 0
IsLeft start n xs settings p o = PointStands start n (xs ++ option_to_list o) (settings ++ by_firing (fires_by start n xs settings o)) p × (fires_by start n xs settings o ≡ false)

calm_by : (start : Bool) (n : ℕ) (xs settings : List Bool) (p : Point) → PointStands start n xs settings p → (o : Option Bool) → IsCalm o n p → IsLeft start n xs settings p o
calm_by start n xs settings p stood None calm = (unseen_stands start n xs settings p stood, sym (unseen_fires start n xs settings p stood))
calm_by start n xs settings p stood (Some true) calm =
    let kept = calm true refl in
    let some : 0 < n = kept.0 in
    let row : p.failing ≡ n = kept.1 in
    let passive : p.active ≡ false = kept.2 in
    let whole : n - 1 ≤ p.failing = omega (arith, row) in
    let failed = all_stands start n xs settings p stood whole some in
    (record { active = passive ∙ failed.active; failing = row ∙ failed.failing }, sym (all_fires start n xs settings p stood whole some) ∙ passive)
calm_by start n xs settings p stood (Some false) calm =
    let kept = calm false refl in
    let none : p.failing ≡ 0 = kept.1 in
    let passed = passes_stands start n xs settings p stood kept.0 in
    (record { active = passed.active; failing = none ∙ passed.failing }, sym (passes_fires start n xs settings p stood kept.0))

module _ (setup : Setup) (history : List Input) (input : Input) (outcomes : List Outcome) (points : List Point) (awaits : AwaitsEvaluation setup history input outcomes points) (calm : AreCalm (kept_at outcomes) setup.actions points) where
  left_at : (k : ℕ) → k < 16
      → IsLeft (starts_active (act_at setup.actions k)) (act_at setup.actions k).failures (evaluations_of setup k history) (settings_of setup k history ++ switches_in k (ordered_at setup input)) (point_at points k) (evaluation_at setup k (history ++ input ∷ []))
  left_at k within =
      let row = act_at setup.actions k in
      let xs = evaluations_of setup k history in
      let settings = settings_of setup k history ++ switches_in k (ordered_at setup input) in
      subst (IsLeft (starts_active row) row.failures xs settings (point_at points k))
      (evaluation_same (kept_at outcomes) (outcome_at setup.watch (telemetry_of (history ++ input ∷ []))) awaits.outcomes row)
      (calm_by (starts_active row) row.failures xs settings (point_at points k) (awaits.points.each k within) (evaluation_of (kept_at outcomes) row) (calm k within))

  calm_is : (k : ℕ) → k < 16 → IsPoint setup (history ++ input ∷ []) [] k (point_at points k)
  calm_is k within = served_is setup history input k (point_at points k) (left_at k within).0

  pub calm_stand : PointsStand setup (history ++ input ∷ []) [] points
  calm_stand = record { long = awaits.points.long; each = λ k within. calm_is k within }

  -- none fires
  calm_below : (n : ℕ) → n ≤ 16 → fired_below setup history input n ≡ []
  calm_below zero few = below_none setup history input
  calm_below (suc n) few =
      let one : suc n ≡ n + 1 = omega arith in
      let silent : fires setup history input n ≡ false = (left_at n (omega arith)).1 in
      ap (fired_below setup history input) one ∙ below_more setup history input n ∙ rw (calm_below n (omega arith), silent) refl

  none_fire : fired_at setup history input ≡ []
  none_fire = sym (below_all setup history input) ∙ calm_below 16 (omega arith)

  pub calm_fired : (fired : ℕ) → fired ≡ fired_count setup history → fired ≡ fired_count setup (history ++ input ∷ [])
  unfolding fired_count
  calm_fired fired is =
      is
      ∙ sym (fired_more setup history input ∙ ap (λ (places : List ℕ). (length (fired_of setup history) + length places) % 65536) none_fire ∙ (let same : (length (fired_of setup history) + 0) % 65536 ≡ length (fired_of setup history) % 65536 = omega arith in same))

  pub calm_items : (time : ℕ) (out : Held Out) → out ≡ adding out (flat_map (point_items time setup.actions) (fired_at setup history input))
  calm_items time out = sym (ap (λ (places : List ℕ). adding out (flat_map (point_items time setup.actions) places)) none_fire ∙ adding_none out)
