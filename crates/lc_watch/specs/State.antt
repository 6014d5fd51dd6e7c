-- When a state of LC stands for its tables and a history, and when it has nothing to do.
use Rattle.std.specs.Prelude.{◌≡◌, ◌<◌, ℕ, ◌==◌, Bool, not, ◌&&◌, List, [], ◌∷◌, ◌++◌, length, true, false, slice_index_or}
use Rattle.commands.specs.Counting.{counts_of}
use Rattle.lc_watch.specs.Outcomes.{outcome_at, kept_at, OutcomesStand}
use Rattle.lc_watch.specs.Actionpoints.{act_at, evaluation_of, uses_any}
use Rattle.lc_watch.specs.Failing.{PointStands, IsCalm}
use Rattle.lc_watch.specs.Histories.{Input, Setup, setup_of, ordered_at, switches_in, telemetry_of, evaluations_of}
use Rattle.lc_watch.specs.Firing.{starts_active, settings_of, fired_count}
use Rattle.lc_watch.specs.Step.{lc_heard}
use Rattle.lc_watch.specs.declared.watchpoints.WatchRow.{WatchRow}
use Rattle.lc_watch.specs.declared.outcomes.Outcome.{Outcome}
use Rattle.lc_watch.specs.declared.actionpoints.ActRow.{ActRow}
use Rattle.lc_watch.specs.declared.points.Point.{Point}
use Rattle.lc_watch.specs.declared.instructions.Instruction.{Instruction}
use Rattle.lc_watch.specs.declared.duty.Duty.{Duty}
use Rattle.lc_watch.specs.declared.state.Lc.{Lc}

-- What is kept in a place.
abbrev pub point_at : List Point → ℕ → Point
point_at points place = slice_index_or points place (record { active = false; failing = 0 })

-- What is kept of the actionpoints stands for a history, and what was ordered in the next wakeup so far.
pub record PointsStand (setup : Setup) (history : List Input) (orders : List Instruction) (points : List Point) : Type 0 where
  pub long : length points ≡ 16
  pub each : (k : ℕ) → k < 16
      → PointStands (starts_active (act_at setup.actions k)) (act_at setup.actions k).failures (evaluations_of setup k history) (settings_of setup k history ++ switches_in k orders) (point_at points k)

-- The evaluation of each actionpoint by these outcomes leaves what is kept of it as it is.
abbrev pub AreCalm : (ℕ → Outcome) → List ActRow → List Point → Type 0
AreCalm outcome actions points = (k : ℕ) → k < 16 → IsCalm (evaluation_of outcome (act_at actions k)) (act_at actions k).failures (point_at points k)

pub record DutyStands (setup : Setup) (history : List Input) (orders : List Instruction) (duty : Duty) : Type 0 where
  pub outcomes : OutcomesStand setup.watch (telemetry_of history) duty.outcomes
  pub points : PointsStand setup history orders duty.points
  pub fired : duty.fired ≡ fired_count setup history
  pub calm : duty.calm ≡ true → AreCalm (kept_at duty.outcomes) setup.actions duty.points

-- What is kept as a wakeup's actionpoints are to be evaluated: of the watchpoints what its telemetry made of them, of the actionpoints
-- what the history and the wakeup's commands did.
pub record AwaitsEvaluation (setup : Setup) (history : List Input) (input : Input) (watched : List Outcome) (kept : List Point) : Type 0 where
  pub outcomes : (k : ℕ) → kept_at watched k ≡ outcome_at setup.watch (telemetry_of (history ++ input ∷ [])) k
  pub points : PointsStand setup history (ordered_at setup input) kept

-- Once a wakeup's telemetry was taken the outcomes stand for it, and the rest still for the history and what was ordered in the wakeup.
pub record HasTaken (setup : Setup) (history : List Input) (input : Input) (duty : Duty) : Type 0 where
  pub whole : length setup.watch ≡ 32
  pub outcomes : OutcomesStand setup.watch (telemetry_of (history ++ input ∷ [])) duty.outcomes
  pub points : PointsStand setup history (ordered_at setup input) duty.points
  pub fired : duty.fired ≡ fired_count setup history
  pub calm : duty.calm ≡ true → AreCalm (kept_at duty.outcomes) setup.actions duty.points

-- The state stands for the tables and a history.
pub record StandsFor (setup : Setup) (history : List Input) (lc : Lc) : Type 0 where
  pub counts : lc.counts ≡ counts_of (lc_heard setup history)
  pub duty : DutyStands setup history [] lc.duty
  pub uses : lc.uses ≡ uses_any setup.actions

unfoldable pub Stands : List WatchRow → List ActRow → List Input → Lc → Type 0
Stands watch actions history lc = StandsFor (setup_of watch actions) history lc

-- Without packets LC has nothing to do where no actionpoint is used.
unfoldable pub is_idle_on : List ActRow → List (List ℕ) → List (List ℕ) → Bool
is_idle_on actions commands telemetry = ((length commands == 0) && (length telemetry == 0)) && not (uses_any actions)
