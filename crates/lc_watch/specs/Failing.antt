-- When an actionpoint fires, by the list of its evaluations. True is an evaluation that fails.
use Rattle.std.specs.Prelude.{◌≡◌, ◌<◌, ℕ, ◌-◌, min, Bool, false, not, ◌&&◌, nat_le, if◌then◌else◌, List, [], ◌∷◌, ◌++◌, length, drop, Option, Some, None}
use Rattle.std.specs.List.{after_last, list_all, flat_map}
use Rattle.histories.specs.Words.{last_or, decided}
use Rattle.lc_watch.specs.declared.points.Point.{Point}

-- The last n of these evaluations exist, and all fail.
unfoldable pub are_failing : ℕ → List Bool → Bool
are_failing n evaluations = nat_le n (length evaluations) && list_all (λ fails. fails) (drop (length evaluations - n) evaluations)

-- Whether an evaluation, where there is one, is the last of n in a row that all fail.
abbrev pub due_by : ℕ → List Bool → Option Bool → Bool
due_by n earlier None = false
due_by n earlier (Some fails) = are_failing n (earlier ++ fails ∷ [])

-- An actionpoint that was active or not by its table fires at an evaluation, where there is one, that is due, where it is active by the
-- latest that set it.
abbrev pub fires_by : Bool → ℕ → List Bool → List Bool → Option Bool → Bool
fires_by start n earlier settings evaluation = last_or start settings && due_by n earlier evaluation

-- A wakeup of an actionpoint: what its commands set it to, and whether it is then due.
pub record Moment : Type 0 where
  pub switches : List Bool
  pub due : Bool

-- What sets an actionpoint active or passive, of moments with whether it fired in them: the commands, and a firing, which makes it passive.
abbrev pub by_firing : Bool → List Bool
by_firing fired = if fired then false ∷ [] else []

abbrev pub set_in : Moment × Bool → List Bool
set_in moment = moment.0.switches ++ by_firing moment.1

unfoldable pub set_by : List (Moment × Bool) → List Bool
set_by earlier = flat_map set_in earlier

-- An actionpoint fires in a moment where it is due, and active by the latest that set it.
abbrev pub fires_in : Bool → List (Moment × Bool) → Moment → Bool
fires_in start earlier moment = last_or start (set_by earlier ++ moment.switches) && moment.due

-- The moments, each with whether the actionpoint fired in it.
unfoldable pub fired_along : Bool → List Moment → List (Moment × Bool)
fired_along start moments = decided (fires_in start) moments

-- How many of the last evaluations fail in a row, up to n.
unfoldable pub failing_since : List Bool → ℕ
failing_since evaluations = length (after_last not evaluations)

abbrev pub failing_of : ℕ → List Bool → ℕ
failing_of n evaluations = min n (failing_since evaluations)

-- What is kept of an actionpoint stands for its evaluations and for what set it.
pub record PointStands (start : Bool) (n : ℕ) (evaluations settings : List Bool) (p : Point) : Type 0 where
  pub active : p.active ≡ last_or start settings
  pub failing : p.failing ≡ failing_of n evaluations

-- An evaluation, where there is one, leaves what is kept of an actionpoint as it is: it passes and no failure is kept, or it fails, as many
-- as the actionpoint asks for are kept, and it is passive.
abbrev pub IsCalm : Option Bool → ℕ → Point → Type 0
IsCalm evaluation n p = (fails : Bool) → evaluation ≡ Some fails → (0 < n) × (p.failing ≡ (if fails then n else 0)) × ((fails && p.active) ≡ false)
