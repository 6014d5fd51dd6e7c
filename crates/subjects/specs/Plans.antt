-- Simulated flight applications: each goes through a plan of execution counters.
use Rattle.std.specs.Prelude.{◌≡◌, ℕ, zero, suc, ◌+◌, ◌-◌, ◌<◌, ◌==◌, if◌then◌else◌, List, [], ◌∷◌, length, slice_index}
use Rattle.std.specs.List.{range_with_len}

-- The counters of a subject, one a cycle, and the place to which it goes back behind the last one.
pub record Plan : Type 0 where
  pub values : List ℕ
  pub back : ℕ

-- A subject: its name, its plan, and the place in the plan of the counter that comes next.
pub record Simulated : Type 0 where
  pub name : List ℕ
  pub plan : Plan
  pub at : ℕ

-- The plan isn't empty, and both places are in it.
pub record IsSimulated (s : Simulated) : Type 0 where
  pub back : s.plan.back < length s.plan.values
  pub at : s.at < length s.plan.values

-- The counter that comes next, and the place of the one behind it.
abbrev pub reading_of : Simulated → ℕ
reading_of s = slice_index s.plan.values s.at

abbrev pub next_place : Simulated → ℕ
next_place s = if s.at + 1 == length s.plan.values then s.plan.back else (s.at + 1)

-- A subject after a cycle, and after a restart.
abbrev pub cycled : Simulated → Simulated
cycled s = record { name = s.name; plan = s.plan; at = next_place s }

abbrev pub restarted : Simulated → Simulated
restarted s = record { name = s.name; plan = s.plan; at = 0 }

-- A subject of this name that stands before the first counter of this plan.
abbrev pub starting : List ℕ → Plan → Simulated
starting name plan = record { name = name; plan = plan; at = 0 }

-- A subject after so many cycles.
abbrev pub cycled_times : ℕ → Simulated → Simulated
cycled_times zero s = s
cycled_times (suc n) s = cycled (cycled_times n s)

-- The counters of so many cycles.
abbrev pub readings_ahead : ℕ → Simulated → List ℕ
readings_ahead zero s = []
readings_ahead (suc n) s = reading_of s ∷ readings_ahead n (cycled s)

-- Two counters in turn.
abbrev pub steady_plan : Plan
steady_plan = record { values = 1 ∷ 2 ∷ []; back = 0 }

-- So many counters that rise from 1; the last one stays.
abbrev pub hanging_plan : ℕ → Plan
hanging_plan after = record { values = range_with_len 1 after; back = after - 1 }

-- From its start a subject is at each place of its plan in turn, and after the last one it is where it was once it had come to back.
abbrev pub GoesRound : Type 0
GoesRound =
    (name : List ℕ) (plan : Plan) → plan.back < length plan.values
    → ((n : ℕ) → n < length plan.values → cycled_times n (starting name plan) ≡ record { name = name; plan = plan; at = n })
    × (cycled_times (length plan.values) (starting name plan) ≡ cycled_times plan.back (starting name plan))
