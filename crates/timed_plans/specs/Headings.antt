-- The frames in which the lines below a heading stand.
use Rattle.std.specs.Prelude.{ℕ, zero, suc, ◌+◌, ◌-◌, ◌/◌, if◌then◌else◌, nat_le, List, [], ◌∷◌}
use Rattle.timed_plans.specs.declared.heading.Heading.{Heading}

-- the frames from n on, a step apart, none behind the last one, so many at most
unfoldable pub stepped : ℕ → ℕ → ℕ → ℕ → List ℕ
stepped zero n step last = []
stepped (suc k) n step last = if nat_le n last then n ∷ stepped k (n + step) step last else []

-- the frames of a heading
abbrev pub frames_in : Heading → List ℕ
frames_in h = stepped h.count h.first h.step h.last

-- one frame
abbrev pub frame_alone : ℕ → Heading
frame_alone n = record { first = n; step = 1; count = 1; last = n }

-- each p-th frame from frame a on, up to the one before frame b
abbrev pub frames_between : ℕ → ℕ → ℕ → Heading
frames_between p a b = record { first = a; step = p; count = (b - a - 1) / p + 1; last = b - 1 }
