-- A crowd for worked rows: two subjects of one name, and one between them.
use Rattle.std.specs.Prelude.{ℕ, List, [], ◌∷◌, replicate}
use Rattle.subjects.specs.Plans.{Simulated, starting, steady_plan, hanging_plan}

abbrev pub nav : List ℕ
nav = 78 ∷ 65 ∷ 86 ∷ replicate 17 0

abbrev pub pwr : List ℕ
pwr = 80 ∷ 87 ∷ 82 ∷ replicate 17 0

-- a name that begins as the second one does, and which nobody has
abbrev pub pwr2 : List ℕ
pwr2 = 80 ∷ 87 ∷ 82 ∷ 50 ∷ replicate 16 0

abbrev pub three : List Simulated
three = starting nav steady_plan ∷ starting pwr (hanging_plan 4) ∷ starting nav (record { values = 5 ∷ 5 ∷ 6 ∷ []; back = 0 }) ∷ []
