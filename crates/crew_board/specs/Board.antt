-- What the seats at the claim board know, how each step changes it, and the rule that every step keeps.
use Rattle.std.specs.Prelude.{◌≡◌, ℕ, ◌+◌, ◌*◌, ◌<◌, ◌≤◌, true, false, if◌then◌else◌, nat_lt, List, [], ◌∷◌, ◌++◌, length, map, slice_index, All, sum_by}
use Rattle.atomic_table.specs.Table.{State, Me}
use Rattle.crew_board.specs.declared.board.View.{View}
use Rattle.crew_board.specs.Claim.{times_in, IsStrictlyIncreasing}

-- The first seat's view at the start, a worker's view as its seat is split off, and one whose list was taken over.
abbrev pub started : View
started = record { first = true; split = 0; lists = [] }

abbrev pub seated : View
seated = record { first = false; split = 0; lists = [] ∷ [] }

abbrev pub spent_view : View
spent_view = record { first = false; split = 0; lists = [] }

-- A worker's view that drew these numbers.
abbrev pub holding : List ℕ → View
holding numbers = record { first = false; split = 0; lists = numbers ∷ [] }

-- The first seat's view once it split off one seat more, and once it took over what another one drew.
abbrev pub split_once_more : View → View
split_once_more v = record { first = v.first; split = v.split + 1; lists = v.lists }

abbrev pub joined : View → View → View
joined v w = record { first = v.first; split = v.split; lists = v.lists ++ w.lists }

-- A view once its seat drew a number.
abbrev pub drawn_by : View → ℕ → View
drawn_by v number = record { first = v.first; split = v.split; lists = map (λ numbers. numbers ++ number ∷ []) v.lists }

-- A draw puts the number that was found behind those drawn before, and it is greater than each of them.
abbrev pub DrawsOne : Me ℕ View → ℕ → Me ℕ View → Type 0
DrawsOne before number after = (after ≡ (drawn_by before.0 number, before.1)) × All (λ numbers. All (λ n. n < number) numbers) before.0.lists

-- 1 for the first seat's view, and how many lists and how many numbers a view has.
abbrev pub mark_of : View → ℕ
mark_of v = if v.first then 1 else 0

abbrev pub lists_of : View → ℕ
lists_of v = length v.lists

abbrev pub numbers_of : View → ℕ
numbers_of v = sum_by (λ numbers. length numbers) v.lists

-- 1 where a number is below the next one, else 0.
abbrev pub once_below : ℕ → ℕ → ℕ
once_below number next = if nat_lt number next then 1 else 0

-- The first seat split off at most 16 others. No other one split off any, and it has one list, or none once it was joined.
abbrev pub IsProper : View → Type 0
IsProper v = (v.split ≤ 16 * mark_of v) × (v.first ≡ false → lists_of v ≤ 1)

-- What a worker draws rises, and only its last number may be no job's.
abbrev pub IsDrawing : ℕ → List ℕ → Type 0
IsDrawing jobs numbers = IsStrictlyIncreasing numbers × ((k : ℕ) → k + 1 < length numbers → slice_index numbers k < jobs)

-- The rule: exactly one view is the first seat's; there are as many lists as seats were split off; each number below the next one stands in
-- exactly one list of one view, once, and no other number stands in any.
pub record Kept (jobs next : ℕ) (views : List View) : Type 0 where
  pub few : jobs ≤ 64
  pub marks : sum_by mark_of views ≡ 1
  pub proper : All IsProper views
  pub tally : sum_by (λ v. v.split) views ≡ sum_by lists_of views
  pub counts : (number : ℕ) → sum_by (λ v. times_in number v.lists) views ≡ once_below number next
  pub numbers : sum_by numbers_of views ≡ next
  pub lists : All (λ v. All (IsDrawing jobs) v.lists) views

abbrev pub Keeps : ℕ → State ℕ View → Type 0
Keeps jobs s = (length s.words ≡ 1) × Kept jobs (slice_index s.words 0) s.views
