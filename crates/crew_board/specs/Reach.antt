-- The board between any two steps on it is a state of the claim machine.
use Rattle.std.specs.Prelude.{◌≡◌, ℕ, List, length, slice_index, flat_map}
use Rattle.atomic_table.specs.Table.{State}
use Rattle.crew_board.specs.declared.board.View.{View}
use Rattle.crew_board.specs.Claim.{ClaimStep, opened, run, IsSchedule}
use Rattle.crew_board.specs.Board.{Keeps}

-- The lists of all views.
abbrev pub all_lists : List View → List (List ℕ)
all_lists views = flat_map (λ v. v.lists) views

-- Some schedule, of as many workers as there are lists, leads the machine to this next number and these lists.
abbrev pub IsReached : (ℕ → ℕ) → ℕ → ℕ → List (List ℕ) → Type 0
IsReached gives jobs next lists =
    (schedule : List ClaimStep) × IsSchedule gives jobs (opened jobs (length lists)) schedule
    × ((run gives (opened jobs (length lists)) schedule).next ≡ next)
    × ((run gives (opened jobs (length lists)) schedule).drawn ≡ lists)

-- Whatever state of the board keeps its rule is reached by the machine: its word is the next number, and the lists in its views are the drawn lists.
abbrev pub BoardLaw : Type 0
BoardLaw = (gives : ℕ → ℕ) (jobs : ℕ) (s : State ℕ View) → Keeps jobs s → IsReached gives jobs (slice_index s.words 0) (all_lists s.views)
