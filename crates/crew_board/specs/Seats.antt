-- What the first seat has, once others were split off and joined again.
use Rattle.std.specs.Prelude.{◌≡◌, ℕ, ◌<◌, ◌≤◌, true, All, List, [], ◌∷◌, ◌++◌, length, map, slice_index}
use Rattle.std.specs.List.{AllZip}
use Rattle.crew_board.specs.declared.board.View.{View}
use Rattle.crew_board.specs.Board.{holding, joined}

-- The first seat's view that split off so many others and took these lists over.
abbrev pub split_off : ℕ → List (List ℕ) → View
split_off count lists = record { first = true; split = count; lists = lists }

-- The jobs at these places of a list of chosen jobs.
abbrev pub jobs_at : List ℕ → List ℕ → List ℕ
jobs_at chosen places = map (λ place. slice_index chosen place) places

-- A drawn list is the places of these jobs, and behind them a number that is no place.
pub record EndsPast (chosen jobs list : List ℕ) : Type 0 where
  pub places : List ℕ
  pub inside : All (λ place. place < length chosen) places
  pub named : jobs ≡ jobs_at chosen places
  pub past : ℕ
  pub is_past : length chosen ≤ past
  pub is : list ≡ places ++ past ∷ []

-- The lists are those of what each worker did.
abbrev pub AreEnds : List ℕ → List (List ℕ) → List (List ℕ) → Type 0
AreEnds chosen draws lists = AllZip (EndsPast chosen) draws lists

-- The first seat's view took over the list of a worker that did these jobs.
pub record TakesOne (chosen : List ℕ) (before : View) (jobs : List ℕ) (after : View) : Type 0 where
  pub list : List ℕ
  pub ends : EndsPast chosen jobs list
  pub is : after ≡ joined before (holding list)
