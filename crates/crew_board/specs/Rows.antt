-- The rows of the workers.
use Rattle.std.specs.Prelude.{◌≡◌, ℕ, ◌<◌, ◌≤◌, All, Some, List, [], ◌∷◌, ◌++◌, length, map, vec_len, vec_capacity}
use Rattle.atomic_table.specs.Seated.{TableId}
use Rattle.atomic_table.specs.declared.shared.Seat.{Seat}
use Rattle.crew_board.specs.declared.board.View.{View}
use Rattle.crew_board.specs.declared.row.Row.{Row}
use Rattle.crew_board.specs.Board.{holding}
use Rattle.crew_board.specs.Claim.{times, times_in}
use Rattle.crew_board.specs.Seats.{EndsPast, jobs_at}
use Rattle.crew_board.specs.Work.{AreDone, AreDraws}

-- A row has a scratch for each job, and room to note each.
pub record FitsJobs {S : Type 0} (jobs : ℕ) (row : Row S) : Type 0 where
  pub scratches : vec_len row.scratches ≡ jobs
  pub room : jobs ≤ vec_capacity row.drawn

-- What each row drew.
abbrev pub draws_of : {S : Type 0} → List (Row S) → List (List ℕ)
draws_of {S} rows = map (λ (row : Row S). row.drawn.items) rows

-- The scratches of the first row.
abbrev pub first_scratches : {S : Type 0} → List (Row S) → List S
first_scratches [] = []
first_scratches (row ∷ rows) = row.scratches.items

-- A row whose worker did what it drew.
pub record IsWorked {T S : Type 0} (leaves : T → S → Type 0) (tasks : List T) (row : Row S) : Type 0 where
  pub fits : FitsJobs (length tasks) row
  pub draws : AreDraws (length tasks) row.drawn.items
  pub done : AreDone leaves tasks row.scratches.items row.drawn.items

-- A row with a seat at this board that has this view.
pub record HasSeat {S : Type 0} (id : TableId) (v : View) (row : Row S) : Type 0 where
  pub seat : Seat ℕ View
  pub is : row.seat ≡ Some seat
  pub table : seat.table_id ≡ id
  pub me : seat.me ≡ (v, [])

-- A row that did the jobs at the places that its seat drew before this number.
pub record HasDrawn {S : Type 0} (chosen : List ℕ) (number : ℕ) (seat : Seat ℕ View) (row : Row S) : Type 0 where
  pub places : List ℕ
  pub inside : All (λ place. place < length chosen) places
  pub below : All (λ place. place < number) places
  pub named : row.drawn.items ≡ jobs_at chosen places
  pub me : seat.me ≡ (holding (places ++ number ∷ []), [])

-- A row whose seat drew the places of what the row did, and then a number that is no place.
pub record HasEnded {S : Type 0} (id : TableId) (chosen : List ℕ) (row : Row S) : Type 0 where
  pub list : List ℕ
  pub ends : EndsPast chosen row.drawn.items list
  pub seat : HasSeat id (holding list) row

-- Rows that shared the chosen jobs: each did what it drew, and each of these jobs was drawn as often as it was chosen, and no other one.
pub record AreShared {T S : Type 0} (leaves : T → S → Type 0) (tasks : List T) (chosen : List ℕ) (rows : List (Row S)) : Type 0 where
  pub worked : All (IsWorked leaves tasks) rows
  pub once : (job : ℕ) → times_in job (draws_of rows) ≡ times job chosen
