-- A worker that draws places and does the jobs at them.
use Rattle.std.proofs.Common.{◌≡◌, ℕ, ◌<◌, ◌≤◌, ◌≢◌, Some, List, [], ◌∷◌, ◌++◌, length, get_or, refl, sym, ap, ◌∙◌, arith, All}
use Rattle.std.proofs.lemmas.List.{map-append}
use Rattle.std.proofs.lemmas.List.Elements.{All-map, All-push}
use Rattle.atomic_table.specs.Seated.{TableId}
use Rattle.atomic_table.specs.declared.shared.Seat.{Seat}
use Rattle.crew_board.specs.declared.board.View.{View}
use Rattle.crew_board.specs.declared.row.Row.{Row}
use Rattle.crew_board.specs.Board.{DrawsOne}
use Rattle.crew_board.specs.Claim.{times, IsStrictlyIncreasing}
use Rattle.crew_board.specs.Seats.{jobs_at}
use Rattle.crew_board.specs.Rows.{HasDrawn, HasEnded}
use Rattle.crew_board.proofs.Steps.{drew_below, drew_after}
use Rattle.crew_board.proofs.Times.{stands}

-- a job that isn't chosen isn't that at a place
pub left_out_differs : (chosen : List ℕ) (job place : ℕ) → times job chosen ≡ 0 → place < length chosen → job ≢ get_or chosen place 0
left_out_differs chosen job place none inside = λ (e : job ≡ get_or chosen place 0). let here = stands job chosen place inside (sym e) in omega arith

-- the jobs at earlier places are less than that at a later one
pub jobs_below : (chosen places : List ℕ) (place : ℕ) → IsStrictlyIncreasing chosen → place < length chosen → All (λ p. p < place) places → All (λ job. job < get_or chosen place 0) (jobs_at chosen places)
jobs_below chosen places place rises inside below =
    let at : ℕ → ℕ = λ p. get_or chosen p 0 in
    All-map (λ job. job < get_or chosen place 0) at places (λ k d h. rises (get_or places k d) place (below k d h) inside)

module _ {S : Type 0} (chosen : List ℕ) where
  -- one place more
  pub drawn_more : (place number : ℕ) (seat after : Seat ℕ View) (row new : Row S) → HasDrawn chosen place seat row → place < length chosen → new.drawn.items ≡ row.drawn.items ++ get_or chosen place 0 ∷ []
      → DrawsOne seat.me number after.me → HasDrawn chosen number after new
  drawn_more place number seat after row new before inside is drew =
      let at : ℕ → ℕ = λ p. get_or chosen p 0 in
      let places : List ℕ = before.places in
      record {
        places = places ++ place ∷ [];
        inside = All-push (λ p. p < length chosen) places place before.inside inside;
        below = drew_below (places ++ place ∷ []) number seat.me after.me before.me drew;
        named = is ∙ ap (λ (l : List ℕ). l ++ at place ∷ []) before.named ∙ sym (map-append at places (place ∷ []));
        me = drew_after (places ++ place ∷ []) number seat.me after.me before.me drew;
      }

  -- the number that came last is no place
  pub drawn_all : (id : TableId) (number : ℕ) (seat : Seat ℕ View) (row new : Row S) → HasDrawn chosen number seat row → length chosen ≤ number → seat.table_id ≡ id → new.drawn.items ≡ row.drawn.items
      → new.seat ≡ Some seat → HasEnded id chosen new
  drawn_all id number seat row new drew past table same is = record {
    list = drew.places ++ number ∷ [];
    ends = record { places = drew.places; inside = drew.inside; named = same ∙ drew.named; past = number; is_past = past; is = refl };
    seat = record { seat = seat; is = is; table = table; me = drew.me };
  }
