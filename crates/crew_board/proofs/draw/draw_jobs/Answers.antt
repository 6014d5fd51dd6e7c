use Rattle.std.proofs.Common.{◌≡◌, ℕ, ◌<◌, List, [], ◌∷◌, ◌++◌, length, get_or, refl, sym, ap, ◌∙◌, subst, arith, All}
use Rattle.std.proofs.lemmas.List.{get_or_push, length_push}
use Rattle.std.proofs.lemmas.List.Elements.{All-nil, All-push}
use Rattle.std.proofs.lemmas.Option.{same_Some}
use Rattle.atomic_table.specs.declared.shared.Seat.{Seat}
use Rattle.crew_board.specs.declared.board.View.{View}
use Rattle.crew_board.proofs.Drawing.{left_out_differs, jobs_below, drawn_more, drawn_all}
use Rattle.crew_board.proofs.Steps.{allows, drew_below}
use Rattle.crew_board.proofs.draw.draw_jobs.Goals as goal

pub fetch_add-place-requires : goal.fetch_add-place-requires
fetch_add-place-requires g c =
    let held = c.requires.seat in
    let word = c.args.word.now in
    let same : c.in-Some.seat ≡ held.seat = same_Some c.in-Some.seat held.seat (sym c.in-Some.is ∙ c.take.ensures.value ∙ held.is) in
    let board = c.requires.board.1 in (
      ap (λ (s : Seat ℕ View). s.table_id) same ∙ held.table,
      omega arith,
      allows word.key word.table_id.slots c.in-Some.seat.id [] c.in-Some.seat.me (ap (λ (s : Seat ℕ View). s.me) same ∙ held.me) (All-nil (λ k. k < word.key)),
    )

pub fetch_add-place-requires-in-loop-place : goal.fetch_add-place-requires-in-loop-place
fetch_add-place-requires-in-loop-place g c =
    let inv = c.loop-place.invariant in
    let word = c.args.word.now in
    let board = c.requires.board.1 in
    let key = c.requires.board.0 in
    let test = c.loop-place-test.true in
    let places : List ℕ = inv.drew.places in
    let are_places : All (λ k. k < word.key) (places ++ c.loop-place.place ∷ []) =
    All-push (λ k. k < word.key) places c.loop-place.place (λ k d h. let inside = inv.drew.inside k d h in omega arith) (omega arith) in
    (inv.table, omega arith, allows word.key word.table_id.slots c.loop-place.seat.id (places ++ c.loop-place.place ∷ []) c.loop-place.seat.me inv.drew.me are_places)

pub perform-requires-clause-job : goal.perform-requires-clause-job
perform-requires-clause-job g c = λ _ _. c.requires.chosen.1.1 c.loop-place.place 0 (let test = c.loop-place-test.true in omega arith)

pub perform-requires-clause-new : goal.perform-requires-clause-new
perform-requires-clause-new g c = λ _ _.
    let drew = c.loop-place.invariant.drew in
    let chosen = c.args.chosen.now in
    let place : ℕ = c.loop-place.place in
    subst (All (λ earlier. earlier < get_or chosen place 0)) (sym drew.named)
    (jobs_below chosen drew.places place c.requires.chosen.1.0 (let test = c.loop-place-test.true in omega arith) drew.below)

pub loop-place-smaller : goal.loop-place-smaller
loop-place-smaller g c =
    let inv = c.loop-place.invariant in
    let places : List ℕ = inv.drew.places in
    let place : ℕ = c.loop-place.place in
    let drew = c.fetch_add-place-in-loop-place.ensures.2 in
    let below = drew_below (places ++ place ∷ []) c.fetch_add-place-in-loop-place.result c.loop-place.seat.me c.fetch_add-place-in-loop-place.new.seat.me inv.drew.me drew in
    let last = get_or_push places place 0 (length places) refl in
    let longer = length_push places place in
    let more = below (length places) 0 (omega arith) in
    let test = c.loop-place-test.true in
    omega arith

pub loop-place-preserved : goal.loop-place-preserved
loop-place-preserved g c =
    let inv = c.loop-place.invariant in
    let place : ℕ = c.loop-place.place in
    let number = c.fetch_add-place-in-loop-place.result in
    let new = c.fetch_add-place-in-loop-place.new.seat in
    let ensures_ = c.fetch_add-place-in-loop-place.ensures in
    let inside : place < length c.args.chosen.now = (let test = c.loop-place-test.true in omega arith) in
    record {
      worked = c.perform.ensures.worked;
      table = ensures_.0 ∙ inv.table;
      drew = drawn_more c.args.chosen.now place number c.loop-place.seat new c.loop-place.row c.perform.new.row inv.drew inside c.perform.ensures.drawn ensures_.2;
      others = λ job s none. c.perform.ensures.others job s (left_out_differs c.args.chosen.now job place none inside) ∙ inv.others job s none;
    }

pub returns-clause-ended : goal.returns-clause-ended
returns-clause-ended g c =
    let inv = c.loop-place.invariant in
    drawn_all c.args.chosen.now c.args.word.now.table_id c.loop-place.place c.loop-place.seat c.loop-place.row _ inv.drew (let test = c.loop-place-test.false in omega arith) inv.table refl refl
