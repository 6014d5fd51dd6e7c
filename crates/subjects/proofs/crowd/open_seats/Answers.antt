use Rattle.std.proofs.Common.{◌≡◌, List, [], ◌∷◌, ◌++◌, length, refl, sym, ap, ◌∙◌, append_assoc, append-nil, arith}
use Rattle.std.proofs.lemmas.List.{length-map, map-append}
use Rattle.std.specs.Vec.Iter.{into_iter_items}
use Rattle.subjects.specs.declared.seat.Seat.{Seat}
use Rattle.subjects.specs.Seats.{held}
use Rattle.subjects.proofs.crowd.open_seats.Goals as goal

nothing_left : {X : Type 0} (l : List X) → length l ≡ 0 → l ≡ []
nothing_left [] h = refl
nothing_left (x ∷ xs) h = absurd (omega arith)

pub loop-subject-preserved : goal.loop-subject-preserved
loop-subject-preserved g c =
    let at = c.loop-subject in
    let subject = c.in-Some.subject in
    let steps : into_iter_items at.subject-iterator ≡ subject ∷ into_iter_items c.next.new.self = c.in-Some.ensures.steps.0 in
    let pushed = c.push_reserved.ensures in
    record {
      order = append_assoc at.yielded (subject ∷ []) _ ∙ rw (← steps) at.invariant.order;
      left = (let was = at.invariant.left in let gone = c.in-Some.ensures.steps.1 in let short = ap length steps in omega arith);
      seated = ap held pushed.items ∙ map-append (λ (s : Seat g.row.S.Denot). s.subject) at.seats.items (_ ∷ [])
          ∙ ap (λ front. front ++ subject ∷ []) at.invariant.seated;
      room = (let was = at.invariant.room in let len = pushed.len in let same = pushed.capacity in let short = ap length steps in omega arith);
    }

pub returns : goal.returns
returns g c =
    let at = c.loop-subject in
    let none = c.in-None.ensures.steps in
    let empty : into_iter_items at.subject-iterator ≡ [] = nothing_left _ (sym at.invariant.left ∙ none.0) in
    let all = sym (append-nil at.yielded) ∙ rw empty at at.invariant.order ∙ c.into_iter-subject-iterator.ensures.into_iter_gives.0 in
    let subjects = at.invariant.seated ∙ all in
    record {
      subjects = subjects;
      len = (let a = length-map at.seats.items (λ (s : Seat g.row.S.Denot). s.subject) in let e = ap length subjects in let k = at.seats.ok.0 in let m = c.args.subjects.ok.0 in omega arith);
    }
