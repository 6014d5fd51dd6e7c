use Rattle.std.proofs.Common.{◌≡◌, ◌%◌, length, ℕ, ◌+◌, ◌∙◌, List, [], ◌∷◌, ◌++◌, take, set, sym, ap, subst}
use Rattle.std.proofs.lemmas.List.{take_more, take_all, length-take-le}
use Rattle.lc_watch.specs.Newest.{AreNoted}
use Rattle.lc_watch.proofs.Noting.{noted_none, noted_more}
use Rattle.lc_watch.proofs.newest.places_of.Goals as goal

pub loop-place-init : goal.loop-place-init
loop-place-init c = noted_none

pub loop-place-preserved : goal.loop-place-preserved
loop-place-preserved c =
    let packets = c.args.packets.now in
    let place = c.loop-place.place in
    let p = c.index-packets-place.result in
    let within = c.loop-place-test.true in
    let long : length (take place packets) ≡ place = length-take-le place packets c.loop-place.auto.place-end in
    subst (λ (seen : List (List ℕ)). AreNoted seen (set c.loop-place.places c.slot_of.result (place + 1)))
    (sym (take_more packets place p within ∙ ap (λ (q : List ℕ). take place packets ++ q ∷ []) (sym c.index-packets-place.is)))
    (subst (λ (count : ℕ). AreNoted (take place packets ++ p ∷ []) (set c.loop-place.places c.slot_of.result (count + 1))) long
    (noted_more (take place packets) c.loop-place.places p c.slot_of.result (c.slot_of.ensures.slot ∙ ap (λ (id : ℕ). id % 64) c.mid.ensures) c.slot_of.ensures.within c.loop-place.invariant))

pub returns : goal.returns
returns c = subst (λ (packets : List (List ℕ)). AreNoted packets c.loop-place.places) (take_all c.loop-place.place c.args.packets.now c.loop-place-test.false) c.loop-place.invariant
