-- Laws of delivery and of lists with a room.
use Rattle.std.proofs.Common.{◌≡◌, ◌≤◌, ℕ, ◌+◌, List, [], ◌∷◌, ◌++◌, length, refl, sym, ap, ◌∙◌, arith, append-nil, append_assoc, length-append, ◌<◌, get_or, set, take}
use Rattle.std.specs.Prelude.{Option, Some, None, Bool, cond, false, nat_le, ◌==◌}
use Rattle.std.proofs.lemmas.Bool.Decides.{nat_tests}
use Rattle.std.proofs.lemmas.List.Sums.{fold_push, fold-append, sum_by-append, count_by-le-length}
use Rattle.std.proofs.lemmas.List.{take_more, get_or-set_other}
use Rattle.packet_forms.specs.Packets.{message_id}
use Rattle.bus_pipes.specs.Held.{Held, adding}
use Rattle.bus_pipes.specs.Pipes.{Pipes, pipe_of, offered, packets_in, with_packets, count_of_id, held_after}
use Rattle.bus_pipes.specs.Delivery.{pipe_in, after_offer_to, drop_at, after_offer, drop_of, after_offers, drops_from}
use Rattle.bus_pipes.specs.declared.names.PipeName.{PipeName}
use Rattle.bus_pipes.specs.declared.names.PipeName.TheVariants.{Hs, HsEv, Cs, Sc, Mm, Md, Lc, LcTlm}
use Rattle.bus_pipes.specs.declared.names.Dropped.{Dropped}
use Rattle.bus_pipes.specs.declared.names.Offer.{Offer}
use Rattle.bus_pipes.specs.declared.names.Offer.TheVariants.{Kept, Limit, Full}

take_one : (packets : List (List ℕ)) (i : ℕ) (p : List ℕ) → i < length packets → p ≡ get_or packets i p → take (i + 1) packets ≡ take i packets ++ p ∷ []
take_one packets i p h at = take_more packets i p h ∙ ap (λ (q : List ℕ). take i packets ++ q ∷ []) (sym at)

-- the packets of an id in two lists
pub count_of_both : (id : ℕ) (xs ys : List (List ℕ)) → count_of_id id (xs ++ ys) ≡ count_of_id id xs + count_of_id id ys
unfolding count_of_id
count_of_both id xs ys = sum_by-append (λ (p : List ℕ). cond (message_id p == id) 1 0) xs ys

pub count_of_none : (id : ℕ) → count_of_id id [] ≡ 0
unfolding count_of_id
count_of_none id = refl

count_of_one : (id : ℕ) (p : List ℕ) → count_of_id id (p ∷ []) ≡ cond (message_id p == id) 1 0
unfolding count_of_id
count_of_one id p = omega arith

-- and of the first packets of a list, and of one more
pub count_more : (id : ℕ) (packets : List (List ℕ)) (i : ℕ) (p : List ℕ) (one : ℕ) → i < length packets → p ≡ get_or packets i p → one ≡ cond (message_id p == id) 1 0 → count_of_id id (take i packets) + one ≡ count_of_id id (take (i + 1) packets)
count_more id packets i p one h at is =
    ap (λ (n : ℕ). count_of_id id (take i packets) + n) (is ∙ sym (count_of_one id p))
    ∙ sym (count_of_both id (take i packets) (p ∷ []))
    ∙ ap (count_of_id id) (sym (take_one packets i p h at))

-- no more than there are
pub count_of_few : (id : ℕ) (packets : List (List ℕ)) → count_of_id id packets ≤ length packets
unfolding count_of_id
count_of_few id packets = count_by-le-length (λ (p : List ℕ). message_id p == id) packets

pub under_limit : (limit count : ℕ) → count < limit → false ≡ nat_le limit count
under_limit limit count h = grind (arith, nat_tests)

-- nothing more
pub adding_none : {X : Type 0} (held : Held X) → adding held [] ≡ held
unfolding adding
adding_none held = ap (λ (xs : List _). record { items = xs; room = held.room }) (append-nil held.items)

-- more and then more
pub adding_more : {X : Type 0} (held : Held X) (xs ys : List X) → adding (adding held xs) ys ≡ adding held (xs ++ ys)
unfolding adding
adding_more held xs ys = ap (λ (zs : List _). record { items = zs; room = held.room }) (append_assoc held.items xs ys)

pub items-adding : {X : Type 0} (held : Held X) (xs : List X) → (adding held xs).items ≡ held.items ++ xs
unfolding adding
items-adding held xs = refl

pub room-adding : {X : Type 0} (held : Held X) (xs : List X) → (adding held xs).room ≡ held.room
unfolding adding
room-adding held xs = refl

-- a packet that goes to no pipe
pub after_offer_nowhere : (pipes : Pipes) (p : List ℕ) → pipe_of pipes.watched (message_id p) ≡ None → after_offer pipes p ≡ pipes
unfolding after_offer
after_offer_nowhere pipes p e = rw (e, after_offer) refl

pub drop_of_nowhere : (pipes : Pipes) (p : List ℕ) → pipe_of pipes.watched (message_id p) ≡ None → drop_of pipes p ≡ []
unfolding drop_of
drop_of_nowhere pipes p e = rw (e, drop_of) refl

-- a packet that goes to a pipe
pub after_offer_somewhere : (name : PipeName) (pipes : Pipes) (p : List ℕ) → pipe_of pipes.watched (message_id p) ≡ Some name → after_offer pipes p ≡ after_offer_to name pipes p
unfolding after_offer
after_offer_somewhere name pipes p e = rw (e, after_offer) refl

pub drop_of_somewhere : (name : PipeName) (pipes : Pipes) (p : List ℕ) → pipe_of pipes.watched (message_id p) ≡ Some name → drop_of pipes p ≡ drop_at name p (offered (pipe_in name pipes) p)
unfolding drop_of
drop_of_somewhere name pipes p e = rw (e, drop_of) refl

-- delivery of one packet more, and of two lists
pub after_offers_none : (pipes : Pipes) → after_offers pipes [] ≡ pipes
unfolding after_offers
after_offers_none pipes = refl

pub after_offers_more : (pipes : Pipes) (packets : List (List ℕ)) (p : List ℕ) → after_offers pipes (packets ++ p ∷ []) ≡ after_offer (after_offers pipes packets) p
unfolding after_offers
after_offers_more pipes packets p = fold_push after_offer pipes packets p

pub after_offers_both : (pipes : Pipes) (packets more : List (List ℕ)) → after_offers pipes (packets ++ more) ≡ after_offers (after_offers pipes packets) more
unfolding after_offers
after_offers_both pipes packets more = fold-append after_offer pipes packets more

pub drops_none : (pipes : Pipes) → drops_from pipes [] ≡ []
unfolding drops_from
drops_none pipes = refl

pub drops_both : (pipes : Pipes) (packets more : List (List ℕ)) → drops_from pipes (packets ++ more) ≡ drops_from pipes packets ++ drops_from (after_offers pipes packets) more
unfolding drops_from after_offers
drops_both pipes [] more = refl
drops_both pipes (p ∷ packets) more =
    ap (λ (xs : List Dropped). drop_of pipes p ++ xs) (drops_both (after_offer pipes p) packets more)
    ∙ sym (append_assoc (drop_of pipes p) (drops_from (after_offer pipes p) packets) (drops_from (after_offers (after_offer pipes p) packets) more))

pub drops_one : (pipes : Pipes) (p : List ℕ) → drops_from pipes (p ∷ []) ≡ drop_of pipes p
unfolding drops_from
drops_one pipes p = append-nil (drop_of pipes p)

pub drops_more : (pipes : Pipes) (packets : List (List ℕ)) (p : List ℕ) → drops_from pipes (packets ++ p ∷ []) ≡ drops_from pipes packets ++ drop_of (after_offers pipes packets) p
drops_more pipes packets p =
    drops_both pipes packets (p ∷ []) ∙ ap (λ (xs : List Dropped). drops_from pipes packets ++ xs) (drops_one (after_offers pipes packets) p)

-- a packet is dropped once at most
drop_at_few : (name : PipeName) (p : List ℕ) (offer : Offer) → length (drop_at name p offer) ≤ 1
drop_at_few name p Kept = omega arith
drop_at_few name p Limit = omega arith
drop_at_few name p Full = omega arith

drop_somewhere_few : (to : Option PipeName) (pipes : Pipes) (p : List ℕ) → length {A = Dropped} (elim to [ None ↦ [] | Some name ↦ drop_at name p (offered (pipe_in name pipes) p) ]) ≤ 1
drop_somewhere_few None pipes p = omega arith
drop_somewhere_few (Some name) pipes p = drop_at_few name p (offered (pipe_in name pipes) p)

pub drop_few : (pipes : Pipes) (p : List ℕ) → length (drop_of pipes p) ≤ 1
unfolding drop_of
drop_few pipes p = drop_somewhere_few (pipe_of pipes.watched (message_id p)) pipes p

pub drops_few : (pipes : Pipes) (packets : List (List ℕ)) → length (drops_from pipes packets) ≤ length packets
unfolding drops_from
drops_few pipes [] = omega arith
drops_few pipes (p ∷ packets) =
    let one = drop_few pipes p in
    let rest = drops_few (after_offer pipes p) packets in
    simp length-append (omega arith)

-- the packets of a pipe that got other packets
pub packets_in_same : (name : PipeName) (packets : List (List ℕ)) (pipes : Pipes) → packets_in name (with_packets name packets pipes) ≡ packets
packets_in_same Hs packets pipes = refl
packets_in_same HsEv packets pipes = refl
packets_in_same Cs packets pipes = refl
packets_in_same Sc packets pipes = refl
packets_in_same Mm packets pipes = refl
packets_in_same Md packets pipes = refl
packets_in_same Lc packets pipes = refl
packets_in_same LcTlm packets pipes = refl

-- the pipes in a list, the number of each in it, and the pipe of a number
abbrev listed : Pipes → List (List (List ℕ))
listed pipes = pipes.hs ∷ pipes.hs_ev ∷ pipes.cs ∷ pipes.sc ∷ pipes.mm ∷ pipes.md ∷ pipes.lc ∷ pipes.lc_tlm ∷ []

abbrev number_of : PipeName → ℕ
number_of Hs = 0
number_of HsEv = 1
number_of Cs = 2
number_of Sc = 3
number_of Mm = 4
number_of Md = 5
number_of Lc = 6
number_of LcTlm = 7

abbrev with_number : ℕ → PipeName
with_number n = get_or (Hs ∷ HsEv ∷ Cs ∷ Sc ∷ Mm ∷ Md ∷ Lc ∷ LcTlm ∷ []) n Hs

numbered : (name : PipeName) → with_number (number_of name) ≡ name
numbered Hs = refl
numbered HsEv = refl
numbered Cs = refl
numbered Sc = refl
numbered Mm = refl
numbered Md = refl
numbered Lc = refl
numbered LcTlm = refl

packets_listed : (name : PipeName) (pipes : Pipes) → packets_in name pipes ≡ get_or (listed pipes) (number_of name) []
packets_listed Hs pipes = refl
packets_listed HsEv pipes = refl
packets_listed Cs pipes = refl
packets_listed Sc pipes = refl
packets_listed Mm pipes = refl
packets_listed Md pipes = refl
packets_listed Lc pipes = refl
packets_listed LcTlm pipes = refl

with_listed : (name : PipeName) (packets : List (List ℕ)) (pipes : Pipes) → listed (with_packets name packets pipes) ≡ set (listed pipes) (number_of name) packets
with_listed Hs packets pipes = refl
with_listed HsEv packets pipes = refl
with_listed Cs packets pipes = refl
with_listed Sc packets pipes = refl
with_listed Mm packets pipes = refl
with_listed Md packets pipes = refl
with_listed Lc packets pipes = refl
with_listed LcTlm packets pipes = refl

-- and the packets of the others
pub packets_in_other : (name held : PipeName) (packets : List (List ℕ)) (pipes : Pipes) → (name ≡ held → ⊥) → packets_in held (with_packets name packets pipes) ≡ packets_in held pipes
packets_in_other name held packets pipes apart =
    let others : number_of held ≡ number_of name → ⊥ = λ same. apart (sym (numbered name) ∙ ap with_number (sym same) ∙ numbered held) in
    packets_listed held (with_packets name packets pipes)
    ∙ ap (λ (xs : List (List (List ℕ))). get_or xs (number_of held) []) (with_listed name packets pipes)
    ∙ get_or-set_other (listed pipes) (number_of name) (number_of held) packets [] others
    ∙ sym (packets_listed held pipes)

-- the pipes that are there stay the same
watched_with : (name : PipeName) (packets : List (List ℕ)) (pipes : Pipes) → (with_packets name packets pipes).watched ≡ pipes.watched
watched_with Hs packets pipes = refl
watched_with HsEv packets pipes = refl
watched_with Cs packets pipes = refl
watched_with Sc packets pipes = refl
watched_with Mm packets pipes = refl
watched_with Md packets pipes = refl
watched_with Lc packets pipes = refl
watched_with LcTlm packets pipes = refl

watched_after_one : (pipes : Pipes) (p : List ℕ) → (after_offer pipes p).watched ≡ pipes.watched
unfolding after_offer after_offer_to
watched_after_one pipes p = by_pipe (pipe_of pipes.watched (message_id p))
  where
    by_pipe : (to : Option PipeName) → (let x : Pipes = elim to [ None ↦ pipes | Some name ↦ after_offer_to name pipes p ] in x.watched) ≡ pipes.watched
    by_pipe None = refl
    by_pipe (Some name) = watched_with name (held_after (packets_in name pipes) p (offered (pipe_in name pipes) p)) pipes

pub watched_after : (pipes : Pipes) (packets : List (List ℕ)) → (after_offers pipes packets).watched ≡ pipes.watched
unfolding after_offers
watched_after pipes [] = refl
watched_after pipes (p ∷ packets) = watched_after (after_offer pipes p) packets ∙ watched_after_one pipes p

-- delivery of the first packets of a list, and of one more
pub front_after : (pipes before now : Pipes) (packets : List (List ℕ)) (i : ℕ) (p : List ℕ) → i < length packets → p ≡ get_or packets i p → before ≡ after_offers pipes (take i packets) → now ≡ after_offer before p → now ≡ after_offers pipes (take (i + 1) packets)
front_after pipes before now packets i p h at e f =
    f ∙ ap (λ (b : Pipes). after_offer b p) e ∙ sym (after_offers_more pipes (take i packets) p)
    ∙ ap (after_offers pipes) (sym (take_one packets i p h at))

pub front_drops : (pipes before : Pipes) (held earlier now : Held Dropped) (packets : List (List ℕ)) (i : ℕ) (p : List ℕ) → i < length packets → p ≡ get_or packets i p → before ≡ after_offers pipes (take i packets) → earlier ≡ adding held (drops_from pipes (take i packets)) → now ≡ adding earlier (drop_of before p) → now ≡ adding held (drops_from pipes (take (i + 1) packets))
front_drops pipes before held earlier now packets i p h at e f g =
    g ∙ ap (λ (b : Held Dropped). adding b (drop_of before p)) f
    ∙ adding_more held (drops_from pipes (take i packets)) (drop_of before p)
    ∙ ap (λ (b : Pipes). adding held (drops_from pipes (take i packets) ++ drop_of b p)) e
    ∙ ap (adding held) (sym (drops_more pipes (take i packets) p))
    ∙ ap (λ (front : List (List ℕ)). adding held (drops_from pipes front)) (sym (take_one packets i p h at))

-- there is room for as many drops as there are packets
pub room_for_drops : (pipes : Pipes) (held : Held Dropped) (packets : List (List ℕ)) → length (adding held (drops_from pipes packets)).items ≤ length held.items + length packets
unfolding adding
room_for_drops pipes held packets =
    let few = drops_few pipes packets in
    simp length-append (omega arith)

-- the pipe of a packet that is sent, found by its id
pub sent : (pipes : Pipes) (p : List ℕ) {watched : Bool} {id : ℕ} {to wanted : Option PipeName} → watched ≡ pipes.watched → id ≡ message_id p → to ≡ pipe_of watched id → to ≡ wanted → pipe_of pipes.watched (message_id p) ≡ wanted
sent pipes p {watched} same is found wants = sym (ap (λ (w : Bool). pipe_of w (message_id p)) same) ∙ sym (ap (pipe_of watched) is) ∙ sym found ∙ wants

-- a packet that goes to a pipe, as its offer came out
pub routed : (name : PipeName) (pipes now : Pipes) (p : List ℕ) → pipe_of pipes.watched (message_id p) ≡ Some name → now ≡ after_offer_to name pipes p → now ≡ after_offer pipes p
routed name pipes now p e f = f ∙ sym (after_offer_somewhere name pipes p e)

pub dropped : (name : PipeName) (pipes : Pipes) (p : List ℕ) (offer : Offer) (held : Held Dropped) → pipe_of pipes.watched (message_id p) ≡ Some name → offer ≡ offered (pipe_in name pipes) p → adding held (drop_at name p offer) ≡ adding held (drop_of pipes p)
dropped name pipes p offer held e f =
    ap (λ (o : Offer). adding held (drop_at name p o)) f ∙ ap (adding held) (sym (drop_of_somewhere name pipes p e))

pub none_dropped : (pipes : Pipes) (p : List ℕ) (held : Held Dropped) → pipe_of pipes.watched (message_id p) ≡ None → held ≡ adding held (drop_of pipes p)
none_dropped pipes p held e = sym (ap (adding held) (drop_of_nowhere pipes p e) ∙ adding_none held)

pub none_lost : (name : PipeName) (pipes : Pipes) (p : List ℕ) (held : Held Dropped) → pipe_of pipes.watched (message_id p) ≡ Some name → Kept ≡ offered (pipe_in name pipes) p → held ≡ adding held (drop_of pipes p)
none_lost name pipes p held e f = sym (adding_none held) ∙ dropped name pipes p Kept held e f

-- one drop at most for one packet
pub room_for_drop : (pipes : Pipes) (held : Held Dropped) (p : List ℕ) → length (adding held (drop_of pipes p)).items ≤ length held.items + 1
unfolding adding
room_for_drop pipes held p =
    let few = drop_few pipes p in
    simp length-append (omega arith)
