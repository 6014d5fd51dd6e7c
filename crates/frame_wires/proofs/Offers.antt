-- The packets of items that were sent, offered one item after another.
use Rattle.std.proofs.Common.{◌≡◌, ◌==◌, Bool, true, false, ◌||◌, ℕ, ◌+◌, ◌<◌, ◌≤◌, List, [], ◌∷◌, ◌++◌, length, take, drop, get_or, refl, sym, ◌∙◌, ap, arith, append-nil}
use Rattle.std.proofs.lemmas.Bool.Decides.{nat_tests}
use Rattle.std.specs.Borrow.{Bor}
use Rattle.std.proofs.lemmas.List.{length-append, take-append-drop}
use Rattle.std.specs.List.{flat_map, list_any}
use Rattle.std.proofs.lemmas.List.Folds.{list_any-append}
use Rattle.std.proofs.lemmas.Grind.{flat_map-append}
use Rattle.histories.proofs.Fronts.{flat_map_front}
use Rattle.bus_pipes.specs.Held.{Held, adding}
use Rattle.bus_pipes.specs.Pipes.{Pipes}
use Rattle.bus_pipes.specs.Delivery.{after_offer, drop_of, after_offers, drops_from}
use Rattle.bus_pipes.specs.declared.names.Out.{Out}
use Rattle.bus_pipes.specs.declared.names.Dropped.{Dropped}
use Rattle.bus_pipes.proofs.Deliveries.{after_offers_none, after_offers_more, after_offers_both, drops_none, drops_both, drops_one, adding_none, adding_more, items-adding}
use Rattle.frame_wires.specs.Sending.{packet_in, is_reset, packets_of, shown}

-- one packet was offered
pub offers_one : (before now : Pipes) (p : List ℕ) → now ≡ after_offer before p → now ≡ after_offers before (p ∷ [])
offers_one before now p one = one ∙ sym (after_offers_more before [] p ∙ ap (λ (pipes : Pipes). after_offer pipes p) (after_offers_none before))

-- and what was dropped of it
pub drops_of_one : (before : Pipes) (held now : Held Dropped) (p : List ℕ) → now ≡ adding held (drop_of before p) → now ≡ adding held (drops_from before (p ∷ []))
drops_of_one before held now p one = one ∙ ap (λ (more : List Dropped). adding held more) (sym (drops_one before p))

-- none was offered
pub offers_none : (before : Pipes) → before ≡ after_offers before []
offers_none before = sym (after_offers_none before)

-- and nothing was dropped
pub drops_of_none : (before : Pipes) (held : Held Dropped) → held ≡ adding held (drops_from before [])
drops_of_none before held = sym (ap (λ (more : List Dropped). adding held more) (drops_none before) ∙ adding_none held)

-- the front of what is offered, one element longer, by the packets of each element
module _ {A : Type 0} (packets_of : A → List (List ℕ)) where
  pub offers_front : (pipes before now : Pipes) (items : List A) (i : ℕ) (item : A) → i < length items → item ≡ get_or items i item
      → before ≡ after_offers pipes (flat_map packets_of (take i items)) → now ≡ after_offers before (packets_of item) → now ≡ after_offers pipes (flat_map packets_of (take (i + 1) items))
  offers_front pipes before now items i item within is earlier one =
      one ∙ ap (λ (at : Pipes). after_offers at (packets_of item)) earlier
      ∙ sym (after_offers_both pipes (flat_map packets_of (take i items)) (packets_of item))
      ∙ ap (after_offers pipes) (sym (flat_map_front packets_of items i item within is))

  -- and of what was dropped of it
  pub drops_front : (pipes before : Pipes) (start earlier now : Held Dropped) (items : List A) (i : ℕ) (item : A) → i < length items → item ≡ get_or items i item
      → before ≡ after_offers pipes (flat_map packets_of (take i items)) → earlier ≡ adding start (drops_from pipes (flat_map packets_of (take i items)))
      → now ≡ adding earlier (drops_from before (packets_of item)) → now ≡ adding start (drops_from pipes (flat_map packets_of (take (i + 1) items)))
  drops_front pipes before start earlier now items i item within is at held one =
      one ∙ ap (λ (h : Held Dropped). adding h (drops_from before (packets_of item))) held
      ∙ adding_more start (drops_from pipes (flat_map packets_of (take i items))) (drops_from before (packets_of item))
      ∙ ap (λ (pipe : Pipes). adding start (drops_from pipes (flat_map packets_of (take i items)) ++ drops_from pipe (packets_of item))) at
      ∙ ap (λ (more : List Dropped). adding start more) (sym (drops_both pipes (flat_map packets_of (take i items)) (packets_of item)))
      ∙ ap (λ (packets : List (List ℕ)). adding start (drops_from pipes packets)) (sym (flat_map_front packets_of items i item within is))

-- the packets of lists of items
pub in_lists : (lists : List (Bor (List Out))) → flat_map packet_in (shown lists) ≡ flat_map packets_of lists
in_lists [] = refl
in_lists (list ∷ lists) = flat_map-append packet_in list.now (shown lists) ∙ ap (λ (more : List (List ℕ)). flat_map packet_in list.now ++ more) (in_lists lists)

-- what was offered after one list of packets and then another, where nothing was dropped before
pub offers_two : (pipes middle end : Pipes) (first second : List (List ℕ)) → middle ≡ after_offers pipes first → end ≡ after_offers middle second → end ≡ after_offers pipes (first ++ second)
offers_two pipes middle end first second one two = two ∙ ap (λ (at : Pipes). after_offers at second) one ∙ sym (after_offers_both pipes first second)

pub drops_two : (pipes middle : Pipes) (none one both : Held Dropped) (first second : List (List ℕ)) → none.items ≡ [] → middle ≡ after_offers pipes first
    → one ≡ adding none (drops_from pipes first) → both ≡ adding one (drops_from middle second) → both.items ≡ drops_from pipes (first ++ second)
drops_two pipes middle none one both first second empty at a b =
    ap (λ (h : Held Dropped). h.items) b ∙ items-adding one (drops_from middle second)
    ∙ ap (λ (xs : List Dropped). xs ++ drops_from middle second) (ap (λ (h : Held Dropped). h.items) a ∙ items-adding none (drops_from pipes first) ∙ ap (λ (xs : List Dropped). xs ++ drops_from pipes first) empty)
    ∙ ap (λ (pipe : Pipes). drops_from pipes first ++ drops_from pipe second) at ∙ sym (drops_both pipes first second)

-- what the front of lists of items shows, one list longer
pub shown_front : (lists : List (Bor (List Out))) (i : ℕ) (list : Bor (List Out)) → i < length lists → list ≡ get_or lists i list → length (shown (take (i + 1) lists)) ≡ length (shown (take i lists)) + length list.now
shown_front lists i list within is =
    ap (λ (items : List Out). length items) (flat_map_front (λ (l : Bor (List Out)). l.now) lists i list within is) ∙ length-append (shown (take i lists)) list.now

-- a list of items in its place
pub shown_within : (lists : List (Bor (List Out))) (i : ℕ) (list : Bor (List Out)) → i < length lists → list ≡ get_or lists i list → length (shown (take i lists)) + length list.now ≤ length (shown lists)
shown_within lists i list within is =
    let front = shown_front lists i list within is in
    let all = ap (λ (ls : List (Bor (List Out))). length (shown ls)) (sym (take-append-drop (i + 1) lists)) ∙ ap (λ (items : List Out). length items) (flat_map-append (λ (l : Bor (List Out)). l.now) (take (i + 1) lists) (drop (i + 1) lists))
    ∙ length-append (shown (take (i + 1) lists)) (shown (drop (i + 1) lists)) in
    omega (arith, front, all)

-- no packets and no items
pub offers_nothing : (packets : List (List ℕ)) (items : List Out) → true ≡ (length packets == 0) → items ≡ [] → packets ++ flat_map packet_in items ≡ []
offers_nothing [] items none empty = ap (flat_map packet_in) empty
offers_nothing (p ∷ packets) items none empty = absurd (grind (arith, nat_tests))

-- whether an item of six lists asks for a processor reset
pub reset_in_six : (a b c d e f : List Out)
    → (((((list_any is_reset a || list_any is_reset b) || list_any is_reset c) || list_any is_reset d) || list_any is_reset e) || list_any is_reset f) ≡ list_any is_reset (a ++ (b ++ (c ++ (d ++ (e ++ (f ++ []))))))
reset_in_six a b c d e f =
    let A = list_any is_reset a in
    let B = list_any is_reset b in
    let C = list_any is_reset c in
    let D = list_any is_reset d in
    let E = list_any is_reset e in
    let F = list_any is_reset f in
    either (((A || B) || C) || D) E F ∙ either ((A || B) || C) D (E || F) ∙ either (A || B) C (D || (E || F)) ∙ either A B (C || (D || (E || F)))
    ∙ sym (list_any-append is_reset a (b ++ (c ++ (d ++ (e ++ (f ++ []))))) ∙ ap (λ (r : Bool). A || r)
    (list_any-append is_reset b (c ++ (d ++ (e ++ (f ++ [])))) ∙ ap (λ (r : Bool). B || r)
    (list_any-append is_reset c (d ++ (e ++ (f ++ []))) ∙ ap (λ (r : Bool). C || r)
    (list_any-append is_reset d (e ++ (f ++ [])) ∙ ap (λ (r : Bool). D || r)
    (list_any-append is_reset e (f ++ []) ∙ ap (λ (r : Bool). E || r) (ap (list_any is_reset) (append-nil f)))))))
  where
    either : (x y z : Bool) → ((x || y) || z) ≡ (x || (y || z))
    either true y z = refl
    either false y z = refl

-- six lists, one after another, that are each as long as another
pub six_as_long : (a b c d e f u v w x y z : List Out) → length u ≡ length a → length v ≡ length b → length w ≡ length c → length x ≡ length d → length y ≡ length e → length z ≡ length f
    → length (u ++ (v ++ (w ++ (x ++ (y ++ (z ++ [])))))) ≡ length (a ++ (b ++ (c ++ (d ++ (e ++ (f ++ []))))))
six_as_long a b c d e f u v w x y z one two three four five six =
    as_long u a _ _ one (as_long v b _ _ two (as_long w c _ _ three (as_long x d _ _ four (as_long y e _ _ five (as_long z f [] [] six refl)))))
  where
    as_long : (xs ys more others : List Out) → length xs ≡ length ys → length more ≡ length others → length (xs ++ more) ≡ length (ys ++ others)
    as_long xs ys more others one rest = length-append xs more ∙ ap (λ (n : ℕ). n + length more) one ∙ ap (λ (n : ℕ). length ys + n) rest ∙ sym (length-append ys others)
