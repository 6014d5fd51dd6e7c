-- Items that get their sequence counts, one after another.
use Rattle.std.proofs.Common.{◌≡◌, ℕ, ◌+◌, ◌<◌, true, List, [], ◌∷◌, ◌++◌, length, take, drop, get_or, sym, ◌∙◌, ap, subst, append_assoc, arith}
use Rattle.std.proofs.lemmas.List.{get_or-drop}
use Rattle.std.specs.List.{AllPass, flat_map}
use Rattle.std.proofs.lemmas.Grind.{flat_map-append, drop_more_same}
use Rattle.histories.specs.Words.{along}
use Rattle.histories.proofs.Along.{along_more, along_none, along_both, along_same}
use Rattle.histories.proofs.Fronts.{front_more, flat_map_front}
use Rattle.bus_pipes.specs.Counted.{is_item_counted}
use Rattle.bus_pipes.specs.declared.names.Out.{Out}
use Rattle.packet_log.specs.Sent.{makes, as_sent}
use Rattle.packet_log.specs.Standing.{Stands as LogStands}
use Rattle.frame_wires.specs.Sending.{sent_of}

-- no items
pub sent_none : (made : List (List ℕ)) → sent_of made [] ≡ []
unfolding sent_of
sent_none made = along_none (λ before item. as_sent (made ++ flat_map makes before) item)

-- the front of the items, one longer
pub sent_front : (made : List (List ℕ)) (items : List Out) (i : ℕ) (item sent : Out) (earlier now : List Out) → i < length items → item ≡ get_or items i item
    → earlier ≡ sent_of made (take i items) → sent ≡ as_sent (made ++ flat_map makes (take i items)) item → now ≡ earlier ++ sent ∷ [] → now ≡ sent_of made (take (i + 1) items)
unfolding sent_of
sent_front made items i item sent earlier now within is before one more =
    more ∙ ap (λ (xs : List Out). xs ++ sent ∷ []) before
    ∙ ap (λ (x : Out). along (λ front y. as_sent (made ++ flat_map makes front) y) (take i items) ++ x ∷ []) one
    ∙ sym (along_more (λ front y. as_sent (made ++ flat_map makes front) y) (take i items) item)
    ∙ ap (along (λ front y. as_sent (made ++ flat_map makes front) y)) (sym (front_more items i item within is))

-- the packets that the front of the items makes, one longer
pub made_front : (made : List (List ℕ)) (items : List Out) (i : ℕ) (item : Out) (counts : List ℕ) → i < length items → item ≡ get_or items i item
    → LogStands ((made ++ flat_map makes (take i items)) ++ makes item) counts → LogStands (made ++ flat_map makes (take (i + 1) items)) counts
made_front made items i item counts within is stands =
    subst (λ (packets : List (List ℕ)). LogStands packets counts) (append_assoc made (flat_map makes (take i items)) (makes item) ∙ ap (λ (more : List (List ℕ)). made ++ more) (sym (flat_map_front makes items i item within is))) stands

-- items behind items that were sent
pub sent_both : (made : List (List ℕ)) (items more : List Out) → sent_of made (items ++ more) ≡ sent_of made items ++ sent_of (made ++ flat_map makes items) more
unfolding sent_of
sent_both made items more =
    along_both (λ before item. as_sent (made ++ flat_map makes before) item) items more
    ∙ ap (λ (xs : List Out). along (λ before item. as_sent (made ++ flat_map makes before) item) items ++ xs)
    (along_same _ (λ before item. as_sent ((made ++ flat_map makes items) ++ flat_map makes before) item)
    (λ before item. ap (λ (packets : List (List ℕ)). as_sent packets item) (ap (λ (packets : List (List ℕ)). made ++ packets) (flat_map-append makes items before) ∙ sym (append_assoc made (flat_map makes items) (flat_map makes before)))) more)

-- the packets that two lists of items make
pub made_two : (made : List (List ℕ)) (items more : List Out) (counts : List ℕ) → LogStands ((made ++ flat_map makes items) ++ flat_map makes more) counts → LogStands (made ++ flat_map makes (items ++ more)) counts
made_two made items more counts stands =
    subst (λ (packets : List (List ℕ)). LogStands packets counts) (append_assoc made (flat_map makes items) (flat_map makes more) ∙ ap (λ (packets : List (List ℕ)). made ++ packets) (sym (flat_map-append makes items more))) stands

-- a list of items that was sent, and the lists behind it
pub sent_then : (made : List (List ℕ)) (items sent more rest : List Out) → sent ≡ sent_of made items → rest ≡ sent_of (made ++ flat_map makes items) more → sent ++ rest ≡ sent_of made (items ++ more)
sent_then made items sent more rest one others = ap (λ (xs : List Out). xs ++ rest) one ∙ ap (λ (xs : List Out). sent_of made items ++ xs) others ∙ sym (sent_both made items more)

-- an item in what is left, which is as at the start
module _ (start now : List Out) (i : ℕ) (same : drop i now ≡ drop i start) where
  pub left_item : (d : Out) → get_or now i d ≡ get_or start i d
  left_item d = ap (λ (n : ℕ). get_or now n d) plain ∙ sym (get_or-drop i now 0 d) ∙ ap (λ (xs : List Out). get_or xs 0 d) same ∙ get_or-drop i start 0 d ∙ ap (λ (n : ℕ). get_or start n d) (sym plain)
    where
      plain : i ≡ i + 0
      plain = omega arith

  pub left_more : drop (i + 1) now ≡ drop (i + 1) start
  left_more = drop_more_same now start i same

-- an item of a list whose items are all counted
pub counted_at : (items : List Out) (i : ℕ) (item : Out) → AllPass is_item_counted items → i < length items → item ≡ get_or items i item → is_item_counted item ≡ true
counted_at items i item all within is = ap is_item_counted is ∙ all i item within
