-- Lemmas on the map of a scenario's header.
use Rattle.std.proofs.Common.{◌≡◌, ◌≢◌, ℕ, ◌<◌, Bool, true, false, List, [], ◌∷◌, ◌++◌, length, take, drop, Some, None, refl, ap, sym, subst, ◌∙◌, arith, append-nil, append_assoc, inl, inr, length-append}
use Rattle.std.proofs.lemmas.Bool.{false≢true}
use Rattle.std.proofs.lemmas.List.{take-append-drop}
use Rattle.memory_window.specs.declared.regions.Region.{Region}
use Rattle.scenario.specs.declared.reader.Reader.{Reader}
use Rattle.scenario.specs.declared.item.Item.{Item as Answer}
use Rattle.scenario.specs.declared.item.Item.TheVariants as answers
use Rattle.scenario.specs.FrameLists.{Frame}
use Rattle.scenario.specs.Texts.{Text, Given, Head, Whole, Reading, Grows, reading}
use Rattle.scenario.specs.Answers.{answer_at_end}
use Rattle.scenario.specs.Standing.{Stands, is_finished, fed, closed}
use Rattle.scenario.specs.TextLaws.{texts_grow, given_first}
use Rattle.ground_faults.specs.HeaderMaps.{regions_in, map_said, HasGiven}

some_more : (gave : List Given) (item : Given) → 0 < length (gave ++ item ∷ [])
some_more gave item = let size = length-append gave (item ∷ []) in omega (arith, size)

-- a reader stands for a first part of a text, and gave no header
pub record Heading (r : Reader) (rest text : List ℕ) : Type 0 where
  pub front : List ℕ
  pub gave : List Given
  pub none : regions_in gave ≡ None
  pub stands : Stands r (record { bytes = front; closed = is_finished r }) gave
  pub parts : front ++ rest ≡ text
  pub ended : is_finished r ≡ true → rest ≡ []

-- the reader looked at a line
pub heading_looked : (r q : Reader) (rest text : List ℕ) (h : Heading r rest text) (gave : List Given) → regions_in gave ≡ None → is_finished q ≡ is_finished r
    → Stands q (record { bytes = h.front; closed = is_finished r }) gave → Heading q rest text
heading_looked r q rest text h gave none same stands = record {
  front = h.front;
  gave = gave;
  none = none;
  stands = subst (λ (b : Bool). Stands q (record { bytes = h.front; closed = b }) gave) (sym same) stands;
  parts = h.parts;
  ended = λ e. h.ended (sym same ∙ e);
}

-- some of the rest was fed
pub heading_fed : (r q : Reader) (rest more text : List ℕ) (n : ℕ) (h : Heading r rest text) → is_finished r ≡ false → is_finished q ≡ false → more ≡ drop n rest
    → ((t : Text) (gave : List Given) → Stands r t gave → Stands q (fed t (take n rest)) gave) → Heading q more text
heading_fed r q rest more text n h was is left_ moves = record {
  front = h.front ++ take n rest;
  gave = h.gave;
  none = h.none;
  stands = subst (λ (b : Bool). Stands q (record { bytes = h.front ++ take n rest; closed = b }) h.gave) (was ∙ sym is) (moves (record { bytes = h.front; closed = is_finished r }) h.gave h.stands);
  parts = ap (λ (m : List ℕ). (h.front ++ take n rest) ++ m) left_ ∙ append_assoc h.front (take n rest) (drop n rest) ∙ ap (λ (m : List ℕ). h.front ++ m) (take-append-drop n rest) ∙ h.parts;
  ended = λ e. absurd (false≢true (sym is ∙ e));
}

-- the end was told
pub heading_closed : (r q : Reader) (rest text : List ℕ) (h : Heading r rest text) → is_finished q ≡ true → rest ≡ [] → ((t : Text) (gave : List Given) → Stands r t gave → Stands q (closed t) gave) → Heading q rest text
heading_closed r q rest text h is none moves = record {
  front = h.front;
  gave = h.gave;
  none = h.none;
  stands = subst (λ (b : Bool). Stands q (record { bytes = h.front; closed = b }) h.gave) (sym is) (moves (record { bytes = h.front; closed = is_finished r }) h.gave h.stands);
  parts = h.parts;
  ended = λ _. none;
}

-- a frame is no header
pub no_header : (gave : List Given) (frame : Frame) → regions_in gave ≡ None → regions_in (gave ++ Whole frame ∷ []) ≡ None
no_header [] frame none = refl
no_header (Head epoch regions ∷ more) frame none = absurd (cc)
no_header (Whole first ∷ more) frame none = refl

-- a reader that gave an item has given some
pub has_given : (r q : Reader) (rest text : List ℕ) (h : Heading r rest text) (item : Given) → Stands q (record { bytes = h.front; closed = is_finished r }) (h.gave ++ item ∷ []) → HasGiven q text
has_given r q rest text h item stands = record {
  front = h.front;
  rest = rest;
  closed = is_finished r;
  gave = h.gave ++ item ∷ [];
  parts = h.parts;
  ended = h.ended;
  stands = stands;
  some_items = some_more h.gave item;
}

-- the items of a text that a grown one still gives
still : (r q : Reading) → Grows r q → (more : List Given) × (q.items ≡ r.items ++ more)
still r q (inl g) = (g.1.0.items, ap (λ (x : Reading). x.items) g.1.1)
still r q (inr e) = ([], ap (λ (x : Reading). x.items) e ∙ sym (append-nil r.items))

-- the items of a first part are still given by the whole text
front_items : (front rest text : List ℕ) (closed : Bool) → front ++ rest ≡ text → (closed ≡ true → rest ≡ [])
    → (more : List Given) × ((reading (record { bytes = text; closed = true })).items ≡ (reading (record { bytes = front; closed = closed })).items ++ more)
front_items front rest text true parts ended =
    let same : front ≡ text = sym (append-nil front) ∙ ap (λ (b : List ℕ). front ++ b) (sym (ended refl)) ∙ parts in
    ([], ap (λ (b : List ℕ). (reading (record { bytes = b; closed = true })).items) (sym same) ∙ sym (append-nil _))
front_items front rest text false parts ended =
    let s = still _ _ (texts_grow front rest true) in
    (s.0, ap (λ (b : List ℕ). (reading (record { bytes = b; closed = true })).items) (sym parts) ∙ s.1)

-- the map that a reader has is that of the whole text
pub map_is : (r : Reader) (text : List ℕ) (epoch : ℕ) (regions : List Region) (frames : List Given) (h : HasGiven r text) → h.gave ≡ Head epoch regions ∷ frames → map_said text ≡ Some regions
unfolding map_said
map_is r text epoch regions frames h is =
    let given = given_first r (record { bytes = h.front; closed = h.closed }) h.gave h.stands in
    let whole = front_items h.front h.rest text h.closed h.parts h.ended in
    let items : (reading (record { bytes = text; closed = true })).items ≡ ((Head epoch regions ∷ frames) ++ given.0) ++ whole.0 =
    whole.1 ∙ ap (λ (items : List Given). items ++ whole.0) (given.1 ∙ ap (λ (gave : List Given). gave ++ given.0) is) in
    ap regions_in items

-- a text whose first part ends without a header
no_map_at : (front rest text : List ℕ) (closed : Bool) (gave : List Given) (answer : Answer) → front ++ rest ≡ text → (closed ≡ true → rest ≡ [])
    → gave ≡ (reading (record { bytes = front; closed = closed })).items → answer ≡ answer_at_end (reading (record { bytes = front; closed = closed })).ending
    → answer ≢ answers.More → regions_in gave ≡ None → map_said text ≡ None
unfolding map_said
no_map_at front rest text true gave answer parts ended all at not none =
    let same : front ≡ text = sym (append-nil front) ∙ ap (λ (b : List ℕ). front ++ b) (sym (ended refl)) ∙ parts in
    ap (λ (b : List ℕ). regions_in (reading (record { bytes = b; closed = true })).items) (sym same) ∙ ap regions_in (sym all) ∙ none
no_map_at front rest text false gave answer parts ended all at not none = elim (texts_grow front rest true) [
  | inl grows ↦ absurd (not (at ∙ ap answer_at_end grows.0))
  | inr same ↦ ap (λ (b : List ℕ). regions_in (reading (record { bytes = b; closed = true })).items) (sym parts)
      ∙ ap (λ (x : Reading). regions_in x.items) same ∙ ap regions_in (sym all) ∙ none
]

pub no_map : (r : Reader) (rest text : List ℕ) (h : Heading r rest text) (answer : Answer)
    → h.gave ≡ (reading (record { bytes = h.front; closed = is_finished r })).items → answer ≡ answer_at_end (reading (record { bytes = h.front; closed = is_finished r })).ending
    → answer ≢ answers.More → map_said text ≡ None
no_map r rest text h answer all at not = no_map_at h.front rest text (is_finished r) h.gave answer h.parts h.ended all at not h.none
