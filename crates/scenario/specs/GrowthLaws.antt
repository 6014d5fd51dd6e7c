-- What a text that grows still gives, and how long an open text can be.
use Rattle.std.proofs.Common.{◌≡◌, ℕ, ◌+◌, ◌<◌, ◌≤◌, min, Bool, true, false, nat_lt, List, [], ◌∷◌, ◌++◌, length, map, get_or, Option, Result, Ok, Err, inl, inr, refl, ap, sym, ◌∙◌, subst, arith, length-append}
use Rattle.std.specs.List.{slice_split, onto_first}
use Rattle.std.proofs.lemmas.Bool.Decides.{nat_tests}
use Rattle.std.proofs.lemmas.List.{length-map, get_or_append_left}
use Rattle.scenario.specs.declared.reason.Reason.{Reason}
use Rattle.scenario.specs.declared.reason.Reason.TheVariants as reasons
use Rattle.scenario.specs.declared.sentence.Sentence.{Sentence}
use Rattle.scenario.specs.Texts.{Text, Line, Before, nothing, Given, Reading, Bad, Open, Grows, whole_lines, with_items, reads, passed, given, read, read_bytes, reading, end_of}
use Rattle.scenario.specs.Standing.{is_lf}
use Rattle.scenario.specs.LineLaws.{read_good, read_bad, whole_first, parts_some, reads_short, with_items-with_items, passed_bytes, never_bad}

-- parts in front of parts, the last one and the first one joined
abbrev pub join : List (List ℕ) → List (List ℕ) → List (List ℕ)
join [] qs = qs
join (p ∷ []) [] = p ∷ []
join (p ∷ []) (q ∷ qs) = (p ++ q) ∷ qs
join (p ∷ next ∷ ps) qs = p ∷ join (next ∷ ps) qs

join_none : (qs : List (List ℕ)) → 0 < length qs → qs ≡ join ([] ∷ []) qs
join_none [] h = absurd (omega (arith, h))
join_none (q ∷ qs) h = refl

join_part : (ps qs : List (List ℕ)) → 0 < length ps → [] ∷ join ps qs ≡ join ([] ∷ ps) qs
join_part [] qs h = absurd (omega (arith, h))
join_part (p ∷ ps) qs h = refl

join_onto : (x : ℕ) (ps qs : List (List ℕ)) → 0 < length ps → 0 < length qs → onto_first x (join ps qs) ≡ join (onto_first x ps) qs
join_onto x [] qs h k = absurd (omega (arith, h))
join_onto x (p ∷ []) [] h k = refl
join_onto x (p ∷ []) (q ∷ qs) h k = refl
join_onto x (p ∷ next ∷ ps) qs h k = refl

join_one : (x : ℕ) (xs ys : List ℕ) (b : Bool) → is_lf x ≡ b → slice_split is_lf (xs ++ ys) ≡ join (slice_split is_lf xs) (slice_split is_lf ys)
    → slice_split is_lf (x ∷ xs ++ ys) ≡ join (slice_split is_lf (x ∷ xs)) (slice_split is_lf ys)
join_one x xs ys true e h = rw e (ap (λ ps. [] ∷ ps) h ∙ join_part _ _ (parts_some xs))
join_one x xs ys false e h = rw e (ap (onto_first x) h ∙ join_onto x _ _ (parts_some xs) (parts_some ys))

-- the parts of bytes behind bytes
pub split_append : (xs ys : List ℕ) → slice_split is_lf (xs ++ ys) ≡ join (slice_split is_lf xs) (slice_split is_lf ys)
split_append [] ys = join_none _ (parts_some ys)
split_append (x ∷ xs) ys = join_one x xs ys (is_lf x) refl (split_append xs ys)

length-join : (ps qs : List (List ℕ)) → 0 < length ps → 0 < length (join ps qs)
length-join [] qs h = absurd (omega (arith, h))
length-join (p ∷ []) [] h = omega arith
length-join (p ∷ []) (q ∷ qs) h = omega arith
length-join (p ∷ next ∷ ps) qs h = omega arith

grows_behind : (front : List Given) (ends : List ℕ) (r q : Reading) → Grows r q → Grows (with_items front ends r) (with_items front ends q)
grows_behind front ends r q (inl g) = inl (g.0, (g.1.0, ap (with_items front ends) g.1.1 ∙ with_items-with_items front r.items ends r.stops g.1.0))
grows_behind front ends r q (inr e) = inr (ap (with_items front ends) e)

-- a line of over 640 bytes is bad
too_long : (old : Before) (line : Line) → nat_lt 640 (length line.bytes) ≡ true → reads old line ≡ Err reasons.TooLong
unfolding reads
too_long old line h = rw h refl

long_bad : (end : Bool) (old : Before) (bytes : List ℕ) (takes : ℕ) (more : List Line) → nat_lt 640 (length bytes) ≡ true → 641 ≤ takes
    → read end old (record { bytes = bytes; takes = takes } ∷ more) ≡ record { items = []; ending = Bad (old.lines + 1) reasons.TooLong; stops = (old.bytes + 641) ∷ [] }
long_bad end old bytes takes more h k =
    let most : min 641 takes ≡ 641 = omega arith in
    read_bad end old (record { bytes = bytes; takes = takes }) more reasons.TooLong (too_long old _ h) ∙ rw most refl

longer : (bytes more : List ℕ) → nat_lt 640 (length bytes) ≡ true → (nat_lt 640 (length (bytes ++ more)) ≡ true) × (641 ≤ length (bytes ++ more))
longer bytes more h =
    let size = length-append bytes more in
    let long : 640 < length bytes = grind (arith, nat_tests) in
    (grind (arith, nat_tests), omega arith)

long_last : (end : Bool) (old : Before) (last : List ℕ) (qs : List (List ℕ)) → nat_lt 640 (length last) ≡ true
    → read end old (whole_lines end (join (last ∷ []) qs)) ≡ record { items = []; ending = Bad (old.lines + 1) reasons.TooLong; stops = (old.bytes + 641) ∷ [] }
long_last end old last [] h = rw h (long_bad end old last (length last) [] h (let long : 640 < length last = grind (arith, nat_tests) in omega arith))
long_last end old last (q ∷ []) h = let l = longer last q h in rw l.0 (long_bad end old (last ++ q) _ [] l.0 l.1)
long_last end old last (q ∷ next ∷ qs) h = let l = longer last q h in long_bad end old (last ++ q) _ _ l.0 (omega (arith, l.1))

grow_last : (b end : Bool) (old : Before) (last : List ℕ) (qs : List (List ℕ)) → nat_lt 640 (length last) ≡ b
    → Grows (read false old (whole_lines false (last ∷ []))) (read end old (whole_lines end (join (last ∷ []) qs)))
unfolding read
grow_last true end old last qs h = inr (long_last end old last qs h ∙ sym (rw h (long_bad false old last (length last) [] h (let long : 640 < length last = grind (arith, nat_tests) in omega arith))))
grow_last false end old last qs h = rw h (inl (refl, (_, refl)))

grow_line : (end : Bool) (old : Before) (line : Line) (more after : List Line) (r : Result (Option Sentence) Reason) → reads old line ≡ r
    → ((next : Before) → Grows (read false next more) (read end next after)) → Grows (read false old (line ∷ more)) (read end old (line ∷ after))
grow_line end old line more after (Ok said) e h = rw (read_good false old line more said e, read_good end old line after said e) (grows_behind _ _ _ _ (h (passed old line said)))
grow_line end old line more after (Err reason) e h = inr (read_bad end old line after reason e ∙ sym (read_bad false old line more reason e))

grow_parts : (end : Bool) (old : Before) (ps qs : List (List ℕ)) → Grows (read false old (whole_lines false ps)) (read end old (whole_lines end (join ps qs)))
unfolding read
grow_parts end old [] qs = inl (refl, (_, refl))
grow_parts end old (last ∷ []) qs = grow_last (nat_lt 640 (length last)) end old last qs refl
grow_parts end old (p ∷ next ∷ ps) qs =
    rw (whole_first end p (join (next ∷ ps) qs) (length-join (next ∷ ps) qs (omega arith)))
    (grow_line end old _ _ _ (reads old (record { bytes = p; takes = length p + 1 })) refl (λ later. grow_parts end later (next ∷ ps) qs))

-- an open text that grows keeps its items and its stops, or its bad line
pub texts_grow : (front more : List ℕ) (end : Bool) → Grows (reading (record { bytes = front; closed = false })) (reading (record { bytes = front ++ more; closed = end }))
unfolding reading read_bytes
texts_grow front more end = rw (split_append front more) (grow_parts end nothing (slice_split is_lf front) (slice_split is_lf more))

-- ---- the length of an open text

-- how many bytes parts have, with one more for each
abbrev parts_size : List (List ℕ) → ℕ
parts_size [] = 0
parts_size (p ∷ ps) = length p + 1 + parts_size ps

size_onto : (x : ℕ) (ps : List (List ℕ)) → 0 < length ps → parts_size (onto_first x ps) ≡ parts_size ps + 1
size_onto x [] h = absurd (omega (arith, h))
size_onto x (p ∷ ps) h = omega arith

size_one : (x : ℕ) (xs : List ℕ) (b : Bool) → is_lf x ≡ b → parts_size (slice_split is_lf xs) ≡ length xs + 1 → parts_size (slice_split is_lf (x ∷ xs)) ≡ length (x ∷ xs) + 1
size_one x xs true e h = rw e (omega arith)
size_one x xs false e h = rw e (size_onto x _ (parts_some xs) ∙ omega arith)

split_size : (xs : List ℕ) → parts_size (slice_split is_lf xs) ≡ length xs + 1
split_size [] = refl
split_size (x ∷ xs) = size_one x xs (is_lf x) refl (split_size xs)

abbrev IsOpen : Reading → Type 0
IsOpen r = r.ending ≡ Open

bound_last : (b : Bool) (old : Before) (last : List ℕ) → nat_lt 640 (length last) ≡ b → old.bytes ≤ 16777216 → IsOpen (read false old (whole_lines false (last ∷ []))) → old.bytes + parts_size (last ∷ []) ≤ 16777857
bound_last true old last h small e =
    let bad = long_last false old last [] h in
    absurd (let k : Bad (old.lines + 1) reasons.TooLong ≡ Open = sym (ap (λ (x : Reading). x.ending) bad) ∙ e in cc)
bound_last false old last h small e = let short : length last ≤ 640 = grind (arith, nat_tests) in omega arith

bound_line : (old : Before) (line : Line) (more : List Line) (size : ℕ) (r : Result (Option Sentence) Reason) → reads old line ≡ r
    → ((next : Before) → next.bytes ≤ 16777216 → IsOpen (read false next more) → next.bytes + size ≤ 16777857)
    → IsOpen (read false old (line ∷ more)) → old.bytes + line.takes + size ≤ 16777857
bound_line old line more size (Ok said) e h o =
    let short = reads_short old line said e in
    let bytes = passed_bytes old line said in
    let k = h (passed old line said) (rw bytes short.1) (sym (ap (λ (x : Reading). x.ending) (read_good false old line more said e)) ∙ o) in
    rw bytes at k
bound_line old line more size (Err reason) e h o =
    absurd (let k : Bad (old.lines + 1) reason ≡ Open = sym (ap (λ (x : Reading). x.ending) (read_bad false old line more reason e)) ∙ o in cc)

bound_parts : (ps : List (List ℕ)) (old : Before) → old.bytes ≤ 16777216 → IsOpen (read false old (whole_lines false ps)) → old.bytes + parts_size ps ≤ 16777857
bound_parts [] old small o = omega arith
bound_parts (last ∷ []) old small o = bound_last (nat_lt 640 (length last)) old last refl small o
bound_parts (p ∷ next ∷ ps) old small o =
    let k = bound_line old (record { bytes = p; takes = length p + 1 }) (whole_lines false (next ∷ ps)) (parts_size (next ∷ ps)) _ refl (λ later. bound_parts (next ∷ ps) later) o in
    omega (arith, k)

-- an open text without a bad line has at most 16,777,856 bytes
pub open_is_bounded : (bytes : List ℕ) → (reading (record { bytes = bytes; closed = false })).ending ≡ Open → length bytes ≤ 16777856
unfolding reading read_bytes
open_is_bounded bytes o = omega (arith, bound_parts (slice_split is_lf bytes) nothing (omega arith) o, split_size bytes)

-- ---- stops

-- each item has a stop, and a bad line one more
pub record HasStops (r : Reading) : Type 0 where
  pub items : length r.items ≤ length r.stops
  pub bad : (line : ℕ) (reason : Reason) → r.ending ≡ Bad line reason → length r.stops ≡ length r.items + 1

stops_line : (end : Bool) (old : Before) (line : Line) (more : List Line) (found : Result (Option Sentence) Reason) → reads old line ≡ found
    → ((next : Before) → HasStops (read end next more)) → HasStops (read end old (line ∷ more))
stops_line end old line more (Ok said) e ih =
    let front = given old.sentences said in
    let ends = map (λ _. end_of old line) front in
    let rest = read end (passed old line said) more in
    let later = ih (passed old line said) in
    let same : length ends ≡ length front = length-map front (λ _. end_of old line) in
    let items = length-append front rest.items in
    let stops = length-append ends rest.stops in
    subst HasStops (sym (read_good end old line more said e)) (record {
      items = omega (arith, later.items, items, stops, same);
      bad = λ at reason b. let k = later.bad at reason b in omega (arith, k, items, stops, same);
    })
stops_line end old line more (Err reason) e ih = subst HasStops (sym (read_bad end old line more reason e)) (record { items = omega arith; bad = λ at other b. refl })

has_stops : (end : Bool) (lines : List Line) (old : Before) → HasStops (read end old lines)
unfolding read
has_stops end [] old = record { items = omega arith; bad = λ line reason e. absurd (never_bad end old line reason e) }
has_stops end (line ∷ more) old = stops_line end old line more (reads old line) refl (λ next. has_stops end more next)

pub items_have_stops : (t : Text) → HasStops (reading t)
unfolding reading read_bytes
items_have_stops t = has_stops t.closed (whole_lines t.closed (slice_split is_lf t.bytes)) nothing

-- a stop stays when the text grows
pub stops_stay : (r q : Reading) (n : ℕ) → Grows r q → n < length r.stops → get_or q.stops n 0 ≡ get_or r.stops n 0
stops_stay r q n (inl g) h = ap (λ (x : Reading). get_or x.stops n 0) g.1.1 ∙ get_or_append_left r.stops g.1.0.stops 0 n h
stops_stay r q n (inr e) h = ap (λ (x : Reading). get_or x.stops n 0) e
