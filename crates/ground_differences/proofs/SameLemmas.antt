-- Lemmas on lines that are the same but for sequence counts.
use Rattle.std.proofs.Common.{◌≡◌, ◌==◌, ℕ, zero, suc, ◌+◌, ◌<◌, ◌≤◌, min, Bool, true, false, cond, List, [], ◌∷◌, ◌++◌, length, get_or, take, drop, map, refl, ap, sym, ◌∙◌, subst, arith, take-append-drop, MatchBool}
use Rattle.std.specs.Prelude.{◌↔◌, IsTrue}
use Rattle.std.specs.List.{AllByRecursion, AllWithin, HoldsAt, prefix_len, zip}
use Rattle.std.proofs.lemmas.Bool.{eqb-true}
use Rattle.std.proofs.lemmas.List.{map-append, take-map, drop-map, length-map, get_or-map, same_lists}
use Rattle.std.proofs.lemmas.Slice.Zip.{length-zip, get_or-zip}
use Rattle.log_lines.specs.declared.line.LineItem.{LineItem}
use Rattle.log_lines.specs.declared.line.LineItem.TheVariants as items
use Rattle.log_lines.specs.declared.line.LogLine.{LogLine}
use Rattle.log_lines.specs.Lines.{at_frame}
use Rattle.ground_differences.specs.Frames.{is_of, frame_count}
use Rattle.ground_differences.specs.Same.{uncounted, uncounted_item, uncounted_items, AreSameLines}

-- sequence counts are none of a frame's
prefix_uncounted : (frame : ℕ) (lines : List LogLine) → prefix_len (is_of frame) (map uncounted lines) ≡ prefix_len (is_of frame) lines
prefix_uncounted frame [] = refl
prefix_uncounted frame (line ∷ lines) = ap (λ (n : ℕ). cond (line.frame == frame) (1 + n) 0) (prefix_uncounted frame lines)

-- as many of the same lines are of a frame
same_count : (frame : ℕ) (one other : List LogLine) → AreSameLines one other → frame_count frame one ≡ frame_count frame other
same_count frame one other same =
    ap (min 4096) (sym (prefix_uncounted frame one) ∙ ap (prefix_len (is_of frame)) same ∙ prefix_uncounted frame other)

same_front : (n m : ℕ) (one other : List LogLine) → n ≡ m → AreSameLines one other → AreSameLines (take n one) (take m other)
same_front n m one other is same =
    sym (take-map uncounted n one) ∙ ap (take n) same ∙ ap (λ (k : ℕ). take k (map uncounted other)) is ∙ take-map uncounted m other

same_back : (n m : ℕ) (one other : List LogLine) → n ≡ m → AreSameLines one other → AreSameLines (drop n one) (drop m other)
same_back n m one other is same =
    sym (drop-map uncounted n one) ∙ ap (drop n) same ∙ ap (λ (k : ℕ). drop k (map uncounted other)) is ∙ drop-map uncounted m other

items_uncounted : (lines : List LogLine) → map (λ (line : LogLine). line.item) (map uncounted lines) ≡ uncounted_items lines
items_uncounted [] = refl
items_uncounted (line ∷ lines) = ap (λ (more : List LineItem). uncounted_item line.item ∷ more) (items_uncounted lines)

same_items : (one other : List LogLine) → AreSameLines one other → uncounted_items one ≡ uncounted_items other
same_items one other same = sym (items_uncounted one) ∙ ap (map (λ (line : LogLine). line.item)) same ∙ items_uncounted other

abbrev IsIn : ℕ → LogLine → Type 0
IsIn frame line = line.frame ≡ frame

front_one : (frame n : ℕ) (line : LogLine) (lines : List LogLine) (b : Bool) → is_of frame line ≡ b → (n ≤ prefix_len (is_of frame) lines → AllByRecursion (IsIn frame) (take n lines))
    → suc n ≤ cond b (1 + prefix_len (is_of frame) lines) 0 → IsIn frame line × AllByRecursion (IsIn frame) (take n lines)
front_one frame n line lines true e more h = (eqb-true line.frame frame e, more (omega (arith, h)))
front_one frame n line lines false e more h = absurd (omega (arith, h))

-- the first lines that are of a frame are all in it
front_in : (frame n : ℕ) (lines : List LogLine) → n ≤ prefix_len (is_of frame) lines → AllByRecursion (IsIn frame) (take n lines)
front_in frame zero lines h = tt
front_in frame (suc n) [] h = tt
front_in frame (suc n) (line ∷ lines) h = front_one frame n line lines (is_of frame line) refl (front_in frame n lines) h

uncounted_in : (frame : ℕ) (lines : List LogLine) → AllByRecursion (IsIn frame) lines → map uncounted lines ≡ map (at_frame frame) (uncounted_items lines)
uncounted_in frame [] all = refl
uncounted_in frame (line ∷ lines) all =
    let first : uncounted line ≡ at_frame frame (uncounted_item line.item) = ap (λ (n : ℕ). at_frame n (uncounted_item line.item)) all.0 in
    rw (first, uncounted_in frame lines all.1) refl

frames_same : (frame n m : ℕ) (one other : List LogLine) → n ≤ prefix_len (is_of frame) one → m ≤ prefix_len (is_of frame) other
    → uncounted_items (take n one) ≡ uncounted_items (take m other) → AreSameLines (take n one) (take m other)
frames_same frame n m one other few few_others same =
    uncounted_in frame (take n one) (front_in frame n one few) ∙ ap (map (at_frame frame)) same ∙ sym (uncounted_in frame (take m other) (front_in frame m other few_others))

joined : (n : ℕ) (lines : List LogLine) → map uncounted (take n lines) ++ map uncounted (drop n lines) ≡ map uncounted lines
joined n lines = sym (map-append uncounted (take n lines) (drop n lines)) ∙ ap (map uncounted) (take-append-drop n lines)

same_joined : (n m : ℕ) (one other : List LogLine) → AreSameLines (take n one) (take m other) → AreSameLines (drop n one) (drop m other) → AreSameLines one other
same_joined n m one other front back =
    sym (joined n one) ∙ ap (λ (xs : List LogLine). xs ++ map uncounted (drop n one)) front ∙ ap (λ (xs : List LogLine). map uncounted (take m other) ++ xs) back ∙ joined m other

-- lines are the same where a frame of both tells the same and the lines behind it are
pub same_by_frame : (frame : ℕ) (one other : List LogLine)
    → ((uncounted_items (take (frame_count frame one) one) ≡ uncounted_items (take (frame_count frame other) other))
    × AreSameLines (drop (frame_count frame one) one) (drop (frame_count frame other) other)) ↔ AreSameLines one other
same_by_frame frame one other =
    let n = frame_count frame one in
    let m = frame_count frame other in (
      λ h. same_joined n m one other (frames_same frame n m one other (omega arith) (omega arith) h.0) h.1,
      λ same.
          let is : n ≡ m = same_count frame one other same in
          (same_items (take n one) (take m other) (same_front n m one other is same), same_back n m one other is same),
    )

-- ---- lines that are compared one by one

abbrev no_line : LogLine
no_line = record { frame = 0; item = items.Reset }

-- two lines tell the same
abbrev pub TellSame : LogLine × LogLine → Type 0
TellSame lines = uncounted_item lines.0.item ≡ uncounted_item lines.1.item

abbrev item_of : LogLine → LineItem
item_of line = uncounted_item line.item

pair_at : (ones others : List LogLine) (k : ℕ) → k < length ones → k < length others
    → get_or (zip ones others) k (no_line, no_line) ≡ (get_or ones k no_line, get_or others k no_line)
pair_at ones others k one other = get_or-zip ones others k (no_line, no_line) one other

each_same : (ones others : List LogLine) → length ones ≡ length others → AllWithin TellSame (zip ones others) 0 (length (zip ones others))
    → uncounted_items ones ≡ uncounted_items others
each_same ones others size all =
    same_lists (uncounted_items ones) (uncounted_items others) (length-map ones item_of ∙ size ∙ sym (length-map others item_of))
    (λ k d h.
    let one : k < length ones = rw length-map at h in
    let other : k < length others = omega (arith, one, size) in
    let zipped = length-zip ones others in
    let same : item_of (get_or ones k no_line) ≡ item_of (get_or others k no_line) =
    subst TellSame (pair_at ones others k one other) (all k (no_line, no_line) (omega arith) (omega (arith, zipped, one, other))) in
    get_or-map item_of ones k no_line d one ∙ same ∙ sym (get_or-map item_of others k no_line d other))

one_differs : (ones others : List LogLine) (k : ℕ) → k < length (zip ones others) → HoldsAt (λ lines. ¬ TellSame lines) (zip ones others) k
    → uncounted_items ones ≡ uncounted_items others → ⊥
one_differs ones others k h differs same =
    let zipped = length-zip ones others in
    let one : k < length ones = omega (arith, zipped, h) in
    let other : k < length others = omega (arith, zipped, h) in
    let here : item_of (get_or ones k no_line) ≡ item_of (get_or others k no_line) =
    sym (get_or-map item_of ones k no_line items.Reset one) ∙ ap (λ (xs : List LineItem). get_or xs k items.Reset) same ∙ get_or-map item_of others k no_line items.Reset other in
    differs (no_line, no_line) (subst TellSame (sym (pair_at ones others k one other)) here)

-- whether lines tell the same, of what was found of their pairs
pub same_by_pairs : (result : Bool) (ones others : List LogLine) → length ones ≡ length others
    → MatchBool result (AllWithin TellSame (zip ones others) 0 (length (zip ones others)))
    ((k : ℕ) × (k < length (zip ones others)) × HoldsAt (λ lines. ¬ TellSame lines) (zip ones others) k)
    → IsTrue result ↔ (uncounted_items ones ≡ uncounted_items others)
same_by_pairs true ones others size all = (λ told. each_same ones others size all, λ same. refl)
same_by_pairs false ones others size one =
    (λ told. let wrong : ⊥ = cc in absurd wrong, λ same. absurd (one_differs ones others one.0 one.1 one.2 same))

pub lengths_same : (ones others : List LogLine) → uncounted_items ones ≡ uncounted_items others → length ones ≡ length others
lengths_same ones others same = sym (length-map ones item_of) ∙ ap length same ∙ length-map others item_of
