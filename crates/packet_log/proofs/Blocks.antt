-- What a block and a sink tell together, and the ends of frames in it.
use Rattle.std.proofs.Common.{◌≡◌, ◌<◌, ◌≤◌, ℕ, ◌+◌, ◌-◌, Bool, false, cond, List, [], ◌∷◌, ◌++◌, length, take, drop, map, refl, sym, ap, ◌∙◌, subst, arith, append-nil, append_assoc, length-append, length-drop, take-append-drop, Option, Some, None}
use Rattle.std.specs.Prelude.{nat_lt, option_map, Result, Ok, Err, MatchResult}
use Rattle.std.specs.List.{All}
use Rattle.std.proofs.lemmas.Bool.Decides.{nat_tests}
use Rattle.std.proofs.lemmas.List.{map-append, drop-drop, take_all, take-append-le}
use Rattle.std.proofs.Math.Seq.{take-append-add}
use Rattle.std.proofs.lemmas.List.Elements.{All-nil, All-head, All-tail, All-append, All-push, All-map, All-weaker}
use Rattle.std.proofs.lemmas.List.Sums.{sum_by-append, sum_by-cons}
use Rattle.fsw_outside.specs.Told.{WhereTold}
use Rattle.fsw_outside.specs.Written.{WritesAll}
use Rattle.fsw_outside.specs.TellingLaws.{told_map, told_then}
use Rattle.packet_log.specs.Blocks.{Waiting, Notes, Puts, empty_block, tells, late_in}

-- ends that are no later than a number are no later than a larger one
all_below : (m n : ℕ) (ends : List ℕ) → m ≤ n → All (λ end. end ≤ m) ends → All (λ end. end ≤ n) ends
all_below m n ends h some = All-weaker (λ (end : ℕ). end ≤ m) (λ (end : ℕ). end ≤ n) (λ end below. le_trans end m n below h) ends some
  where
    le_trans : (a b c : ℕ) → a ≤ b → b ≤ c → a ≤ c
    le_trans a b c one two = omega arith

all_shifted : (before n : ℕ) (ends : List ℕ) → All (λ end. end ≤ n) ends → All (λ end. end ≤ before + n) (map (λ end. before + end) ends)
all_shifted before n ends some =
    All-map (λ (end : ℕ). end ≤ before + n) (λ (end : ℕ). before + end) ends
    (All-weaker (λ (end : ℕ). end ≤ n) (λ (end : ℕ). before + end ≤ before + n) (λ end below. omega arith) ends some)

-- the same bytes in all and the same ends
pub notes_kept : (ends : List ℕ) (given : ℕ) (old new : Waiting) → new.taken + length new.bytes ≡ old.taken + length old.bytes → new.ends ≡ old.ends → Notes ends given old → Notes ends given new
notes_kept ends given old new size same notes = record {
  before = notes.before;
  size = let is = notes.size in omega arith;
  earlier = notes.earlier;
  whole = notes.whole ∙ ap (λ (es : List ℕ). notes.earlier ++ map (λ (end : ℕ). notes.before + end) es) (sym same);
  handed = notes.handed;
  within = rw (size, same) notes.within;
}

-- all was handed on
pub notes_handed : (ends : List ℕ) (given : ℕ) (old : Waiting) → Notes ends given old → Notes ends given empty_block
notes_handed ends given old notes = record {
  before = given;
  size = omega arith;
  earlier = ends;
  whole = sym (append-nil ends);
  handed =
      let is = notes.size in
      subst (λ (es : List ℕ). All (λ (end : ℕ). end ≤ given) es) (sym notes.whole)
      (All-append (λ (end : ℕ). end ≤ given) notes.earlier (map (λ (end : ℕ). notes.before + end) old.ends)
      (all_below notes.before given notes.earlier (omega arith) notes.handed)
      (all_below (notes.before + (old.taken + length old.bytes)) given _ (omega arith) (all_shifted notes.before (old.taken + length old.bytes) old.ends notes.within)));
  within = All-nil (λ (end : ℕ). end ≤ 0);
}

-- more bytes
pub notes_more : (ends : List ℕ) (given : ℕ) (old : Waiting) (more : List ℕ) → Notes ends given old → Notes ends (given + length more) (record old { bytes = old.bytes ++ more })
notes_more ends given old more notes =
    let long : length (old.bytes ++ more) ≡ length old.bytes + length more = length-append old.bytes more in
    record {
      before = notes.before;
      size = let is = notes.size in omega arith;
      earlier = notes.earlier;
      whole = notes.whole;
      handed = notes.handed;
      within = all_below (old.taken + length old.bytes) (old.taken + length (old.bytes ++ more)) old.ends (omega arith) notes.within;
    }

-- one end more
pub notes_end : (ends : List ℕ) (given : ℕ) (old : Waiting) → Notes ends given old → Notes (ends ++ given ∷ []) given (record old { ends = old.ends ++ (old.taken + length old.bytes) ∷ [] })
notes_end ends given old notes =
    let here : notes.before + (old.taken + length old.bytes) ≡ given = let is = notes.size in omega arith in
    record {
      before = notes.before;
      size = notes.size;
      earlier = notes.earlier;
      whole =
          ap (λ (es : List ℕ). es ++ given ∷ []) notes.whole
          ∙ append_assoc notes.earlier (map (λ (end : ℕ). notes.before + end) old.ends) (given ∷ [])
          ∙ ap (λ (n : ℕ). notes.earlier ++ (map (λ (end : ℕ). notes.before + end) old.ends ++ n ∷ [])) (sym here)
          ∙ ap (λ (es : List ℕ). notes.earlier ++ es) (sym (map-append (λ (end : ℕ). notes.before + end) old.ends ((old.taken + length old.bytes) ∷ [])));
      handed = notes.handed;
      within = All-push (λ (end : ℕ). end ≤ old.taken + length old.bytes) old.ends (old.taken + length old.bytes) notes.within (omega arith);
    }

none_more : (n : ℕ) → 0 + n ≡ n
none_more n = omega arith

pub late_none : (taken : ℕ) → late_in [] taken ≡ 0
unfolding late_in
late_none taken = refl

pub late_one : (end taken : ℕ) (ends : List ℕ) → late_in (end ∷ ends) taken ≡ cond (nat_lt taken end) 1 0 + late_in ends taken
unfolding late_in
late_one end taken ends = sum_by-cons (λ (e : ℕ). cond (nat_lt taken e) 1 0) end ends

pub late_both : (xs ys : List ℕ) (taken : ℕ) → late_in (xs ++ ys) taken ≡ late_in xs taken + late_in ys taken
unfolding late_in
late_both xs ys taken = sum_by-append (λ (end : ℕ). cond (nat_lt taken end) 1 0) xs ys

pub taken_in : (end taken : ℕ) → end ≤ taken → nat_lt taken end ≡ false
taken_in end taken h = grind (arith, nat_tests)

-- ends that a sink took aren't late
none_late : (ends : List ℕ) (taken : ℕ) → All (λ end. end ≤ taken) ends → late_in ends taken ≡ 0
none_late [] taken some = late_none taken
none_late (end ∷ ends) taken some =
    late_one end taken ends
    ∙ ap (λ (b : Bool). cond b 1 0 + late_in ends taken) (taken_in end taken (All-head (λ (e : ℕ). e ≤ taken) end ends some))
    ∙ none_more (late_in ends taken)
    ∙ none_late ends taken (All-tail (λ (e : ℕ). e ≤ taken) end ends some)

same_test : (before taken end : ℕ) → nat_lt (before + taken) (before + end) ≡ nat_lt taken end
same_test before taken end = grind (arith, nat_tests)

late_shifted : (before taken : ℕ) (ends : List ℕ) → late_in (map (λ end. before + end) ends) (before + taken) ≡ late_in ends taken
late_shifted before taken [] = late_none (before + taken) ∙ sym (late_none taken)
late_shifted before taken (end ∷ ends) =
    late_one (before + end) (before + taken) (map (λ (e : ℕ). before + e) ends)
    ∙ ap (λ (b : Bool). cond b 1 0 + late_in (map (λ (e : ℕ). before + e) ends) (before + taken)) (same_test before taken end)
    ∙ ap (λ (n : ℕ). cond (nat_lt taken end) 1 0 + n) (late_shifted before taken ends)
    ∙ sym (late_one end taken ends)

-- the late frames are those whose ends the block has behind the bytes that the sink took
pub late_noted : (ends : List ℕ) (given : ℕ) (block : Waiting) → Notes ends given block → late_in block.ends block.taken ≡ late_in ends (given - length block.bytes)
late_noted ends given block notes =
    let took : notes.before + block.taken ≡ given - length block.bytes = let is = notes.size in omega arith in
    sym (
    ap (λ (n : ℕ). late_in ends n) (sym took)
    ∙ ap (λ (es : List ℕ). late_in es (notes.before + block.taken)) notes.whole
    ∙ late_both notes.earlier (map (λ (end : ℕ). notes.before + end) block.ends) (notes.before + block.taken)
    ∙ ap (λ (n : ℕ). n + late_in (map (λ (end : ℕ). notes.before + end) block.ends) (notes.before + block.taken))
    (none_late notes.earlier (notes.before + block.taken) (all_below notes.before (notes.before + block.taken) notes.earlier (omega arith) notes.handed))
    ∙ none_more (late_in (map (λ (end : ℕ). notes.before + end) block.ends) (notes.before + block.taken))
    ∙ late_shifted notes.before block.taken block.ends)

-- a block from which the front was handed on
pub tells_moved : (start end : Option (List ℕ)) (old new : Waiting) (front : List ℕ) → old.bytes ≡ front ++ new.bytes
    → WhereTold start end (λ before after. after ≡ before ++ front) → WhereTold (tells start old) (tells end new) (λ before after. after ≡ before)
tells_moved start None old new front cut handed after told = cc
tells_moved start (Some held) old new front cut handed after told =
    let earlier = handed held refl in (
      earlier.0 ++ old.bytes,
      ap (option_map (λ (bytes : List ℕ). bytes ++ old.bytes)) earlier.1,
      some_is (held ++ new.bytes) after told
          ∙ ap (λ (bytes : List ℕ). bytes ++ new.bytes) earlier.2
          ∙ append_assoc earlier.0 front new.bytes
          ∙ ap (λ (bytes : List ℕ). earlier.0 ++ bytes) (sym cut),
    )
  where
    some_is : (x y : List ℕ) → Some x ≡ Some y → y ≡ x
    some_is x y h = cc

-- more bytes wait
pub tells_more : (held : Option (List ℕ)) (old : Waiting) (more : List ℕ) → WhereTold (tells held old) (tells held (record old { bytes = old.bytes ++ more })) (λ before after. after ≡ before ++ more)
tells_more None old more after told = cc
tells_more (Some held) old more after told = (held ++ old.bytes, refl, some_is (held ++ (old.bytes ++ more)) after told ∙ sym (append_assoc held old.bytes more))
  where
    some_is : (x y : List ℕ) → Some x ≡ Some y → y ≡ x
    some_is x y h = cc

cut_front : (items slice : List ℕ) (from n : ℕ) → slice ≡ drop from items → drop from items ≡ take n slice ++ drop (from + n) items
cut_front items slice from n same =
    sym (take-append-drop n (drop from items)) ∙ ap (λ (rest : List ℕ). take n (drop from items) ++ rest) (drop-drop n from items)
    ∙ ap (λ (xs : List ℕ). take n xs ++ drop (from + n) items) (sym same)

-- a part of what waits was handed on
pub tells_cut : (start end : Option (List ℕ)) (old : Waiting) (items slice es : List ℕ) (from n : ℕ) → record { bytes = drop from items; taken = from; ends = es } ≡ old → slice ≡ drop from items
    → WhereTold start end (λ before after. after ≡ before ++ take n slice) → WhereTold (tells start old) (tells end (record { bytes = drop (from + n) items; taken = from + n; ends = es })) (λ before after. after ≡ before)
tells_cut start end old items slice es from n is same handed =
    tells_moved start end old (record { bytes = drop (from + n) items; taken = from + n; ends = es }) (take n slice)
    (ap (λ (block : Waiting). block.bytes) (sym is) ∙ cut_front items slice from n same) handed

pub notes_cut : (ends : List ℕ) (given : ℕ) (old : Waiting) (items es : List ℕ) (from n : ℕ) → record { bytes = drop from items; taken = from; ends = es } ≡ old → from + n ≤ length items
    → Notes ends given old → Notes ends given (record { bytes = drop (from + n) items; taken = from + n; ends = es })
notes_cut ends given old items es from n is within notes =
    notes_kept ends given old (record { bytes = drop (from + n) items; taken = from + n; ends = es }) (size ∙ ap (λ (block : Waiting). block.taken + length block.bytes) is) (ap (λ (block : Waiting). block.ends) is) notes
  where
    size : from + n + length (drop (from + n) items) ≡ from + length (drop from items)
    size = let one = length-drop (from + n) items in let two = length-drop from items in omega arith

-- all of a text was given to a block, and none of it
pub puts_whole : {E : Type 0} (old new : Waiting) (text : List ℕ) (held : Option (List ℕ)) → new ≡ record old { bytes = old.bytes ++ text } → Puts {E = E} (Ok tt) text old new held held
puts_whole old new text held is = record {
  count = length text;
  size = refl;
  notes = λ ends given notes. subst (Notes ends (given + length text)) (sym is) (notes_more ends given old text notes);
  told = rw (is, take_all (length text) text (omega arith)) (tells_more held old text);
}

pub puts_none : {E : Type 0} (error : E) (old new : Waiting) (text : List ℕ) (before after : Option (List ℕ)) → 0 < length text → ((ends : List ℕ) (given : ℕ) → Notes ends given old → Notes ends given new)
    → WhereTold (tells before old) (tells after new) (λ earlier later. later ≡ earlier) → Puts (Err error) text old new before after
puts_none error old new text before after some kept told = record {
  count = 0;
  size = some;
  notes = λ ends given notes. let same : given ≡ given + 0 = omega arith in subst (λ (n : ℕ). Notes ends n new) same (kept ends given notes);
  told = told_map told (λ earlier later same. same ∙ sym (append-nil earlier));
}

longer_size : {E : Type 0} (result : Result Unit E) (first second : List ℕ) (count : ℕ) → MatchResult result (λ _. count ≡ length second) (λ _. count < length second)
    → MatchResult result (λ _. length first + count ≡ length (first ++ second)) (λ _. length first + count < length (first ++ second))
longer_size (Ok x) first second count size = let long = length-append first second in omega arith
longer_size (Err e) first second count size = let long = length-append first second in omega arith

-- one text whole, and then another or a part of it
pub puts_then : {E : Type 0} (result : Result Unit E) (first second : List ℕ) (old middle new : Waiting) (one two three : Option (List ℕ)) → Puts {E = E} (Ok tt) first old middle one two → Puts result second middle new two three → Puts result (first ++ second) old new one three
puts_then result first second old middle new one two three before after = record {
  count = length first + after.count;
  size = longer_size result first second after.count after.size;
  notes = λ ends given notes.
      let same : given + before.count + after.count ≡ given + (length first + after.count) = let whole = before.size in omega arith in
      subst (λ (n : ℕ). Notes ends n new) same (after.notes ends (given + before.count) (before.notes ends given notes));
  told = told_then before.told after.told (λ a b c whole more.
      more ∙ ap (λ (bytes : List ℕ). bytes ++ take after.count second) (whole ∙ ap (λ (n : ℕ). a ++ take n first) before.size ∙ ap (λ (bytes : List ℕ). a ++ bytes) (take_all (length first) first (omega arith)))
      ∙ append_assoc a first (take after.count second)
      ∙ ap (λ (bytes : List ℕ). a ++ bytes) (sym (take-append-add first second after.count)));
}

-- a part of a text, and so of that text with more behind it
pub puts_part : {E : Type 0} (error : E) (first second : List ℕ) (old new : Waiting) (before after : Option (List ℕ)) → Puts (Err error) first old new before after → Puts (Err error) (first ++ second) old new before after
puts_part error first second old new before after part = record {
  count = part.count;
  size = let long = length-append first second in let short = part.size in omega arith;
  notes = part.notes;
  told = told_map part.told (λ a b is. is ∙ ap (λ (bytes : List ℕ). a ++ bytes) (sym (take-append-le part.count first second (let short = part.size in omega arith))));
}

-- what a sink and a block tell, where a text was given to the block
pub writes_all : {E : Type 0} (result : Result Unit E) (text : List ℕ) (old new : Waiting) (before after : Option (List ℕ)) → Puts result text old new before after → WhereTold (tells before old) (tells after new) (WritesAll result text)
writes_all (Ok x) text old new before after puts =
    told_map puts.told (λ a b is. is ∙ ap (λ (n : ℕ). a ++ take n text) puts.size ∙ ap (λ (bytes : List ℕ). a ++ bytes) (take_all (length text) text (omega arith)))
writes_all (Err e) text old new before after puts = told_map puts.told (λ a b is. record { count = puts.count; short = puts.size; appended = is })
