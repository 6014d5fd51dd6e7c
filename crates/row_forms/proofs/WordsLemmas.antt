-- Lemmas on words, numbers and digits.
use Rattle.std.proofs.Common.{◌≡◌, ℕ, ◌+◌, ◌*◌, ◌^◌, lit<, add-one, if◌then◌else◌, ◌<◌, ◌≤◌, suc, Bool, true, false, cond, not, eqb, List, [], ◌∷◌, length, take, drop, Option, Some, None, refl, ap, sym, ◌∙◌, arith, length-take}
use Rattle.std.specs.List.{position, position_or_len, slice_split, onto_first, filter, AllByRecursion}
use Rattle.std.proofs.lemmas.List.Splits.{slice_split-cons_no}
use Rattle.std.proofs.lemmas.Bool.Decides.{nat_tests}
use Rattle.std.proofs.Math.Nat.{pow-suc, pow-le-pow_right, mul-le-mul_left}
use Rattle.std.proofs.lemmas.List.{drop_all}
use Rattle.std.specs.Str.{IsUtf8}
use Rattle.packet_forms.specs.Names.{is_name_text, name_of}
use Rattle.packet_forms.proofs.NameForms.{text_utf8}
use Rattle.row_forms.specs.Words.{words, is_word, name_said}

abbrev is_space : ℕ → Bool
is_space b = eqb b 32

abbrev is_other : ℕ → Bool
is_other b = not (eqb b 32)

-- the place that `position` gives
pub position_is : (p : ℕ → Bool) (xs : List ℕ) (i : ℕ) → position p xs ≡ Some i → (i ≡ position_or_len p xs) × (i < length xs)
position_is p xs i e = grind (arith, nat_tests)

pub position_none : (p : ℕ → Bool) (xs : List ℕ) → position p xs ≡ None → length xs ≤ position_or_len p xs
position_none p xs e = grind (arith, nat_tests)

pub position_or_len-le : (p : ℕ → Bool) (xs : List ℕ) → position_or_len p xs ≤ length xs
position_or_len-le p [] = omega arith
position_or_len-le p (x ∷ xs) = elim (p x) as (λ v. cond (not v) (1 + position_or_len p xs) 0 ≤ length (x ∷ xs)) [ true ↦ omega arith | false ↦ omega (arith, position_or_len-le p xs) ]

drop_more : (n x : ℕ) (xs : List ℕ) → drop (1 + n) (x ∷ xs) ≡ drop n xs
drop_more n x xs = let e : 1 + n ≡ suc n = omega arith in rw e refl

pub take_more : (n x : ℕ) (xs : List ℕ) → take (1 + n) (x ∷ xs) ≡ x ∷ take n xs
take_more n x xs = let e : 1 + n ≡ suc n = omega arith in rw e refl

-- spaces in front are skipped
skip_one : (x : ℕ) (xs : List ℕ) (b : Bool) → is_space x ≡ b → words xs ≡ words (drop (position_or_len is_other xs) xs) → words (x ∷ xs) ≡ words (drop (position_or_len is_other (x ∷ xs)) (x ∷ xs))
unfolding words
skip_one x xs true e h = rw e (rw drop_more h)
skip_one x xs false e h = rw e (rw e refl)

pub skip_spaces : (xs : List ℕ) → words xs ≡ words (drop (position_or_len is_other xs) xs)
skip_spaces [] = refl
skip_spaces (x ∷ xs) = skip_one x xs (is_space x) refl (skip_spaces xs)

-- where all bytes are spaces there is no word
pub no_word : (xs : List ℕ) → length xs ≤ position_or_len is_other xs → words xs ≡ []
unfolding words
no_word xs h = skip_spaces xs ∙ ap words (drop_all (position_or_len is_other xs) xs h)

-- behind the spaces in front a word begins
filled_one : (x : ℕ) (xs : List ℕ) (b : Bool) → is_space x ≡ b → (position_or_len is_other xs < length xs → 0 < position_or_len is_space (drop (position_or_len is_other xs) xs)) → position_or_len is_other (x ∷ xs) < length (x ∷ xs) → 0 < position_or_len is_space (drop (position_or_len is_other (x ∷ xs)) (x ∷ xs))
filled_one x xs true e ih h = let k = rw e at h in rw e (rw drop_more (ih (omega arith)))
filled_one x xs false e ih h = rw e (rw e (omega arith))

pub word_filled : (xs : List ℕ) → position_or_len is_other xs < length xs → 0 < position_or_len is_space (drop (position_or_len is_other xs) xs)
word_filled [] h = absurd (omega (arith, h))
word_filled (x ∷ xs) h = filled_one x xs (is_space x) refl (word_filled xs) h

-- the first part ends at the first space
rest_one : (x : ℕ) (xs : List ℕ) (b : Bool) → is_space x ≡ b → slice_split is_space (drop (position_or_len is_space xs) xs) ≡ [] ∷ drop 1 (slice_split is_space (drop (position_or_len is_space xs) xs)) → slice_split is_space (drop (position_or_len is_space (x ∷ xs)) (x ∷ xs)) ≡ [] ∷ drop 1 (slice_split is_space (drop (position_or_len is_space (x ∷ xs)) (x ∷ xs)))
rest_one x xs true e h = rw e (rw e refl)
rest_one x xs false e h = rw e (rw drop_more h)

rest_parts : (xs : List ℕ) → slice_split is_space (drop (position_or_len is_space xs) xs) ≡ [] ∷ drop 1 (slice_split is_space (drop (position_or_len is_space xs) xs))
rest_parts [] = refl
rest_parts (x ∷ xs) = rest_one x xs (is_space x) refl (rest_parts xs)

part_one : (x : ℕ) (xs : List ℕ) (b : Bool) → is_space x ≡ b → slice_split is_space xs ≡ take (position_or_len is_space xs) xs ∷ drop 1 (slice_split is_space (drop (position_or_len is_space xs) xs)) → slice_split is_space (x ∷ xs) ≡ take (position_or_len is_space (x ∷ xs)) (x ∷ xs) ∷ drop 1 (slice_split is_space (drop (position_or_len is_space (x ∷ xs)) (x ∷ xs)))
part_one x xs true e h = rw e (rw e refl)
part_one x xs false e h = rw e (rw (drop_more, take_more, h) refl)

first_part : (xs : List ℕ) → slice_split is_space xs ≡ take (position_or_len is_space xs) xs ∷ drop 1 (slice_split is_space (drop (position_or_len is_space xs) xs))
first_part [] = refl
first_part (x ∷ xs) = part_one x xs (is_space x) refl (first_part xs)

filter_word : (w : List ℕ) (ws : List (List ℕ)) → 0 < length w → filter is_word (w ∷ ws) ≡ w ∷ filter is_word ws
filter_word [] ws h = absurd (omega (arith, h))
filter_word (x ∷ w) ws h = let t : is_word (x ∷ w) ≡ true = grind (arith, nat_tests) in rw t refl

pub first_word : (xs : List ℕ) → 0 < position_or_len is_space xs → words xs ≡ take (position_or_len is_space xs) xs ∷ words (drop (position_or_len is_space xs) xs)
unfolding words
first_word xs h =
    let n = position_or_len is_space xs in
    let rest = drop 1 (slice_split is_space (drop n xs)) in
    let long : 0 < length (take n xs) = simp length-take (omega (arith, position_or_len-le is_space xs)) in
    ap (filter is_word) (first_part xs) ∙ filter_word (take n xs) rest long ∙ ap (λ ps. take n xs ∷ filter is_word ps) (sym (rest_parts xs))

-- a word is cut off behind the spaces
pub word_behind : (xs : List ℕ) (i n : ℕ) (rest w more : List ℕ) → Some i ≡ position is_other xs → rest ≡ drop i xs → n ≡ position_or_len is_space rest → w ≡ take n rest → more ≡ drop n rest → (words xs ≡ w ∷ words more) × (0 < length w)
word_behind xs i n rest w more found r k e1 e2 =
    let at = position_is is_other xs i (sym found) in
    let here : rest ≡ drop (position_or_len is_other xs) xs = rw (← at.0) r in
    let filled : 0 < n = rw (k, here) (word_filled xs (rw (← at.0) at.1)) in
    let long : 0 < position_or_len is_space rest = rw (← k) filled in
    let short : n ≤ length rest = rw k (position_or_len-le is_space rest) in
    let first : words rest ≡ take n rest ∷ words (drop n rest) = rw k (first_word rest long) in
    (rw (e1, e2) (skip_spaces xs ∙ rw (← here) first), rw (e1, length-take) (omega arith))

-- behind the spaces in front stand the same words
pub behind_first : (xs : List ℕ) (i : ℕ) (rest : List ℕ) → Some i ≡ position is_other xs → rest ≡ drop i xs → words rest ≡ words xs
behind_first xs i rest found r =
    let at = position_is is_other xs i (sym found) in
    ap words r ∙ ap (λ (n : ℕ). words (drop n xs)) at.0 ∙ sym (skip_spaces xs)

-- one digit more is one power of 16 more
pub digit_small : (v b d i : ℕ) → v < 16 ^ i → b ≤ 16 → d < b → v * b + d < 16 ^ (i + 1)
digit_small v b d i small base digit =
    let e : 16 ^ (i + 1) ≡ 16 ^ i * 16 = rw add-one (pow-suc 16 i) in
    let m : v * b ≤ v * 16 = mul-le-mul_left v base in
    rw e (omega arith)

-- with fewer than 10 digits there is room for one more
pub digits_fit : (v b i : ℕ) → v < 16 ^ i → b ≤ 16 → i < 10 → v * b + 16 < 2 ^ 64
digits_fit v b i small base few =
    let nine : i ≤ 9 = omega arith in
    let p : 16 ^ i ≤ 68719476736 = pow-le-pow_right {n = 16} (lit< tt) {i = i} {j = 9} nine in
    let m : v * b ≤ v * 16 = mul-le-mul_left v base in
    omega arith

no_name_text : (b : Bool) (word : List ℕ) → is_name_text word ≡ b → (IsUtf8 word → ⊥) → ◌≡◌ {A = Option (List ℕ)} None (if b then Some (name_of word) else None)
no_name_text true word e h = absurd (h (text_utf8 word e))
no_name_text false word e h = refl

-- bytes that are no text are no name
pub no_name : (word : List ℕ) → (IsUtf8 word → ⊥) → None ≡ name_said word
unfolding name_said
no_name word h = no_name_text (is_name_text word) word refl h

no_space_one : (x : ℕ) (xs : List ℕ) (b : Bool) → is_space x ≡ b → AllByRecursion (λ y. is_space y ≡ false) (take (position_or_len is_space xs) xs) → AllByRecursion (λ y. is_space y ≡ false) (take (position_or_len is_space (x ∷ xs)) (x ∷ xs))
no_space_one x xs true e all = rw e tt
no_space_one x xs false e all = rw e (rw take_more (e, all))

-- before the first space there is none
no_space : (xs : List ℕ) → AllByRecursion (λ y. is_space y ≡ false) (take (position_or_len is_space xs) xs)
no_space [] = tt
no_space (x ∷ xs) = no_space_one x xs (is_space x) refl (no_space xs)

one_part : (xs : List ℕ) → AllByRecursion (λ y. is_space y ≡ false) xs → slice_split is_space xs ≡ xs ∷ []
one_part [] all = refl
one_part (x ∷ xs) all = slice_split-cons_no is_space x xs all.0 ∙ ap (onto_first x) (one_part xs all.1)

-- a word that is cut off is one word
pub word_cut : (xs w : List ℕ) (n : ℕ) → n ≡ position_or_len is_space xs → w ≡ take n xs → 0 < length w → words w ≡ w ∷ []
unfolding words
word_cut xs w n k e some =
    let all : AllByRecursion (λ y. is_space y ≡ false) w = rw (e, k) (no_space xs) in
    ap (filter is_word) (one_part w all) ∙ filter_word w [] some
