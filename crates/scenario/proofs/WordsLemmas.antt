-- Lemmas on words, numbers and digits.
use Rattle.std.proofs.Common.{◌%◌, ◌≡◌, ℕ, ◌+◌, ◌*◌, ◌^◌, lit<, add-one, nat_lt, bit_or, if◌then◌else◌, get_or, ◌&&◌, append_assoc, append-nil, drop-cons, take_all, length-drop, ◌<◌, ◌≤◌, suc, Bool, true, false, cond, not, eqb, List, [], ◌∷◌, ◌++◌, length, take, drop, Option, Some, None, refl, ap, sym, ◌∙◌, arith, length-take}
use Rattle.std.specs.List.{position, position_or_len, slice_split, filter}
use Rattle.std.proofs.lemmas.Bool.Decides.{nat_tests}
use Rattle.std.proofs.lemmas.Nat.{or_lt, le_or_l, le_or_r}
use Rattle.std.proofs.Math.Nat.{pow-suc, pow-le-pow_right, mul-le-mul_left}
use Rattle.std.proofs.lemmas.List.{drop_all}
use Rattle.std.specs.Char.{is_digit, digit_value}
use Rattle.std.specs.Str.{IsUtf8}
use Rattle.packet_forms.specs.Names.{is_name_text, name_of}
use Rattle.packet_forms.proofs.NameForms.{text_utf8}
use Rattle.scenario.specs.Words.{words, is_word, hex, before, name_said}

abbrev is_space : ℕ → Bool
is_space b = eqb b 32

abbrev is_other : ℕ → Bool
is_other b = not (eqb b 32)

-- the place that `position` gives
pub position_is : (p : ℕ → Bool) (xs : List ℕ) (i : ℕ) → position p xs ≡ Some i → (i ≡ position_or_len p xs) × (i < length xs)
position_is p xs i e = grind (arith, nat_tests)

pub position_none : (p : ℕ → Bool) (xs : List ℕ) → position p xs ≡ None → length xs ≤ position_or_len p xs
position_none p xs e = grind (arith, nat_tests)

pub position_or_len-le : (p : ℕ → Bool) (xs : List ℕ) → position_or_len p xs ≤ length xs
position_or_len-le p [] = omega arith
position_or_len-le p (x ∷ xs) = elim (p x) as (λ v. cond (not v) (1 + position_or_len p xs) 0 ≤ length (x ∷ xs)) [ true ↦ omega arith | false ↦ omega (arith, position_or_len-le p xs) ]

drop_more : (n x : ℕ) (xs : List ℕ) → drop (1 + n) (x ∷ xs) ≡ drop n xs
drop_more n x xs = let e : 1 + n ≡ suc n = omega arith in rw e refl

pub take_more : (n x : ℕ) (xs : List ℕ) → take (1 + n) (x ∷ xs) ≡ x ∷ take n xs
take_more n x xs = let e : 1 + n ≡ suc n = omega arith in rw e refl

-- spaces in front are skipped
skip_one : (x : ℕ) (xs : List ℕ) (b : Bool) → is_space x ≡ b → words xs ≡ words (drop (position_or_len is_other xs) xs) → words (x ∷ xs) ≡ words (drop (position_or_len is_other (x ∷ xs)) (x ∷ xs))
unfolding words
skip_one x xs true e h = rw e (rw drop_more h)
skip_one x xs false e h = rw e (rw e refl)

pub skip_spaces : (xs : List ℕ) → words xs ≡ words (drop (position_or_len is_other xs) xs)
skip_spaces [] = refl
skip_spaces (x ∷ xs) = skip_one x xs (is_space x) refl (skip_spaces xs)

-- where all bytes are spaces there is no word
pub no_word : (xs : List ℕ) → length xs ≤ position_or_len is_other xs → words xs ≡ []
unfolding words
no_word xs h = skip_spaces xs ∙ ap words (drop_all (position_or_len is_other xs) xs h)

-- behind the spaces in front a word begins
filled_one : (x : ℕ) (xs : List ℕ) (b : Bool) → is_space x ≡ b → (position_or_len is_other xs < length xs → 0 < position_or_len is_space (drop (position_or_len is_other xs) xs)) → position_or_len is_other (x ∷ xs) < length (x ∷ xs) → 0 < position_or_len is_space (drop (position_or_len is_other (x ∷ xs)) (x ∷ xs))
filled_one x xs true e ih h = let k = rw e at h in rw e (rw drop_more (ih (omega arith)))
filled_one x xs false e ih h = rw e (rw e (omega arith))

pub word_filled : (xs : List ℕ) → position_or_len is_other xs < length xs → 0 < position_or_len is_space (drop (position_or_len is_other xs) xs)
word_filled [] h = absurd (omega (arith, h))
word_filled (x ∷ xs) h = filled_one x xs (is_space x) refl (word_filled xs) h

-- the first part ends at the first space
rest_one : (x : ℕ) (xs : List ℕ) (b : Bool) → is_space x ≡ b → slice_split is_space (drop (position_or_len is_space xs) xs) ≡ [] ∷ drop 1 (slice_split is_space (drop (position_or_len is_space xs) xs)) → slice_split is_space (drop (position_or_len is_space (x ∷ xs)) (x ∷ xs)) ≡ [] ∷ drop 1 (slice_split is_space (drop (position_or_len is_space (x ∷ xs)) (x ∷ xs)))
rest_one x xs true e h = rw e (rw e refl)
rest_one x xs false e h = rw e (rw drop_more h)

rest_parts : (xs : List ℕ) → slice_split is_space (drop (position_or_len is_space xs) xs) ≡ [] ∷ drop 1 (slice_split is_space (drop (position_or_len is_space xs) xs))
rest_parts [] = refl
rest_parts (x ∷ xs) = rest_one x xs (is_space x) refl (rest_parts xs)

part_one : (x : ℕ) (xs : List ℕ) (b : Bool) → is_space x ≡ b → slice_split is_space xs ≡ take (position_or_len is_space xs) xs ∷ drop 1 (slice_split is_space (drop (position_or_len is_space xs) xs)) → slice_split is_space (x ∷ xs) ≡ take (position_or_len is_space (x ∷ xs)) (x ∷ xs) ∷ drop 1 (slice_split is_space (drop (position_or_len is_space (x ∷ xs)) (x ∷ xs)))
part_one x xs true e h = rw e (rw e refl)
part_one x xs false e h = rw e (rw (drop_more, take_more, h) refl)

first_part : (xs : List ℕ) → slice_split is_space xs ≡ take (position_or_len is_space xs) xs ∷ drop 1 (slice_split is_space (drop (position_or_len is_space xs) xs))
first_part [] = refl
first_part (x ∷ xs) = part_one x xs (is_space x) refl (first_part xs)

filter_word : (w : List ℕ) (ws : List (List ℕ)) → 0 < length w → filter is_word (w ∷ ws) ≡ w ∷ filter is_word ws
filter_word [] ws h = absurd (omega (arith, h))
filter_word (x ∷ w) ws h = let t : is_word (x ∷ w) ≡ true = grind (arith, nat_tests) in rw t refl

pub first_word : (xs : List ℕ) → 0 < position_or_len is_space xs → words xs ≡ take (position_or_len is_space xs) xs ∷ words (drop (position_or_len is_space xs) xs)
unfolding words
first_word xs h =
    let n = position_or_len is_space xs in
    let rest = drop 1 (slice_split is_space (drop n xs)) in
    let long : 0 < length (take n xs) = simp length-take (omega (arith, position_or_len-le is_space xs)) in
    ap (filter is_word) (first_part xs) ∙ filter_word (take n xs) rest long ∙ ap (λ ps. take n xs ∷ filter is_word ps) (sym (rest_parts xs))

-- a word is cut off behind the spaces
pub word_behind : (xs : List ℕ) (i n : ℕ) (rest w more : List ℕ) → Some i ≡ position is_other xs → rest ≡ drop i xs → n ≡ position_or_len is_space rest → w ≡ take n rest → more ≡ drop n rest → (words xs ≡ w ∷ words more) × (0 < length w)
word_behind xs i n rest w more found r k e1 e2 =
    let at = position_is is_other xs i (sym found) in
    let here : rest ≡ drop (position_or_len is_other xs) xs = rw (← at.0) r in
    let filled : 0 < n = rw (k, here) (word_filled xs (rw (← at.0) at.1)) in
    let long : 0 < position_or_len is_space rest = rw (← k) filled in
    let short : n ≤ length rest = rw k (position_or_len-le is_space rest) in
    let first : words rest ≡ take n rest ∷ words (drop n rest) = rw k (first_word rest long) in
    (rw (e1, e2) (skip_spaces xs ∙ rw (← here) first), rw (e1, length-take) (omega arith))

-- behind the spaces in front stand the same words
pub behind_first : (xs : List ℕ) (i : ℕ) (rest : List ℕ) → Some i ≡ position is_other xs → rest ≡ drop i xs → words rest ≡ words xs
behind_first xs i rest found r =
    let at = position_is is_other xs i (sym found) in
    ap words r ∙ ap (λ (n : ℕ). words (drop n xs)) at.0 ∙ sym (skip_spaces xs)

-- one digit more is one power of 16 more
pub digit_small : (v b d i : ℕ) → v < 16 ^ i → b ≤ 16 → d < b → v * b + d < 16 ^ (i + 1)
digit_small v b d i small base digit =
    let e : 16 ^ (i + 1) ≡ 16 ^ i * 16 = rw add-one (pow-suc 16 i) in
    let m : v * b ≤ v * 16 = mul-le-mul_left v base in
    rw e (omega arith)

-- with fewer than 10 digits there is room for one more
pub digits_fit : (v b i : ℕ) → v < 16 ^ i → b ≤ 16 → i < 10 → v * b + 16 < 2 ^ 64
digits_fit v b i small base few =
    let nine : i ≤ 9 = omega arith in
    let p : 16 ^ i ≤ 68719476736 = pow-le-pow_right {n = 16} (lit< tt) {i = i} {j = 9} nine in
    let m : v * b ≤ v * 16 = mul-le-mul_left v base in
    omega arith

-- bytes in front of bytes, where there are any
abbrev pub onto : List ℕ → Option (List ℕ) → Option (List ℕ)
onto front None = None
onto front (Some bytes) = Some (front ++ bytes)

pair_at : (w : List ℕ) (i : ℕ) → i + 1 < length w → drop i w ≡ get_or w i 0 ∷ get_or w (i + 1) 0 ∷ drop (i + 2) w
pair_at w i h =
    let first : i < length w = omega arith in
    let e1 : i + 1 ≡ suc i = omega arith in
    let e2 : i + 2 ≡ suc (suc i) = omega arith in
    let next : suc i < length w = omega arith in
    rw (e1, e2) (drop-cons w i 0 first ∙ ap (λ more. get_or w i 0 ∷ more) (drop-cons w (suc i) 0 next))

onto_before : (front : List ℕ) (b : ℕ) (o : Option (List ℕ)) → onto front (before b o) ≡ onto (front ++ b ∷ []) o
onto_before front b None = refl
onto_before front b (Some bytes) = ap Some (sym (append_assoc front (b ∷ []) bytes))

hex_pairs : (c d : ℕ) (more : List ℕ) → (is_digit c 16 && is_digit d 16) ≡ true → hex (c ∷ d ∷ more) ≡ before (16 * digit_value c + digit_value d) (hex more)
unfolding hex
hex_pairs c d more h = rw h refl

hex_none : (c d : ℕ) (more : List ℕ) → (is_digit c 16 && is_digit d 16) ≡ false → hex (c ∷ d ∷ more) ≡ None
unfolding hex
hex_none c d more h = rw h refl

-- one pair more
pub hex_more : (w front : List ℕ) (i : ℕ) → 2 * i + 1 < length w → (is_digit (get_or w (2 * i) 0) 16 && is_digit (get_or w (2 * i + 1) 0) 16) ≡ true
    → onto front (hex (drop (2 * i) w)) ≡ onto (front ++ (16 * digit_value (get_or w (2 * i) 0) + digit_value (get_or w (2 * i + 1) 0)) ∷ []) (hex (drop (2 * (i + 1)) w))
hex_more w front i h e =
    let k : 2 * (i + 1) ≡ 2 * i + 2 = omega arith in
    rw k (ap (λ bytes. onto front (hex bytes)) (pair_at w (2 * i) h) ∙ ap (onto front) (hex_pairs _ _ _ e) ∙ onto_before front _ _)

-- a pair that is none
pub hex_bad : (w front : List ℕ) (i : ℕ) → 2 * i + 1 < length w → (is_digit (get_or w (2 * i) 0) 16 && is_digit (get_or w (2 * i + 1) 0) 16) ≡ false
    → onto front (hex (drop (2 * i) w)) ≡ None
hex_bad w front i h e = ap (λ bytes. onto front (hex bytes)) (pair_at w (2 * i) h) ∙ ap (onto front) (hex_none _ _ _ e)

hex_ends_at : (rest front : List ℕ) → length rest ≡ 0 → onto front (hex rest) ≡ Some front
unfolding hex
hex_ends_at [] front h = ap Some (append-nil front)
hex_ends_at (x ∷ rest) front h = absurd (omega (arith, h))

-- no digit is left
pub hex_ends : (w front : List ℕ) (i : ℕ) → length w ≤ 2 * i → onto front (hex (drop (2 * i) w)) ≡ Some front
hex_ends w front i h = hex_ends_at _ front (length-drop (2 * i) w ∙ omega arith)

hex_odd_at : (rest front : List ℕ) → length rest ≡ 1 → onto front (hex rest) ≡ None
unfolding hex
hex_odd_at [] front h = absurd (omega (arith, h))
hex_odd_at (x ∷ []) front h = refl
hex_odd_at (x ∷ y ∷ rest) front h = absurd (omega (arith, h))

-- one digit is left
pub hex_odd : (w front : List ℕ) (i : ℕ) → length w ≡ 2 * i + 1 → onto front (hex (drop (2 * i) w)) ≡ None
hex_odd w front i h = hex_odd_at _ front (length-drop (2 * i) w ∙ omega arith)

digit_no_space : (c : ℕ) → is_digit c 16 ≡ true → is_space c ≡ false
digit_no_space c e = grind (arith, nat_tests)

both_digits : (a b : Bool) → (a && b) ≡ true → (a ≡ true) × (b ≡ true)
both_digits true b e = (refl, e)
both_digits false b e = absurd (cc)

one_on : (x : ℕ) (xs : List ℕ) → is_space x ≡ false → position_or_len is_space (x ∷ xs) ≡ 1 + position_or_len is_space xs
one_on x xs other = rw other refl

-- no space is in a word, and it has two digits for each of the bytes
abbrev pub IsHexOf : List ℕ → List ℕ → Type 0
IsHexOf word bytes = (position_or_len is_space word ≡ length word) × (2 * length bytes ≡ length word)

pair_more : (c d : ℕ) (more bytes : List ℕ) (b : Bool) (o : Option (List ℕ)) → (is_digit c 16 && is_digit d 16) ≡ b → ((rest : List ℕ) → o ≡ Some rest → IsHexOf more rest)
    → (if b then before (16 * digit_value c + digit_value d) o else None) ≡ Some bytes → IsHexOf (c ∷ d ∷ more) bytes
pair_more c d more bytes false o are ih e = absurd (cc)
pair_more c d more bytes true None are ih e = absurd (cc)
pair_more c d more bytes true (Some rest) are ih e =
    let digits = both_digits (is_digit c 16) (is_digit d 16) are in
    let first = one_on c (d ∷ more) (digit_no_space c digits.0) in
    let second = one_on d more (digit_no_space d digits.1) in
    let behind = ih rest refl in
    let same : (16 * digit_value c + digit_value d) ∷ rest ≡ bytes = cc in
    (omega (arith, first, second, behind.0), rw (← same) (omega (arith, behind.1)))

-- what is written in pairs of digits
pub hex_word : (word bytes : List ℕ) → hex word ≡ Some bytes → IsHexOf word bytes
unfolding hex
hex_word [] bytes e = let same : [] ≡ bytes = cc in (refl, rw (← same) refl)
hex_word (c ∷ []) bytes e = absurd (cc)
hex_word (c ∷ d ∷ more) bytes e = pair_more c d more bytes (is_digit c 16 && is_digit d 16) (hex more) refl (λ rest is. hex_word more rest is) e

no_words : words [] ≡ []
unfolding words
no_words = refl

-- pairs of digits that aren't none are one word
pub hex_alone : (word bytes : List ℕ) → 0 < length word → hex word ≡ Some bytes → words word ≡ word ∷ []
hex_alone word bytes filled e =
    let far : position_or_len is_space word ≡ length word = (hex_word word bytes e).0 in
    first_word word (rw far filled)
    ∙ ap (λ (n : ℕ). take n word ∷ words (drop n word)) far
    ∙ ap (λ (front : List ℕ). front ∷ words (drop (length word) word)) (take_all (length word) word (omega arith))
    ∙ ap (λ (rest : List ℕ). word ∷ words rest) (drop_all (length word) word (omega arith))
    ∙ ap (λ (ws : List (List ℕ)). word ∷ ws) no_words

-- The first i pairs of digits are read: the bits of their values are over 255 where one of them is no digit.
pub record IsRead (word front : List ℕ) (i bits : ℕ) : Type 0 where
  pub good : bits < 256 → hex word ≡ onto front (hex (drop (2 * i) word))
  pub bad : 256 ≤ bits → hex word ≡ None

-- one pair more is read
pub read_more : (word front : List ℕ) (i bits value byte : ℕ) → 2 * i + 1 < length word
    → (value < 256 → ((is_digit (get_or word (2 * i) 0) 16 && is_digit (get_or word (2 * i + 1) 0) 16) ≡ true) × (value ≡ 16 * digit_value (get_or word (2 * i) 0) + digit_value (get_or word (2 * i + 1) 0)))
    → (256 ≤ value → (is_digit (get_or word (2 * i) 0) 16 && is_digit (get_or word (2 * i + 1) 0) 16) ≡ false)
    → byte ≡ value % 256 → IsRead word front i bits → IsRead word (front ++ byte ∷ []) (i + 1) (bit_or bits value)
read_more word front i bits value byte within digits none is read = record { good = good; bad = bad } where
  good : bit_or bits value < 256 → hex word ≡ onto (front ++ byte ∷ []) (hex (drop (2 * (i + 1)) word))
  good small =
      let old : bits < 256 = omega (arith, small, le_or_l bits value) in
      let new : value < 256 = omega (arith, small, le_or_r bits value) in
      let same : value ≡ byte = omega (arith, new, is) in
      read.good old
      ∙ hex_more word front i within (digits new).0
      ∙ ap (λ (n : ℕ). onto (front ++ n ∷ []) (hex (drop (2 * (i + 1)) word))) (sym (digits new).1 ∙ same)

  by_new : (t : Bool) → nat_lt value 256 ≡ t → bits < 256 → 256 ≤ bit_or bits value → hex word ≡ None
  by_new false e old large = let over : 256 ≤ value = grind (arith, nat_tests) in read.good old ∙ hex_bad word front i within (none over)
  by_new true e old large =
      let new : value < 256 = grind (arith, nat_tests) in
      let below : bit_or bits value < 256 = or_lt 8 bits value old new in
      absurd (omega (arith, below, large))

  by_old : (t : Bool) → nat_lt bits 256 ≡ t → 256 ≤ bit_or bits value → hex word ≡ None
  by_old false e large = let over : 256 ≤ bits = grind (arith, nat_tests) in read.bad over
  by_old true e large = let old : bits < 256 = grind (arith, nat_tests) in by_new (nat_lt value 256) refl old large

  bad : 256 ≤ bit_or bits value → hex word ≡ None
  bad large = by_old (nat_lt bits 256) refl large

-- in front of none
pub onto-nil : (o : Option (List ℕ)) → o ≡ onto [] o
onto-nil None = refl
onto-nil (Some bytes) = refl

no_name_text : (b : Bool) (word : List ℕ) → is_name_text word ≡ b → (IsUtf8 word → ⊥) → ◌≡◌ {A = Option (List ℕ)} None (if b then Some (name_of word) else None)
no_name_text true word e h = absurd (h (text_utf8 word e))
no_name_text false word e h = refl

-- bytes that are no text are no name
pub no_name : (word : List ℕ) → (IsUtf8 word → ⊥) → None ≡ name_said word
unfolding name_said
no_name word h = no_name_text (is_name_text word) word refl h
