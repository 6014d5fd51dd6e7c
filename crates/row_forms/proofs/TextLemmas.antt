-- Lemmas on texts without spaces, and the words that they make.
use Rattle.std.proofs.Common.{◌≡◌, ℕ, ◌<◌, ◌≤◌, ◌-◌, Bool, true, false, List, [], ◌∷◌, ◌++◌, length, refl, sym, ◌∙◌, ap, arith, Some, append-nil, get_or}
use Rattle.std.specs.Prelude.{◌==◌, ◌&&◌, not, nat_lt, nat_le, nat_eq, decimal, codes}
use Rattle.std.specs.List.{AllByRecursion, slice_split, onto_first, list_all, starts_with, filter}
use Rattle.std.specs.Char.{is_digit, digit_value}
use Rattle.std.specs.Str.{bytes_eq}
use Rattle.std.specs.Str.Parse.{AllDigits}
use Rattle.std.proofs.lemmas.Bool.Decides.{nat_tests}
use Rattle.std.proofs.lemmas.List.Splits.{slice_split-cons_yes, slice_split-cons_no}
use Rattle.std.proofs.lemmas.Str.Parse.{numerals_by_value, tells_digits}
use Rattle.std.proofs.lemmas.Fmt.{digits_decimal, digits_value-decimal, length-decimal-le, decimal_nonempty}
use Rattle.row_forms.specs.Words.{words, is_word, digits, number}
use Rattle.row_forms.specs.Lists.{parts, listed, behind_comma}
use Rattle.row_forms.specs.Rows.{spaced}

pub and_both : (a b : Bool) → (a && b) ≡ true → (a ≡ true) × (b ≡ true)
and_both true b e = (refl, e)
and_both false b e = absurd (cc)

-- the first part ends at the first byte that ends one
pub split_first : (p : ℕ → Bool) (xs : List ℕ) (y : ℕ) (ys : List ℕ) → AllByRecursion (λ x. p x ≡ false) xs → p y ≡ true → slice_split p (xs ++ y ∷ ys) ≡ xs ∷ slice_split p ys
split_first p [] y ys all ends = slice_split-cons_yes p y ys ends
split_first p (x ∷ xs) y ys all ends = slice_split-cons_no p x (xs ++ y ∷ ys) all.0 ∙ ap (onto_first x) (split_first p xs y ys all.1 ends)

-- all is one part where none does
split_none : (p : ℕ → Bool) (xs : List ℕ) → AllByRecursion (λ x. p x ≡ false) xs → slice_split p xs ≡ xs ∷ []
split_none p [] all = refl
split_none p (x ∷ xs) all = slice_split-cons_no p x xs all.0 ∙ ap (onto_first x) (split_none p xs all.1)

-- what holds of two lists holds of both together
pub all_append : (P : ℕ → Type 0) (xs ys : List ℕ) → AllByRecursion P xs → AllByRecursion P ys → AllByRecursion P (xs ++ ys)
all_append P [] ys first second = second
all_append P (x ∷ xs) ys first second = (first.0, all_append P xs ys first.1 second)

pub all_map : (P Q : ℕ → Type 0) → ((x : ℕ) → P x → Q x) → (xs : List ℕ) → AllByRecursion P xs → AllByRecursion Q xs
all_map P Q f [] all = tt
all_map P Q f (x ∷ xs) all = (f x all.0, all_map P Q f xs all.1)

-- a byte that ends no word
abbrev pub IsPlain : ℕ → Type 0
IsPlain b = 33 ≤ b

plain_no_space : (b : ℕ) → IsPlain b → (b == 32) ≡ false
plain_no_space b plain = grind (arith, nat_tests)

-- a text that is one word
abbrev pub IsWord : List ℕ → Type 0
IsWord w = (0 < length w) × AllByRecursion IsPlain w

pub no_words : words [] ≡ []
unfolding words
no_words = refl

word_cons : (w : List ℕ) (ws : List (List ℕ)) → 0 < length w → filter is_word (w ∷ ws) ≡ w ∷ filter is_word ws
word_cons w ws some = let t : nat_lt 0 (length w) ≡ true = grind (arith, nat_tests) in rw t refl

space_first : (rest : List ℕ) → words (32 ∷ rest) ≡ words rest
unfolding words
space_first rest = refl

pub word_alone : (w : List ℕ) → IsWord w → words w ≡ w ∷ []
unfolding words
word_alone w is = ap (filter is_word) (split_none (λ b. b == 32) w (all_map IsPlain _ plain_no_space w is.1)) ∙ word_cons w [] is.0

word_first : (w rest : List ℕ) → IsWord w → words (w ++ 32 ∷ rest) ≡ w ∷ words rest
unfolding words
word_first w rest is = ap (filter is_word) (split_first (λ b. b == 32) w 32 rest (all_map IsPlain _ plain_no_space w is.1) refl) ∙ word_cons w (slice_split (λ b. b == 32) rest) is.0

pub spaced_nil : spaced [] ≡ []
unfolding spaced
spaced_nil = refl

pub spaced_cons : (w : List ℕ) (ws : List (List ℕ)) → spaced (w ∷ ws) ≡ 32 ∷ (w ++ spaced ws)
unfolding spaced
spaced_cons w ws = refl

-- a word, and others behind it
pub words_led : (w : List ℕ) (ws : List (List ℕ)) → IsWord w → AllByRecursion IsWord ws → words (w ++ spaced ws) ≡ w ∷ ws
words_led w [] is all = ap (λ (xs : List ℕ). words (w ++ xs)) spaced_nil ∙ ap words (append-nil w) ∙ word_alone w is
words_led w (v ∷ vs) is all =
    ap (λ (xs : List ℕ). words (w ++ xs)) (spaced_cons v vs) ∙ word_first w (v ++ spaced vs) is ∙ ap (λ (ws : List (List ℕ)). w ∷ ws) (words_led v vs all.0 all.1)

-- the words of words
pub words_spaced : (ws : List (List ℕ)) → AllByRecursion IsWord ws → words (spaced ws) ≡ ws
words_spaced [] all = ap words spaced_nil ∙ no_words
words_spaced (w ∷ ws) all = ap words (spaced_cons w ws) ∙ space_first (w ++ spaced ws) ∙ words_led w ws all.0 all.1

-- ---- parts between commas

-- a part of a list: it has no space and no comma
abbrev pub IsMark : ℕ → Type 0
IsMark b = (33 ≤ b) × ((b == 44) ≡ false)

pub marks_are_plain : (xs : List ℕ) → AllByRecursion IsMark xs → AllByRecursion IsPlain xs
marks_are_plain xs all = all_map IsMark IsPlain (λ x m. m.0) xs all

listed_nil : (led : Bool) → listed led [] ≡ []
unfolding listed
listed_nil led = refl

listed_cons : (led : Bool) (part : List ℕ) (more : List (List ℕ)) → listed led (part ∷ more) ≡ behind_comma led part ++ listed true more
unfolding listed
listed_cons led part more = refl

-- the parts of a list are those that it was made of
pub parts_listed : (part : List ℕ) (more : List (List ℕ)) → AllByRecursion IsMark part → AllByRecursion (AllByRecursion IsMark) more → parts (listed false (part ∷ more)) ≡ part ∷ more
parts_listed part [] is all =
    ap parts (listed_cons false part [] ∙ ap (λ (xs : List ℕ). part ++ xs) (listed_nil true) ∙ append-nil part)
    ∙ split_none (λ b. b == 44) part (all_map IsMark _ (λ x m. m.1) part is)
parts_listed part (next ∷ more) is all =
    ap parts (listed_cons false part (next ∷ more) ∙ ap (λ (xs : List ℕ). part ++ xs) (listed_cons true next more))
    ∙ split_first (λ b. b == 44) part 44 (next ++ listed true more) (all_map IsMark _ (λ x m. m.1) part is) refl
    ∙ ap (λ (xs : List ℕ). part ∷ parts xs) (sym (listed_cons false next more))
    ∙ ap (λ (ws : List (List ℕ)). part ∷ ws) (parts_listed next more all.0 all.1)

comma_plain : (led : Bool) (part : List ℕ) → AllByRecursion IsMark part → AllByRecursion IsPlain (behind_comma led part)
comma_plain true part is = (omega arith, marks_are_plain part is)
comma_plain false part is = marks_are_plain part is

pub listed_plain : (led : Bool) (ps : List (List ℕ)) → AllByRecursion (AllByRecursion IsMark) ps → AllByRecursion IsPlain (listed led ps)
unfolding listed
listed_plain led [] all = tt
listed_plain led (part ∷ more) all = all_append IsPlain (behind_comma led part) (listed true more) (comma_plain led part all.0) (listed_plain true more all.1)

-- ---- decimal digits

digits_are_marks : (ds : List ℕ) → AllDigits 10 ds → AllByRecursion IsMark ds
digits_are_marks [] all = tt
digits_are_marks (c ∷ cs) all =
    let parts = tells_digits.parts c cs all in
    let range = parts.0 in
    let no_comma : (c == 44) ≡ false = grind (arith, nat_tests, range) in
    ((omega (arith, range), no_comma), digits_are_marks cs parts.1)

no_prefix : (ds : List ℕ) → AllDigits 10 ds → starts_with nat_eq ds (codes "0x") ≡ false
no_prefix [] all = refl
no_prefix (c ∷ []) all = elim (nat_eq 48 c) as (λ b. (b && false) ≡ false) [ true ↦ refl | false ↦ refl ]
no_prefix (c ∷ d ∷ cs) all =
    let first = tells_digits.parts c (d ∷ cs) all in
    let second = tells_digits.parts d cs first.1 in
    let other : nat_eq 120 d ≡ false = let range = second.0 in grind (arith, nat_tests, range) in
    rw other (elim (nat_eq 48 c) as (λ b. (b && false) ≡ false) [ true ↦ refl | false ↦ refl ])

pub digit_first : (c : ℕ) (cs : List ℕ) → AllDigits 10 (c ∷ cs) → is_digit c 10 ≡ true
digit_first c cs all =
    let parts = tells_digits.parts c cs all in
    let range = parts.0 in
    let above : nat_lt c 48 ≡ false = grind (arith, nat_tests) in
    let within : nat_lt c 58 ≡ true = grind (arith, nat_tests) in
    let value : digit_value c ≡ c - 48 = rw (above, within) refl in
    let below : nat_lt (c - 48) 10 ≡ true = grind (arith, nat_tests) in
    rw value below

all_digits : (ds : List ℕ) → AllDigits 10 ds → list_all (λ c. is_digit c 10) ds ≡ true
all_digits [] all = refl
all_digits (c ∷ cs) all = rw (digit_first c cs all) (all_digits cs (tells_digits.parts c cs all).1)

pub own : (n : ℕ) → n < 4294967296 → AllDigits 10 (decimal n)
own n small = digits_decimal (numerals_by_value (AllDigits 10) tells_digits) n (omega (arith, small))

pub some_digits : (n : ℕ) → n < 4294967296 → 0 < length (decimal n)
some_digits n small = decimal_nonempty n (omega (arith, small))

pub decimal_marks : (n : ℕ) → n < 4294967296 → AllByRecursion IsMark (decimal n)
decimal_marks n small = digits_are_marks (decimal n) (own n small)

-- what the decimal digits of a number write
pub decimal_is_number : (most n : ℕ) → n ≤ most → n < 4294967296 → number most (decimal n) ≡ Some n
unfolding number digits
decimal_is_number most n within small =
    let all = own n small in
    let value = digits_value-decimal (numerals_by_value (AllDigits 10) tells_digits) n (omega (arith, small)) in
    let room = length-decimal-le 10 n (omega arith) (omega (arith, small)) (omega (arith, small)) in
    let some = some_digits n small in
    let a : nat_lt 0 (length (decimal n)) ≡ true = grind (arith, nat_tests) in
    let b : nat_le (length (decimal n)) 10 ≡ true = grind (arith, nat_tests) in
    let c : nat_le n most ≡ true = grind (arith, nat_tests) in
    rw (no_prefix (decimal n) all, a, b, all_digits (decimal n) all, value, c) refl

-- a text that begins with no digit
abbrev pub begins_plain : List ℕ → Bool
begins_plain [] = false
begins_plain (c ∷ cs) = not (is_digit c 10)

differs_first : (c d : ℕ) (cs ds : List ℕ) → (c == d) ≡ false → bytes_eq (c ∷ cs) (d ∷ ds) ≡ false
differs_first c d cs ds other = rw other refl

digit_other : (c d : ℕ) → not (is_digit c 10) ≡ true → is_digit d 10 ≡ true → (c == d) ≡ false
digit_other c d plain is = by (c == d) refl where
  by : (b : Bool) → (c == d) ≡ b → (c == d) ≡ false
  by false e = e
  by true e =
      let same : c ≡ d = grind (arith, nat_tests) in
      let both : is_digit c 10 ≡ true = rw same is in
      absurd (cc)

digits_differ : (text ds : List ℕ) → begins_plain text ≡ true → AllDigits 10 ds → 0 < length ds → bytes_eq text ds ≡ false
digits_differ [] ds plain all some = absurd (cc)
digits_differ (c ∷ cs) [] plain all some = absurd (omega (arith, some))
digits_differ (c ∷ cs) (d ∷ ds) plain all some = differs_first c d cs ds (digit_other c d plain (digit_first d ds all))

-- no decimal digits are such a text
pub decimal_differs : (text : List ℕ) (n : ℕ) → begins_plain text ≡ true → n < 4294967296 → bytes_eq text (decimal n) ≡ false
decimal_differs text n plain small = digits_differ text (decimal n) plain (own n small) (some_digits n small)

plus_no_digit : (d : ℕ) → is_digit d 10 ≡ true → (d == 43) ≡ false
plus_no_digit d is = grind (arith, nat_tests)

no_plus : (ds : List ℕ) → AllDigits 10 ds → 0 < length ds → (get_or ds 0 0 == 43) ≡ false
no_plus [] all some = absurd (omega (arith, some))
no_plus (d ∷ ds) all some = plus_no_digit d (digit_first d ds all)

-- decimal digits begin with no `+`
pub decimal_no_plus : (n : ℕ) → n < 4294967296 → (get_or (decimal n) 0 0 == 43) ≡ false
decimal_no_plus n small = no_plus (decimal n) (own n small) (some_digits n small)

-- a list of numbers begins with a digit
listed_other : (ds : List ℕ) (rest text : List ℕ) → begins_plain text ≡ true → AllDigits 10 ds → 0 < length ds → bytes_eq (ds ++ rest) text ≡ false
listed_other [] rest text plain all some = absurd (omega (arith, some))
listed_other (d ∷ ds) rest [] plain all some = refl
listed_other (d ∷ ds) rest (c ∷ cs) plain all some =
    let other : (c == d) ≡ false = digit_other c d plain (digit_first d ds all) in
    let turned : (d == c) ≡ false = grind (arith, nat_tests) in
    differs_first d c (ds ++ rest) cs turned

pub decimal_led : (n : ℕ) (rest text : List ℕ) → begins_plain text ≡ true → n < 4294967296 → bytes_eq (decimal n ++ rest) text ≡ false
decimal_led n rest text plain small = listed_other (decimal n) rest text plain (own n small) (some_digits n small)
