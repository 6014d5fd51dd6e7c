-- What the words of a generated scenario's lines say.
use Rattle.std.proofs.Common.{◌≡◌, ℕ, zero, suc, ◌+◌, ◌*◌, ◌<◌, ◌≤◌, ◌/◌, ◌%◌, ◌-◌, Bool, true, false, List, [], ◌∷◌, ◌++◌, length, refl, ◌∙◌, ap, arith, Some, codes}
use Rattle.std.specs.Prelude.{◌==◌, ◌&&◌, if◌then◌else◌, nat_lt, nat_le, nat_eq, decimal}
use Rattle.std.specs.List.{AllByRecursion, slice_split, onto_first, list_all, starts_with}
use Rattle.std.specs.Char.{is_digit, digit_value}
use Rattle.std.specs.Str.Parse.{AllDigits}
use Rattle.std.proofs.lemmas.Bool.Decides.{nat_tests}
use Rattle.std.proofs.lemmas.List.Splits.{slice_split-cons_yes, slice_split-cons_no}
use Rattle.std.proofs.lemmas.Str.Parse.{numerals_by_value, tells_digits}
use Rattle.std.proofs.lemmas.Fmt.{digits_decimal, digits_value-decimal, length-decimal-le, decimal_nonempty}
use Rattle.scenario.specs.Words.{words, digits, number, hex}
use Rattle.scenario.specs.Drill.{upper_digit, upper_hex}

-- ---- the parts of bytes

-- the first part ends at the first byte that ends one
pub split_first : (p : ℕ → Bool) (xs : List ℕ) (y : ℕ) (ys : List ℕ) → AllByRecursion (λ x. p x ≡ false) xs → p y ≡ true → slice_split p (xs ++ y ∷ ys) ≡ xs ∷ slice_split p ys
split_first p [] y ys all ends = slice_split-cons_yes p y ys ends
split_first p (x ∷ xs) y ys all ends = slice_split-cons_no p x (xs ++ y ∷ ys) all.0 ∙ ap (onto_first x) (split_first p xs y ys all.1 ends)

-- all is one part where none does
pub split_none : (p : ℕ → Bool) (xs : List ℕ) → AllByRecursion (λ x. p x ≡ false) xs → slice_split p xs ≡ xs ∷ []
split_none p [] all = refl
split_none p (x ∷ xs) all = slice_split-cons_no p x xs all.0 ∙ ap (onto_first x) (split_none p xs all.1)

-- what holds of two lists holds of both together
pub all_append : (P : ℕ → Type 0) (xs ys : List ℕ) → AllByRecursion P xs → AllByRecursion P ys → AllByRecursion P (xs ++ ys)
all_append P [] ys first second = second
all_append P (x ∷ xs) ys first second = (first.0, all_append P xs ys first.1 second)

pub all_map : (P Q : ℕ → Type 0) → ((x : ℕ) → P x → Q x) → (xs : List ℕ) → AllByRecursion P xs → AllByRecursion Q xs
all_map P Q f [] all = tt
all_map P Q f (x ∷ xs) all = (f x all.0, all_map P Q f xs all.1)

-- a byte that ends neither a line nor a word
abbrev pub IsPlain : ℕ → Type 0
IsPlain b = 33 ≤ b

pub plain_no_space : (b : ℕ) → IsPlain b → (b == 32) ≡ false
plain_no_space b plain = grind (arith, nat_tests)

pub plain_no_lf : (b : ℕ) → IsPlain b → (b == 10) ≡ false
plain_no_lf b plain = grind (arith, nat_tests)

-- ---- numbers

pub digits_are_plain : (ds : List ℕ) → AllDigits 10 ds → AllByRecursion IsPlain ds
digits_are_plain [] all = tt
digits_are_plain (c ∷ cs) all =
    let parts = tells_digits.parts c cs all in
    (omega (arith, parts.0), digits_are_plain cs parts.1)

-- digits don't begin with `0x`
no_prefix : (ds : List ℕ) → AllDigits 10 ds → starts_with nat_eq ds (codes "0x") ≡ false
no_prefix [] all = refl
no_prefix (c ∷ []) all = elim (nat_eq 48 c) as (λ b. (b && false) ≡ false) [ true ↦ refl | false ↦ refl ]
no_prefix (c ∷ d ∷ cs) all =
    let first = tells_digits.parts c (d ∷ cs) all in
    let second = tells_digits.parts d cs first.1 in
    let other : nat_eq 120 d ≡ false = let range = second.0 in grind (arith, nat_tests, range) in
    rw other (elim (nat_eq 48 c) as (λ b. (b && false) ≡ false) [ true ↦ refl | false ↦ refl ])

all_digits : (ds : List ℕ) → AllDigits 10 ds → list_all (λ c. is_digit c 10) ds ≡ true
all_digits [] all = refl
all_digits (c ∷ cs) all =
    let parts = tells_digits.parts c cs all in
    let range = parts.0 in
    let above : nat_lt c 48 ≡ false = grind (arith, nat_tests) in
    let within : nat_lt c 58 ≡ true = grind (arith, nat_tests) in
    let value : digit_value c ≡ c - 48 = rw (above, within) refl in
    let below : nat_lt (c - 48) 10 ≡ true = grind (arith, nat_tests) in
    let first : is_digit c 10 ≡ true = rw value below in
    rw first (all_digits cs parts.1)

pub own : (n : ℕ) → n < 4294967296 → AllDigits 10 (decimal n)
own n small = digits_decimal (numerals_by_value (AllDigits 10) tells_digits) n (omega (arith, small))

pub some_digits : (n : ℕ) → n < 4294967296 → 0 < length (decimal n)
some_digits n small = decimal_nonempty n (omega (arith, small))

-- what the decimal digits of a number write
pub decimal_is_number : (most n : ℕ) → n ≤ most → n < 4294967296 → number most (decimal n) ≡ Some n
unfolding number digits
decimal_is_number most n within small =
    let all = own n small in
    let value = digits_value-decimal (numerals_by_value (AllDigits 10) tells_digits) n (omega (arith, small)) in
    let room = length-decimal-le 10 n (omega arith) (omega (arith, small)) (omega (arith, small)) in
    let some = some_digits n small in
    let a : nat_lt 0 (length (decimal n)) ≡ true = grind (arith, nat_tests) in
    let b : nat_le (length (decimal n)) 10 ≡ true = grind (arith, nat_tests) in
    let c : nat_le n most ≡ true = grind (arith, nat_tests) in
    rw (no_prefix (decimal n) all, a, b, all_digits (decimal n) all, value, c) refl

-- ---- hexadecimal digits

-- a digit is one, of this value
digit_is : (n : ℕ) → n < 16 → (is_digit (upper_digit n) 16 ≡ true) × (digit_value (upper_digit n) ≡ n)
digit_is zero small = (refl, refl)
digit_is (suc zero) small = (refl, refl)
digit_is (suc (suc zero)) small = (refl, refl)
digit_is (suc (suc (suc zero))) small = (refl, refl)
digit_is (suc (suc (suc (suc zero)))) small = (refl, refl)
digit_is (suc (suc (suc (suc (suc zero))))) small = (refl, refl)
digit_is (suc (suc (suc (suc (suc (suc zero)))))) small = (refl, refl)
digit_is (suc (suc (suc (suc (suc (suc (suc zero))))))) small = (refl, refl)
digit_is (suc (suc (suc (suc (suc (suc (suc (suc zero)))))))) small = (refl, refl)
digit_is (suc (suc (suc (suc (suc (suc (suc (suc (suc zero))))))))) small = (refl, refl)
digit_is (suc (suc (suc (suc (suc (suc (suc (suc (suc (suc zero)))))))))) small = (refl, refl)
digit_is (suc (suc (suc (suc (suc (suc (suc (suc (suc (suc (suc zero))))))))))) small = (refl, refl)
digit_is (suc (suc (suc (suc (suc (suc (suc (suc (suc (suc (suc (suc zero)))))))))))) small = (refl, refl)
digit_is (suc (suc (suc (suc (suc (suc (suc (suc (suc (suc (suc (suc (suc zero))))))))))))) small = (refl, refl)
digit_is (suc (suc (suc (suc (suc (suc (suc (suc (suc (suc (suc (suc (suc (suc zero)))))))))))))) small = (refl, refl)
digit_is (suc (suc (suc (suc (suc (suc (suc (suc (suc (suc (suc (suc (suc (suc (suc zero))))))))))))))) small = (refl, refl)
digit_is (suc (suc (suc (suc (suc (suc (suc (suc (suc (suc (suc (suc (suc (suc (suc (suc n)))))))))))))))) small = absurd (omega (arith, small))

digit_plain : (n : ℕ) → IsPlain (upper_digit n)
digit_plain n = elim (nat_lt n 10) as (λ b. 33 ≤ (if b then 48 + n else 55 + n)) [ true ↦ omega arith | false ↦ omega arith ]

pub hex_is_plain : (bytes : List ℕ) → AllByRecursion IsPlain (upper_hex bytes)
unfolding upper_hex
hex_is_plain [] = tt
hex_is_plain (b ∷ bytes) = (digit_plain (b / 16), (digit_plain (b % 16), hex_is_plain bytes))

pub hex_length : (bytes : List ℕ) → length (upper_hex bytes) ≡ 2 * length bytes
unfolding upper_hex
hex_length [] = refl
hex_length (b ∷ bytes) = let more = hex_length bytes in omega (arith, more)

-- what the digits of bytes write
pub hex_is_bytes : (bytes : List ℕ) → AllByRecursion (λ b. b < 256) bytes → hex (upper_hex bytes) ≡ Some bytes
unfolding hex upper_hex
hex_is_bytes [] all = refl
hex_is_bytes (b ∷ bytes) all =
    let high = digit_is (b / 16) (omega (arith, all.0)) in
    let low = digit_is (b % 16) (omega arith) in
    let whole : 16 * (b / 16) + b % 16 ≡ b = omega arith in
    rw (high.0, low.0, high.1, low.1, hex_is_bytes bytes all.1, whole) refl

-- ---- words

pub two_words : (a b : List ℕ) → AllByRecursion IsPlain a → AllByRecursion IsPlain b → 0 < length a → 0 < length b → words (a ++ 32 ∷ b) ≡ a ∷ b ∷ []
unfolding words
two_words a b plain_a plain_b some_a some_b =
    let first = split_first (λ c. c == 32) a 32 b (all_map IsPlain _ plain_no_space a plain_a) refl in
    let second = split_none (λ c. c == 32) b (all_map IsPlain _ plain_no_space b plain_b) in
    let x : nat_lt 0 (length a) ≡ true = grind (arith, nat_tests) in
    let y : nat_lt 0 (length b) ≡ true = grind (arith, nat_tests) in
    rw (first, second, x, y) refl

pub three_words : (a b c : List ℕ) → AllByRecursion IsPlain a → AllByRecursion IsPlain b → AllByRecursion IsPlain c → 0 < length a → 0 < length b → 0 < length c → words (a ++ 32 ∷ (b ++ 32 ∷ c)) ≡ a ∷ b ∷ c ∷ []
unfolding words
three_words a b c plain_a plain_b plain_c some_a some_b some_c =
    let first = split_first (λ c. c == 32) a 32 (b ++ 32 ∷ c) (all_map IsPlain _ plain_no_space a plain_a) refl in
    let second = split_first (λ c. c == 32) b 32 c (all_map IsPlain _ plain_no_space b plain_b) refl in
    let third = split_none (λ c. c == 32) c (all_map IsPlain _ plain_no_space c plain_c) in
    let x : nat_lt 0 (length a) ≡ true = grind (arith, nat_tests) in
    let y : nat_lt 0 (length b) ≡ true = grind (arith, nat_tests) in
    let z : nat_lt 0 (length c) ≡ true = grind (arith, nat_tests) in
    rw (first, second, third, x, y, z) refl
