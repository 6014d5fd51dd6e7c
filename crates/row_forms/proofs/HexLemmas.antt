-- Lemmas on hexadecimal digits that are read back.
use Rattle.std.proofs.Common.{◌≡◌, ℕ, zero, suc, ◌+◌, ◌*◌, ◌<◌, ◌≤◌, ◌/◌, ◌%◌, true, false, List, [], ◌∷◌, ◌++◌, length, refl, ◌∙◌, arith, Some}
use Rattle.std.specs.Prelude.{if◌then◌else◌, nat_lt, nat_le, codes}
use Rattle.std.specs.List.{AllByRecursion, list_all}
use Rattle.std.specs.Char.{is_digit, digit_value}
use Rattle.std.specs.Str.Parse.{digits_value_after}
use Rattle.std.proofs.lemmas.Bool.Decides.{nat_tests}
use Rattle.packet_forms.specs.Hex.{hex, hex_digit}
use Rattle.row_forms.specs.Words.{digits, number, hex_said}
use Rattle.row_forms.proofs.TextLemmas.{IsPlain}

-- a digit is one, of this value
digit_is : (n : ℕ) → n < 16 → (is_digit (hex_digit n) 16 ≡ true) × (digit_value (hex_digit n) ≡ n)
digit_is zero small = (refl, refl)
digit_is (suc zero) small = (refl, refl)
digit_is (suc (suc zero)) small = (refl, refl)
digit_is (suc (suc (suc zero))) small = (refl, refl)
digit_is (suc (suc (suc (suc zero)))) small = (refl, refl)
digit_is (suc (suc (suc (suc (suc zero))))) small = (refl, refl)
digit_is (suc (suc (suc (suc (suc (suc zero)))))) small = (refl, refl)
digit_is (suc (suc (suc (suc (suc (suc (suc zero))))))) small = (refl, refl)
digit_is (suc (suc (suc (suc (suc (suc (suc (suc zero)))))))) small = (refl, refl)
digit_is (suc (suc (suc (suc (suc (suc (suc (suc (suc zero))))))))) small = (refl, refl)
digit_is (suc (suc (suc (suc (suc (suc (suc (suc (suc (suc zero)))))))))) small = (refl, refl)
digit_is (suc (suc (suc (suc (suc (suc (suc (suc (suc (suc (suc zero))))))))))) small = (refl, refl)
digit_is (suc (suc (suc (suc (suc (suc (suc (suc (suc (suc (suc (suc zero)))))))))))) small = (refl, refl)
digit_is (suc (suc (suc (suc (suc (suc (suc (suc (suc (suc (suc (suc (suc zero))))))))))))) small = (refl, refl)
digit_is (suc (suc (suc (suc (suc (suc (suc (suc (suc (suc (suc (suc (suc (suc zero)))))))))))))) small = (refl, refl)
digit_is (suc (suc (suc (suc (suc (suc (suc (suc (suc (suc (suc (suc (suc (suc (suc zero))))))))))))))) small = (refl, refl)
digit_is (suc (suc (suc (suc (suc (suc (suc (suc (suc (suc (suc (suc (suc (suc (suc (suc n)))))))))))))))) small = absurd (omega (arith, small))

digit_plain : (n : ℕ) → IsPlain (hex_digit n)
digit_plain n = elim (nat_lt n 10) as (λ b. 33 ≤ (if b then 48 + n else 55 + n)) [ true ↦ omega arith | false ↦ omega arith ]

pub hex_is_plain : (bytes : List ℕ) → AllByRecursion IsPlain (hex bytes)
unfolding hex
hex_is_plain [] = tt
hex_is_plain (b ∷ bytes) = (digit_plain (b / 16), (digit_plain (b % 16), hex_is_plain bytes))

pub hex_length : (bytes : List ℕ) → length (hex bytes) ≡ 2 * length bytes
unfolding hex
hex_length [] = refl
hex_length (b ∷ bytes) = let more = hex_length bytes in omega (arith, more)

-- what the digits of bytes write
pub hex_is_bytes : (bytes : List ℕ) → AllByRecursion (λ b. b < 256) bytes → hex_said (hex bytes) ≡ Some bytes
unfolding hex_said hex
hex_is_bytes [] all = refl
hex_is_bytes (b ∷ bytes) all =
    let high = digit_is (b / 16) (omega (arith, all.0)) in
    let low = digit_is (b % 16) (omega arith) in
    let whole : 16 * (b / 16) + b % 16 ≡ b = omega arith in
    rw (high.0, low.0, high.1, low.1, hex_is_bytes bytes all.1, whole) refl

hex_digits_are : (bytes : List ℕ) → AllByRecursion (λ b. b < 256) bytes → list_all (λ c. is_digit c 16) (hex bytes) ≡ true
unfolding hex
hex_digits_are [] all = refl
hex_digits_are (b ∷ bytes) all =
    let high = digit_is (b / 16) (omega (arith, all.0)) in
    let low = digit_is (b % 16) (omega arith) in
    rw (high.0, low.0) (hex_digits_are bytes all.1)

-- the number that the digits of bytes write behind others
hex_value : (n b : ℕ) (bytes : List ℕ) → b < 256 → digits_value_after 16 n (hex (b ∷ bytes)) ≡ digits_value_after 16 (n * 256 + b) (hex bytes)
unfolding hex
hex_value n b bytes small =
    let high = digit_is (b / 16) (omega (arith, small)) in
    let low = digit_is (b % 16) (omega arith) in
    let e : (n * 16 + b / 16) * 16 + b % 16 ≡ n * 256 + b = omega arith in
    rw (high.1, low.1, e) refl

hex_value_nil : (n : ℕ) → digits_value_after 16 n (hex []) ≡ n
unfolding hex
hex_value_nil n = refl

-- the number of bytes, the most significant first
abbrev pub bytes_value : ℕ → List ℕ → ℕ
bytes_value n [] = n
bytes_value n (b ∷ bytes) = bytes_value (n * 256 + b) bytes

hex_values : (n : ℕ) (bytes : List ℕ) → AllByRecursion (λ b. b < 256) bytes → digits_value_after 16 n (hex bytes) ≡ bytes_value n bytes
hex_values n [] all = hex_value_nil n
hex_values n (b ∷ bytes) all = hex_value n b bytes all.0 ∙ hex_values (n * 256 + b) bytes all.1

-- what `0x` and the digits of 1 to 4 bytes write
pub hex_is_number : (most : ℕ) (bytes : List ℕ) → AllByRecursion (λ b. b < 256) bytes → 0 < length bytes → length bytes ≤ 4 → bytes_value 0 bytes ≤ most → number most (codes "0x" ++ hex bytes) ≡ Some (bytes_value 0 bytes)
unfolding number digits
hex_is_number most bytes all some few within =
    let long = hex_length bytes in
    let a : nat_lt 0 (length (hex bytes)) ≡ true = grind (arith, nat_tests) in
    let b : nat_le (length (hex bytes)) 8 ≡ true = grind (arith, nat_tests) in
    let c : nat_le (bytes_value 0 bytes) most ≡ true = grind (arith, nat_tests) in
    rw (a, b, hex_digits_are bytes all, hex_values 0 bytes all, c) refl
