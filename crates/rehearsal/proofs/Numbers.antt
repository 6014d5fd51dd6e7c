-- How large the number of a generated scenario is.
use Rattle.std.proofs.Common.{◌≡◌, ℕ, ◌<◌, ◌≤◌, Bool, true, false, List, [], ◌∷◌, length, Some, None, refl, arith}
use Rattle.std.specs.Prelude.{◌&&◌, if◌then◌else◌, nat_lt, nat_le}
use Rattle.std.specs.List.{list_all}
use Rattle.std.specs.Char.{is_digit, digit_value}
use Rattle.std.specs.Str.Parse.{AllDigits, digits_value}
use Rattle.std.proofs.lemmas.Bool.Decides.{nat_tests}
use Rattle.std.proofs.lemmas.Str.Parse.{digit_from_value, digits_value_short, numerals_by_value, tells_digits}
use Rattle.scenario.specs.Words.{digits}

-- the two of a test of both
both : (a b : Bool) → (a && b) ≡ true → (a ≡ true) × (b ≡ true)
both true true is = (refl, refl)
both true false is = (refl, is)
both false b is = let wrong : ⊥ = cc in absurd wrong

-- bytes that pass the test of digits are digits
digits_all : (cs : List ℕ) → list_all (λ c. is_digit c 10) cs ≡ true → AllDigits 10 cs
digits_all [] all = tells_digits.empty
digits_all (c ∷ cs) all =
    let parts = both (is_digit c 10) (list_all (λ c. is_digit c 10) cs) all in
    let first = parts.0 in
    let below : digit_value c < 10 = grind (arith, nat_tests) in
    tells_digits.more c cs (digit_from_value c below) (digits_all cs parts.1)

-- what one to six decimal digits write is below a million
pub few_digits : (word : List ℕ) (n : ℕ) → digits 10 6 word ≡ Some n → n ≤ 999999
unfolding digits
few_digits word n is = by_tests (nat_lt 0 (length word)) (nat_le (length word) 6) (list_all (λ c. is_digit c 10) word) refl refl is
  where
    by_tests : (some short all : Bool) → nat_le (length word) 6 ≡ short → list_all (λ c. is_digit c 10) word ≡ all → (if some && short && all then Some (digits_value 10 word) else None) ≡ Some n → n ≤ 999999
    by_tests true true true within all_digits is =
        let few : length word ≤ 6 = grind (arith, nat_tests) in
        let below : digits_value 10 word < 1000000 = digits_value_short (numerals_by_value (AllDigits 10) tells_digits) word 6 (digits_all word all_digits) few in
        let same : digits_value 10 word ≡ n = cc in
        omega (arith, below, same)
    by_tests true true false within all_digits is = let wrong : ⊥ = cc in absurd wrong
    by_tests true false true within all_digits is = let wrong : ⊥ = cc in absurd wrong
    by_tests true false false within all_digits is = let wrong : ⊥ = cc in absurd wrong
    by_tests false true true within all_digits is = let wrong : ⊥ = cc in absurd wrong
    by_tests false true false within all_digits is = let wrong : ⊥ = cc in absurd wrong
    by_tests false false true within all_digits is = let wrong : ⊥ = cc in absurd wrong
    by_tests false false false within all_digits is = let wrong : ⊥ = cc in absurd wrong
