-- Pairs of hexadecimal digits by tables.
use Rattle.std.proofs.Common.{◌≡◌, ℕ, ◌+◌, ◌*◌, ◌<◌, ◌≤◌, Bool, true, false, ◌&&◌, cond, nat_lt, List, map, get_or, refl, ap, ◌∙◌, arith}
use Rattle.std.proofs.lemmas.Bool.Decides.{nat_tests}
use Rattle.std.specs.Char.{is_digit, digit_value}
use Rattle.std.specs.List.{range_with_len}
use Rattle.std.proofs.lemmas.List.FromFn.{get_or-map-range_with_len}
use Rattle.scenario.specs.declared.digit_pairs.TheConstants.{HIGHS, LOWS}
use Rattle.scenario.specs.DigitPairs.{high_value, low_value}

highs_are : HIGHS ≡ map high_value (range_with_len 0 256)
highs_are = refl

lows_are : LOWS ≡ map low_value (range_with_len 0 256)
lows_are = refl

pub high_is : (b : ℕ) → b < 256 → get_or HIGHS b 0 ≡ high_value b
high_is b small = ap (λ (xs : List ℕ). get_or xs b 0) highs_are ∙ get_or-map-range_with_len high_value 0 256 b b 0 small (omega arith)

pub low_is : (b : ℕ) → b < 256 → get_or LOWS b 0 ≡ low_value b
low_is b small = ap (λ (xs : List ℕ). get_or xs b 0) lows_are ∙ get_or-map-range_with_len low_value 0 256 b b 0 small (omega arith)

below : (n : ℕ) → nat_lt n 16 ≡ true → n < 16
below n e = grind (arith, nat_tests)

bounded : (t : Bool) (n : ℕ) → nat_lt n 16 ≡ t → cond t (16 * n) 256 ≤ 256
bounded true n e = let small = below n e in omega (arith, small)
bounded false n e = omega arith

pub high_most : (b : ℕ) → high_value b ≤ 256
high_most b = bounded (nat_lt (digit_value b) 16) (digit_value b) refl

bounded_low : (t : Bool) (n : ℕ) → nat_lt n 16 ≡ t → cond t n 256 ≤ 256
bounded_low true n e = let small = below n e in omega (arith, small)
bounded_low false n e = omega arith

pub low_most : (b : ℕ) → low_value b ≤ 256
low_most b = bounded_low (nat_lt (digit_value b) 16) (digit_value b) refl

both_read : (p q : Bool) (h l v : ℕ) → v ≡ cond p (16 * h) 256 + cond q l 256 → v < 256 → ((p && q) ≡ true) × (v ≡ 16 * h + l)
both_read true true h l v is small = (refl, is)
both_read true false h l v is small = absurd (omega (arith, is, small))
both_read false q h l v is small = absurd (omega (arith, is, small))

one_none : (p q : Bool) (h l v : ℕ) → nat_lt h 16 ≡ p → nat_lt l 16 ≡ q → v ≡ cond p (16 * h) 256 + cond q l 256 → 256 ≤ v → (p && q) ≡ false
one_none true true h l v first second is large = let a = below h first in let b = below l second in absurd (omega (arith, a, b, is, large))
one_none true false h l v first second is large = refl
one_none false q h l v first second is large = refl

-- where the sum is below 256 both are digits
pub sum_good : (a b v : ℕ) → v ≡ high_value a + low_value b → v < 256 → ((is_digit a 16 && is_digit b 16) ≡ true) × (v ≡ 16 * digit_value a + digit_value b)
sum_good a b v is small = both_read (is_digit a 16) (is_digit b 16) (digit_value a) (digit_value b) v is small

pub sum_bad : (a b v : ℕ) → v ≡ high_value a + low_value b → 256 ≤ v → (is_digit a 16 && is_digit b 16) ≡ false
sum_bad a b v is large = one_none (is_digit a 16) (is_digit b 16) (digit_value a) (digit_value b) v refl refl is large
