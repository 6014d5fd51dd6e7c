-- Lemmas on the digits of times.
use Rattle.std.proofs.Common.{◌≡◌, ℕ, ◌<◌, ◌≤◌, ◌^◌, true, false, Bool, refl, List, [], ◌∷◌, length, Some, None, arith, lit<}
use Rattle.std.specs.Prelude.{nat_lt, nat_le, ◌&&◌, if◌then◌else◌, IfSome}
use Rattle.std.specs.List.{list_all}
use Rattle.std.specs.Char.{is_digit}
use Rattle.std.specs.Str.Parse.{AllDigits, digits_value}
use Rattle.std.proofs.lemmas.Bool.Decides.{nat_tests}
use Rattle.std.proofs.lemmas.Int.Digits.{digits_value-lt}
use Rattle.std.proofs.Math.Nat.{pow-le-pow_right}
use Rattle.row_forms.specs.Words.{digits}
use Rattle.row_forms.proofs.TextLemmas.{and_both}
use Rattle.scenario.specs.Words.{digits as scenario_digits}

all_are_digits : (ds : List ℕ) → list_all (λ c. is_digit c 10) ds ≡ true → AllDigits 10 ds
all_are_digits [] all = tt
all_are_digits (c ∷ cs) all =
    let parts = and_both (is_digit c 10) (list_all (λ d. is_digit d 10) cs) all in
    let first = parts.0 in
    (grind (arith, nat_tests, first), all_are_digits cs parts.1)

small_if : (room : ℕ) (word : List ℕ) (b : Bool) → room ≤ 5 → (b ≡ true → digits_value 10 word < 10 ^ 5) → IfSome (if b then Some (digits_value 10 word) else None) (λ n. n < 100000)
small_if room word true few small = let h = small refl in omega (arith, h)
small_if room word false few small = tt

-- at most five digits
pub digits_small : (room : ℕ) (word : List ℕ) → room ≤ 5 → IfSome (digits 10 room word) (λ n. n < 100000)
unfolding digits
digits_small room word few =
    small_if room word (nat_lt 0 (length word) && nat_le (length word) room && list_all (λ c. is_digit c 10) word) few (λ e.
    let parts = and_both (nat_lt 0 (length word) && nat_le (length word) room) (list_all (λ c. is_digit c 10) word) e in
    let sizes = and_both (nat_lt 0 (length word)) (nat_le (length word) room) parts.0 in
    let short = sizes.1 in
    let long : length word ≤ 5 = grind (arith, nat_tests, short) in
    let below = digits_value-lt 10 word (all_are_digits word parts.1) in
    let most : 10 ^ length word ≤ 10 ^ 5 = pow-le-pow_right {n = 10} (lit< tt) {i = length word} {j = 5} long in
    omega (arith, below, most))

-- a scenario's digits are read in this way too
pub scenario_digits_are : (base room : ℕ) (word : List ℕ) → scenario_digits base room word ≡ digits base room word
unfolding scenario_digits digits
scenario_digits_are base room word = refl
