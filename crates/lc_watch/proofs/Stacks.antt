-- The values that stand, as the bits of a number, the last one lowest.
use Rattle.std.proofs.Common.{◌≡◌, ℕ, ◌+◌, ◌*◌, ◌/◌, ◌%◌, Bool, true, false, cond, List, [], ◌∷◌, Some, refl, ap, subst, ◌∙◌, arith}
use Rattle.std.specs.Prelude.{◌==◌}
use Rattle.histories.specs.Masks.{bits_of}
use Rattle.lc_watch.specs.Expressions.{with_one, with_two, values_left}

-- the lowest bit, and those above it
bit_low : (b : Bool) (rest : ℕ) → ((cond b 1 0 + 2 * rest) % 2 == 1) ≡ b
bit_low true rest = let odd : (1 + 2 * rest) % 2 ≡ 1 = omega arith in ap (λ (n : ℕ). n == 1) odd
bit_low false rest = let even : (0 + 2 * rest) % 2 ≡ 0 = omega arith in ap (λ (n : ℕ). n == 1) even

bits_high : (b : Bool) (rest : ℕ) → (cond b 1 0 + 2 * rest) / 2 ≡ rest
bits_high true rest = omega arith
bits_high false rest = omega arith

bits_higher : (b a : Bool) (rest : ℕ) → (cond b 1 0 + 2 * (cond a 1 0 + 2 * rest)) / 4 ≡ rest
bits_higher true true rest = omega arith
bits_higher true false rest = omega arith
bits_higher false true rest = omega arith
bits_higher false false rest = omega arith

-- what an operator with one operand leaves
pub one_left : (f : Bool → Bool) (values left : List Bool) (stack : ℕ) → stack ≡ bits_of values → with_one f values ≡ Some left → cond (f (stack % 2 == 1)) 1 0 + 2 * (stack / 2) ≡ bits_of left
unfolding bits_of
one_left f [] left stack is done = cc
one_left f (a ∷ values) left stack is done =
    let low : (stack % 2 == 1) ≡ a = ap (λ (n : ℕ). n % 2 == 1) is ∙ bit_low a (bits_of values) in
    let high : stack / 2 ≡ bits_of values = ap (λ (n : ℕ). n / 2) is ∙ bits_high a (bits_of values) in
    let same : f a ∷ values ≡ left = cc in
    subst (λ (xs : List Bool). cond (f (stack % 2 == 1)) 1 0 + 2 * (stack / 2) ≡ bits_of xs) same (rw (low, high) refl)

-- with two
pub two_left : (f : Bool → Bool → Bool) (values left : List Bool) (stack : ℕ) → stack ≡ bits_of values → with_two f values ≡ Some left
    → cond (f (stack / 2 % 2 == 1) (stack % 2 == 1)) 1 0 + 2 * (stack / 4) ≡ bits_of left
unfolding bits_of
two_left f [] left stack is done = cc
two_left f (b ∷ []) left stack is done = cc
two_left f (b ∷ a ∷ values) left stack is done =
    let low : (stack % 2 == 1) ≡ b = ap (λ (n : ℕ). n % 2 == 1) is ∙ bit_low b (cond a 1 0 + 2 * bits_of values) in
    let high : stack / 2 ≡ cond a 1 0 + 2 * bits_of values = ap (λ (n : ℕ). n / 2) is ∙ bits_high b (cond a 1 0 + 2 * bits_of values) in
    let next : (stack / 2 % 2 == 1) ≡ a = ap (λ (n : ℕ). n % 2 == 1) high ∙ bit_low a (bits_of values) in
    let rest : stack / 4 ≡ bits_of values = ap (λ (n : ℕ). n / 4) is ∙ bits_higher b a (bits_of values) in
    let same : f a b ∷ values ≡ left = cc in
    subst (λ (xs : List Bool). cond (f (stack / 2 % 2 == 1) (stack % 2 == 1)) 1 0 + 2 * (stack / 4) ≡ bits_of xs) same (rw (low, next, rest) refl)

-- of a value more
pub put_left : (b : Bool) (values left : List Bool) (stack : ℕ) → stack ≡ bits_of values → Some (b ∷ values) ≡ Some left → cond b 1 0 + 2 * stack ≡ bits_of left
unfolding bits_of
put_left b values left stack is done =
    let same : b ∷ values ≡ left = cc in
    subst (λ (xs : List Bool). cond b 1 0 + 2 * stack ≡ bits_of xs) same (rw is refl)

-- the value of one
pub last_is : (b : Bool) (stack : ℕ) → stack ≡ bits_of (b ∷ []) → (stack % 2 == 1) ≡ b
unfolding bits_of
last_is b stack is = ap (λ (n : ℕ). n % 2 == 1) is ∙ bit_low b 0

-- no value yet
pub none_standing : (value : ℕ → Bool) (values : List Bool) → values_left value [] ≡ Some values → 0 ≡ bits_of values
unfolding bits_of values_left
none_standing value [] is = refl
none_standing value (b ∷ values) is = cc
