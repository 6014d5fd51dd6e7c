-- The first place whose byte passes a test.
use Rattle.std.proofs.Common.{◌≡◌, ℕ, zero, suc, ◌+◌, ◌<◌, ◌≤◌, Bool, true, false, not, List, [], ◌∷◌, length, take, get_or, Option, Some, None, refl, sym, subst, ◌∙◌, arith}
use Rattle.std.specs.List.{position, position_or_len, prefix_len}
use Rattle.std.proofs.lemmas.Simd.{run_in_chunk_fails, run_in_chunk_stops}
use Rattle.std.proofs.lemmas.Bool.{false≢true}
use Rattle.std.proofs.lemmas.Bool.Decides.{nat_tests}
use Rattle.memchr.specs.Find.{IsFirstByte}

-- the bytes of the places before k don't pass the test
abbrev NoneTo : (ℕ → Bool) → List ℕ → ℕ → Type 0
NoneTo p xs k = (j : ℕ) → j < k → p (get_or xs j 0) ≡ true → ⊥

behind : (p : ℕ → Bool) (x : ℕ) (xs : List ℕ) (k : ℕ) → NoneTo p (x ∷ xs) (suc k) → NoneTo p xs k
behind p x xs k none j lt passes = none (suc j) (omega arith) passes

first_fails : (p : ℕ → Bool) (x : ℕ) (xs : List ℕ) (k : ℕ) → NoneTo p (x ∷ xs) (suc k) → (b : Bool) → p x ≡ b → b ≡ false
first_fails p x xs k none true is = absurd (none 0 (omega arith) is)
first_fails p x xs k none false is = refl

one_on : (p : ℕ → Bool) (x : ℕ) (xs : List ℕ) → p x ≡ false → position_or_len p (x ∷ xs) ≡ 1 + position_or_len p xs
one_on p x xs fails = rw fails refl

len_is : (p : ℕ → Bool) (xs : List ℕ) → NoneTo p xs (length xs) → position_or_len p xs ≡ length xs
len_is p [] none = refl
len_is p (x ∷ xs) none =
    let fails : p x ≡ false = first_fails p x xs (length xs) none (p x) refl in
    omega (arith, one_on p x xs fails, len_is p xs (behind p x xs (length xs) none))

place_is : (p : ℕ → Bool) (xs : List ℕ) (k : ℕ) → k < length xs → NoneTo p xs k → p (get_or xs k 0) ≡ true → position_or_len p xs ≡ k
place_is p [] k within none passes = absurd (omega arith)
place_is p (x ∷ xs) zero within none passes = rw passes refl
place_is p (x ∷ xs) (suc k) within none passes =
    let fails : p x ≡ false = first_fails p x xs k none (p x) refl in
    omega (arith, one_on p x xs fails, place_is p xs k (omega arith) (behind p x xs k none) passes)

position_at : (p : ℕ → Bool) (xs : List ℕ) (k : ℕ) → k < length xs → position_or_len p xs ≡ k → Some k ≡ position p xs
position_at p xs k within is = rw is (grind (arith, nat_tests))

position_past : (p : ℕ → Bool) (xs : List ℕ) → position_or_len p xs ≡ length xs → None ≡ position p xs
position_past p xs is = rw is (grind (arith, nat_tests))

-- the first place that passes is the position
pub first_is : (p : ℕ → Bool) (xs : List ℕ) (found : Option ℕ) → IsFirstByte p xs found → found ≡ position p xs
first_is p xs None none = position_past p xs (len_is p xs (λ j lt passes. none j (omega arith) lt passes))
first_is p xs (Some k) is = position_at p xs k is.0.high (place_is p xs k is.0.high (λ j lt passes. is.0.before j (omega arith) lt passes) is.1)

-- the first place that passes, where it is among the first n
pub near_is : (p : ℕ → Bool) (xs : List ℕ) (n k : ℕ) → n ≤ length xs → k ≡ prefix_len (λ x. not (p x)) (take n xs) → k < n → Some k ≡ position p xs
near_is p xs n k room counted near =
    let fails = run_in_chunk_fails p xs 0 n k 0 (omega arith) counted in
    let stops = run_in_chunk_stops p xs 0 n k 0 (omega arith) counted near in
    let here : p (get_or xs k 0) ≡ true = subst (λ (i : ℕ). p (get_or xs i 0) ≡ true) (omega arith) stops in
    position_at p xs k (omega arith) (place_is p xs k (omega arith) (λ j lt passes. false≢true (sym (fails j (omega arith) (omega arith)) ∙ passes)) here)
