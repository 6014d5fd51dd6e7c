-- Banks and what is landed on them.
use Rattle.std.proofs.Common.{◌≡◌, ℕ, ◌+◌, ◌-◌, ◌*◌, ◌/◌, ◌<◌, ◌≤◌, Bool, true, List, length, take, drop, get_or, refl, sym, ◌∙◌, ap, arith, min, IsTrue, length-drop, add_assoc}
use Rattle.std.specs.Prelude.{◌&&◌, nat_le, nat_lt}
use Rattle.std.proofs.lemmas.Bool.Decides.{nat_tests}
use Rattle.std.proofs.lemmas.List.{length-take, get_or-take, get_or-drop}
use Rattle.memory_window.specs.declared.regions.Region.{Region}
use Rattle.memory_window.specs.Regions.{holds}
use Rattle.memory_window.specs.Memory.{each_from}
use Rattle.memory_window.specs.Banks.{bank_size, bank_of, bank_holds, bank_at}
use Rattle.memory_window.proofs.Areas.{each_from-is, length-each_from, get_or-each_from}

-- three tests that hold
all_three : (a b c : Bool) → a ≡ true → b ≡ true → c ≡ true → (a && (b && c)) ≡ true
all_three a b c x y z = rw (x, y, z) refl

-- the last two of three tests that hold
last_two : (a b c : Bool) → (a && (b && c)) ≡ true → (b ≡ true) × (c ≡ true)
last_two a b c is = grind (arith, nat_tests)

-- an address lies in the bank that its distance from the region's start tells
pub bank_has : (r : Region) (at : ℕ) → IsTrue (holds at r) → IsTrue (bank_holds (bank_at r at) r at)
unfolding bank_holds bank_at
bank_has r at inside =
    let start : r.start ≤ at = grind (arith, nat_tests) in
    let low : nat_le (r.start + (at - r.start) / 65536 * 65536) at ≡ true = grind (arith, nat_tests) in
    let high : nat_lt at (r.start + ((at - r.start) / 65536 + 1) * 65536) ≡ true = grind (arith, nat_tests) in
    all_three (holds at r) _ _ inside low high

-- and in no other
pub bank_is : (r : Region) (at n : ℕ) → IsTrue (bank_holds n r at) → n ≡ bank_at r at
unfolding bank_holds bank_at
bank_is r at n inside =
    let two = last_two (holds at r) (nat_le (r.start + n * 65536) at) (nat_lt at (r.start + (n + 1) * 65536)) inside in
    let low_test : nat_le (r.start + n * 65536) at ≡ true = two.0 in
    let high_test : nat_lt at (r.start + (n + 1) * 65536) ≡ true = two.1 in
    let low : r.start + n * 65536 ≤ at = grind (arith, nat_tests) in
    let high : at < r.start + (n + 1) * 65536 = grind (arith, nat_tests) in
    omega (arith, low, high)

-- a part of what is made of bytes, by itself
pub part_alone : (f : ℕ → ℕ → ℕ) (at from count : ℕ) (xs : List ℕ) → take count (drop from (each_from f at xs)) ≡ each_from f (at + from) (take count (drop from xs))
part_alone f at from count xs =
    each_from-is f (at + from) (take count (drop from xs)) (take count (drop from (each_from f at xs)))
    (length-take count (drop from (each_from f at xs)) ∙ ap (min count) (length-drop from (each_from f at xs) ∙ ap (λ (n : ℕ). n - from) (length-each_from f at xs) ∙ sym (length-drop from xs)) ∙ sym (length-take count (drop from xs)))
    (λ k within.
    let size = length-take count (drop from xs) in
    let rest = length-drop from xs in
    let few : k < count = omega (arith, size, within) in
    let inside : from + k < length xs = omega (arith, size, rest, within) in
    get_or-take count (drop from (each_from f at xs)) k 0 few ∙ get_or-drop from (each_from f at xs) k 0 ∙ get_or-each_from f at xs (from + k) inside
    ∙ ap (λ (a : ℕ). f a (get_or xs (from + k) 0)) (sym (add_assoc at from k))
    ∙ ap (f (at + from + k)) (sym (get_or-take count (drop from xs) k 0 few ∙ get_or-drop from xs k 0)))

-- what is made of a bank's bytes by themselves is the bank of what is made of the region's
pub bank_alone : (f : ℕ → ℕ → ℕ) (at n : ℕ) (xs : List ℕ) → bank_of n (each_from f at xs) ≡ each_from f (at + n * bank_size) (bank_of n xs)
unfolding bank_of
bank_alone f at n xs = part_alone f at (n * 65536) 65536 xs
