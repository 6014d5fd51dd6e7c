-- Masks, bit by bit.
use Rattle.std.proofs.Common.{◌≡◌, ℕ, ◌+◌, ◌-◌, ◌*◌, ◌^◌, ◌<◌, ◌≤◌, Bool, true, false, cond, List, [], ◌∷◌, length, drop, get_or, sym, ap, ◌∙◌, add-one, arith}
use Rattle.std.proofs.Math.Nat.{pow-succ'}
use Rattle.std.proofs.Math.Pow.{pow_mono}
use Rattle.std.proofs.lemmas.List.{drop_more, drop_all}
use Rattle.histories.specs.Masks.{bits_of}

pub twice : (n : ℕ) → 2 ^ (n + 1) ≡ 2 * 2 ^ n
twice n = ap (λ (k : ℕ). 2 ^ k) (add-one n) ∙ pow-succ' 2 n

-- a mask of so many bits
pub bits_small : (bits : List Bool) → bits_of bits < 2 ^ length bits
unfolding bits_of
bits_small [] = omega arith
bits_small (bit ∷ bits) = rw (pow-succ' 2 (length bits)) (by_case bit (bits_small bits))
  where
    by_case : (b : Bool) → bits_of bits < 2 ^ length bits → cond b 1 0 + 2 * bits_of bits < 2 * 2 ^ length bits
    by_case true small = omega arith
    by_case false small = omega arith

-- from a place on
pub bits_from : (bits : List Bool) (i : ℕ) (d : Bool) → i < length bits → bits_of (drop i bits) ≡ cond (get_or bits i d) 1 0 + 2 * bits_of (drop (i + 1) bits)
unfolding bits_of
bits_from bits i d within = ap bits_of (drop_more bits i d within)

-- no bit yet, and one bit more from the end
pub mask_none : (bits : List Bool) → 0 ≡ bits_of (drop (length bits - 0) bits)
unfolding bits_of
mask_none bits = sym (ap bits_of (drop_all (length bits - 0) bits (omega arith)))

pub mask_step : (bits : List Bool) (done mask bit : ℕ) (b d : Bool) → done < length bits → mask ≡ bits_of (drop (length bits - done) bits) → b ≡ get_or bits (length bits - 1 - done) d → bit ≡ cond b 1 0
    → 2 * mask + bit ≡ bits_of (drop (length bits - (done + 1)) bits)
mask_step bits done mask bit b d within so_far is here =
    let at : length bits - 1 - done ≡ length bits - (done + 1) = omega arith in
    let behind : length bits - (done + 1) + 1 ≡ length bits - done = omega arith in
    let rest : bits_of (drop (length bits - (done + 1) + 1) bits) ≡ mask = ap (λ (i : ℕ). bits_of (drop i bits)) behind ∙ sym so_far in
    let this : cond (get_or bits (length bits - (done + 1)) d) 1 0 ≡ bit = ap (λ (i : ℕ). cond (get_or bits i d) 1 0) (sym at) ∙ ap (λ (x : Bool). cond x 1 0) (sym is) ∙ sym here in
    let from = bits_from bits (length bits - (done + 1)) d (omega arith) in
    omega (arith, from, rest, this)

-- all bits
pub mask_whole : (bits : List Bool) (done mask : ℕ) → length bits ≤ done → mask ≡ bits_of (drop (length bits - done) bits) → mask ≡ bits_of bits
mask_whole bits done mask past is = let none : length bits - done ≡ 0 = omega arith in is ∙ ap (λ (i : ℕ). bits_of (drop i bits)) none

-- one more bit of at most 64 fits
pub mask_fits : (done : ℕ) → done < 64 → 2 * 2 ^ done ≤ 2 ^ 64
mask_fits done few =
    let some : done + 1 ≤ 64 = omega arith in
    let power : 2 ^ (done + 1) ≤ 2 ^ 64 = pow_mono some in
    let double = twice done in
    omega (arith, power, double)
