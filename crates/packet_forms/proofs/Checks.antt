-- The check by whole bytes: it is linear, so a byte's part in it can be read from a table.
use Rattle.std.proofs.Common.{◌≡◌, ℕ, zero, suc, ◌+◌, ◌*◌, ◌/◌, ◌%◌, ◌<◌, ◌^◌, Bool, true, false, not, cond, List, [], ◌∷◌, ◌++◌, length, get_or, refl, sym, ap, ◌∙◌, arith, add-zero, mul_assoc, length-append, take, drop, ◌≤◌, ◌-◌, length-drop}
use Rattle.std.specs.Prelude.{◌==◌, flat_map}
use Rattle.std.specs.List.{fold}
use Rattle.std.specs.Int.Bits.{bit_xor, xor_self, xor_zero_l, xor_zero_r, xor_assoc, xor_add_and}
use Rattle.std.proofs.lemmas.Nat.{xor_comm, xor_shr, xor_block, pow_pos, shr_split}
use Rattle.std.proofs.Math.Nat.{pow-suc}
use Rattle.std.proofs.lemmas.Bool.Decides.{nat_tests}
use Rattle.std.proofs.lemmas.List.Sums.{fold-append}
use Rattle.std.proofs.lemmas.Grind.{flat_map-append}
use Rattle.std.proofs.lemmas.List.{take_all, length-take-le}
use Rattle.std.proofs.Math.Seq.{take-add}
use Rattle.packet_forms.specs.Crc.{low_bits, crc_bit, crc_of, after_zeros}

-- two lists, one after the other
pub crc_both : (c : ℕ) (xs ys : List ℕ) → crc_of c (xs ++ ys) ≡ crc_of (crc_of c xs) ys
unfolding crc_of
crc_both c xs ys = ap (fold crc_bit c) (flat_map-append (low_bits 8) xs ys) ∙ fold-append crc_bit c (flat_map (low_bits 8) xs) (flat_map (low_bits 8) ys)

pub crc_none : (c : ℕ) → crc_of c [] ≡ c
unfolding crc_of
crc_none c = refl

odd_sum : (m n : ℕ) → ((m + n) % 2 == 1) ≡ cond (m % 2 == 1) (not (n % 2 == 1)) (n % 2 == 1)
odd_sum m n = grind (arith, nat_tests)

pub swapped : (x y k : ℕ) → bit_xor (bit_xor x y) k ≡ bit_xor (bit_xor x k) y
swapped x y k = xor_assoc x y k ∙ ap (bit_xor x) (xor_comm y k) ∙ sym (xor_assoc x k y)

cancelled : (x y k : ℕ) → bit_xor (bit_xor x k) (bit_xor y k) ≡ bit_xor x y
cancelled x y k = xor_assoc x k (bit_xor y k) ∙ ap (bit_xor x) (sym (xor_assoc k y k) ∙ ap (λ (n : ℕ). bit_xor n k) (xor_comm k y) ∙ xor_assoc y k k ∙ ap (bit_xor y) (xor_self k) ∙ xor_zero_r y)

-- the bit of two checks together
pub bit_linear : (x y b : ℕ) → crc_bit (bit_xor x y) b ≡ bit_xor (crc_bit x 0) (crc_bit y b)
unfolding crc_bit
bit_linear x y b =
    rw (parity, xor_shr x y 1, add-zero x) (by_case (x % 2 == 1) ((y + b) % 2 == 1))
  where
    parity : ((bit_xor x y + b) % 2 == 1) ≡ cond (x % 2 == 1) (not ((y + b) % 2 == 1)) ((y + b) % 2 == 1)
    parity = let same : (bit_xor x y + b) % 2 ≡ (x + (y + b)) % 2 = omega (arith, xor_add_and x y) in ap (λ (n : ℕ). n == 1) same ∙ odd_sum x (y + b)

    by_case : (p q : Bool) → cond (cond p (not q) q) (bit_xor (bit_xor (x / 2) (y / 2)) 0xA001) (bit_xor (x / 2) (y / 2)) ≡ bit_xor (cond p (bit_xor (x / 2) 0xA001) (x / 2)) (cond q (bit_xor (y / 2) 0xA001) (y / 2))
    by_case true true = sym (cancelled (x / 2) (y / 2) 0xA001)
    by_case true false = swapped (x / 2) (y / 2) 0xA001
    by_case false true = xor_assoc (x / 2) (y / 2) 0xA001
    by_case false false = refl

-- a check that began with two, after some bits
pub bits_linear : (x y : ℕ) (bits : List ℕ) → fold crc_bit (bit_xor x y) bits ≡ bit_xor (after_zeros (length bits) x) (fold crc_bit y bits)
unfolding after_zeros
bits_linear x y [] = refl
bits_linear x y (b ∷ bits) = ap (λ (c : ℕ). fold crc_bit c bits) (bit_linear x y b) ∙ bits_linear (crc_bit x 0) (crc_bit y b) bits

pub zeros_linear : (n x y : ℕ) → after_zeros n (bit_xor x y) ≡ bit_xor (after_zeros n x) (after_zeros n y)
unfolding after_zeros
zeros_linear zero x y = refl
zeros_linear (suc n) x y = ap (after_zeros n) (bit_linear x y 0) ∙ zeros_linear n (crc_bit x 0) (crc_bit y 0)

-- zero bits, and then more
pub zeros_both : (n m x : ℕ) → after_zeros (n + m) x ≡ after_zeros m (after_zeros n x)
unfolding after_zeros
zeros_both zero m x = let e : 0 + m ≡ m = omega arith in ap (λ (k : ℕ). after_zeros k x) e
zeros_both (suc n) m x = let e : suc n + m ≡ suc (n + m) = omega arith in ap (λ (k : ℕ). after_zeros k x) e ∙ zeros_both n m (crc_bit x 0)

pub even_half : (m : ℕ) → crc_bit (m * 2) 0 ≡ m
unfolding crc_bit
even_half m =
    let even : ((m * 2 + 0) % 2 == 1) ≡ false = grind (arith, nat_tests) in
    let half : m * 2 / 2 ≡ m = omega arith in
    rw (even, half) refl

-- a number whose low bits are 0 comes down
pub zeros_shift : (n m : ℕ) → after_zeros n (m * 2 ^ n) ≡ m
unfolding after_zeros
zeros_shift zero m = let e : m * 2 ^ 0 ≡ m = omega arith in e
zeros_shift (suc n) m =
    let e : m * 2 ^ suc n ≡ m * 2 ^ n * 2 = pow_twice m n in
    ap (λ (k : ℕ). after_zeros n (crc_bit k 0)) e ∙ ap (after_zeros n) (even_half (m * 2 ^ n)) ∙ zeros_shift n m
  where
    pow_twice : (m n : ℕ) → m * 2 ^ suc n ≡ m * 2 ^ n * 2
    pow_twice m n = ap (λ (k : ℕ). m * k) (pow-suc 2 n) ∙ sym (mul_assoc m (2 ^ n) 2)

half_bit : (c b : ℕ) → b < 2 → bit_xor c b / 2 ≡ c / 2
half_bit c b small = let none : b / 2 ≡ 0 = omega arith in xor_shr c b 1 ∙ ap (bit_xor (c / 2)) none ∙ xor_zero_r (c / 2)

-- a bit is put into the check's lowest place
bit_in : (c b : ℕ) → b < 2 → crc_bit c b ≡ crc_bit (bit_xor c b) 0
unfolding crc_bit
bit_in c b small =
    let same : (bit_xor c b + 0) % 2 ≡ (c + b) % 2 = omega (arith, xor_add_and c b) in
    rw (half_bit c b small, same) refl

-- its lowest bits and the others
pub apart_at : (k m : ℕ) → bit_xor (m / 2 ^ k * 2 ^ k) (m % 2 ^ k) ≡ m
apart_at k m =
    let some = pow_pos k in
    let low : m % 2 ^ k < 2 ^ k = omega arith in
    let first : m / 2 ^ k * 2 ^ k + 0 ≡ m / 2 ^ k * 2 ^ k = omega arith in
    let second : 0 * 2 ^ k + m % 2 ^ k ≡ m % 2 ^ k = omega arith in
    ap (λ (x : ℕ). bit_xor x (m % 2 ^ k)) (sym first) ∙ ap (bit_xor (m / 2 ^ k * 2 ^ k + 0)) (sym second)
    ∙ xor_block k (m / 2 ^ k) 0 0 (m % 2 ^ k) some low
    ∙ ap (λ (x : ℕ). x * 2 ^ k + bit_xor 0 (m % 2 ^ k)) (xor_zero_r (m / 2 ^ k)) ∙ ap (λ (x : ℕ). m / 2 ^ k * 2 ^ k + x) (xor_zero_l (m % 2 ^ k))
    ∙ shr_split m k

pub apart : (m : ℕ) → bit_xor (m / 2 * 2) (m % 2) ≡ m
apart m = apart_at 1 m

-- the n lowest bits of a number that has no others, after a check
pub low_bits_in : (n c m : ℕ) → m < 2 ^ n → fold crc_bit c (low_bits n m) ≡ after_zeros n (bit_xor c m)
unfolding low_bits after_zeros
low_bits_in zero c m small = let none : m ≡ 0 = omega arith in sym (ap (bit_xor c) none ∙ xor_zero_r c)
low_bits_in (suc n) c m small =
    let rest : m / 2 < 2 ^ n = omega (arith, small, pow-suc 2 n) in
    let low : m % 2 < 2 = omega arith in
    low_bits_in n (crc_bit c (m % 2)) (m / 2) rest
    ∙ ap (after_zeros n) (
    ap (λ (k : ℕ). bit_xor k (m / 2)) (bit_in c (m % 2) low)
    ∙ xor_comm (crc_bit (bit_xor c (m % 2)) 0) (m / 2)
    ∙ ap (λ (k : ℕ). bit_xor k (crc_bit (bit_xor c (m % 2)) 0)) (sym (even_half (m / 2)))
    ∙ sym (bit_linear (m / 2 * 2) (bit_xor c (m % 2)) 0)
    ∙ ap (λ (k : ℕ). crc_bit k 0) (sym (xor_assoc (m / 2 * 2) c (m % 2)) ∙ ap (λ (k : ℕ). bit_xor k (m % 2)) (xor_comm (m / 2 * 2) c) ∙ xor_assoc c (m / 2 * 2) (m % 2) ∙ ap (bit_xor c) (apart m)))

-- one byte and then others
pub crc_cons : (c b : ℕ) (bytes : List ℕ) → b < 256 → crc_of c (b ∷ bytes) ≡ crc_of (after_zeros 8 (bit_xor c b)) bytes
unfolding crc_of
crc_cons c b bytes small = fold-append crc_bit c (low_bits 8 b) (flat_map (low_bits 8) bytes) ∙ ap (λ (k : ℕ). fold crc_bit k (flat_map (low_bits 8) bytes)) (low_bits_in 8 c b small)

length_low : (n m : ℕ) → length (low_bits n m) ≡ n
unfolding low_bits
length_low zero m = refl
length_low (suc n) m = ap suc (length_low n (m / 2))

length_bits : (bytes : List ℕ) → length (flat_map (low_bits 8) bytes) ≡ 8 * length bytes
length_bits [] = refl
length_bits (b ∷ bytes) =
    let one = length_low 8 b in
    let rest = length_bits bytes in
    simp length-append (omega arith)

-- a check that began with two, after some bytes
pub crc_linear : (x y : ℕ) (bytes : List ℕ) → crc_of (bit_xor x y) bytes ≡ bit_xor (after_zeros (8 * length bytes) x) (crc_of y bytes)
unfolding crc_of
crc_linear x y bytes = bits_linear x y (flat_map (low_bits 8) bytes) ∙ ap (λ (n : ℕ). bit_xor (after_zeros n x) (fold crc_bit y (flat_map (low_bits 8) bytes))) (length_bits bytes)

-- one byte's part, and that of the bytes behind it
pub crc_parts : (b : ℕ) (bytes : List ℕ) → b < 256 → crc_of 0 (b ∷ bytes) ≡ bit_xor (after_zeros (8 * (length bytes + 1)) b) (crc_of 0 bytes)
crc_parts b bytes small =
    crc_cons 0 b bytes small
    ∙ ap (λ (k : ℕ). crc_of (after_zeros 8 k) bytes) (xor_zero_l b)
    ∙ ap (λ (k : ℕ). crc_of k bytes) (sym (xor_zero_r (after_zeros 8 b)))
    ∙ crc_linear (after_zeros 8 b) 0 bytes
    ∙ ap (λ (k : ℕ). bit_xor k (crc_of 0 bytes)) (sym (zeros_both 8 (8 * length bytes) b) ∙ ap (λ (n : ℕ). after_zeros n b) more)
  where
    more : 8 + 8 * length bytes ≡ 8 * (length bytes + 1)
    more = omega arith

-- the start's part
pub crc_start : (c : ℕ) (bytes : List ℕ) → crc_of c bytes ≡ bit_xor (after_zeros (8 * length bytes) c) (crc_of 0 bytes)
crc_start c bytes = ap (λ (k : ℕ). crc_of k bytes) (sym (xor_zero_r c)) ∙ crc_linear c 0 bytes

-- the two bytes of a check, after eight bits 0
halves : (c b : ℕ) → bit_xor c b ≡ bit_xor (c / 256 * 2 ^ 8) (bit_xor (c % 256) b)
halves c b = ap (λ (k : ℕ). bit_xor k b) (sym (apart_at 8 c)) ∙ xor_assoc (c / 256 * 2 ^ 8) (c % 256) b

-- one byte, by the table
pub one_byte : (c b : ℕ) → b < 256 → bit_xor (after_zeros 8 (bit_xor (c % 256) b)) (c / 256) ≡ crc_of c (b ∷ [])
one_byte c b small =
    sym (
    crc_cons c b [] small ∙ crc_none (after_zeros 8 (bit_xor c b)) ∙ ap (after_zeros 8) (halves c b)
    ∙ zeros_linear 8 (c / 256 * 2 ^ 8) (bit_xor (c % 256) b)
    ∙ ap (λ (k : ℕ). bit_xor k (after_zeros 8 (bit_xor (c % 256) b))) (zeros_shift 8 (c / 256))
    ∙ xor_comm (c / 256) (after_zeros 8 (bit_xor (c % 256) b)))

-- bits 0 after a check: eight fewer after its high byte
pub far_start : (n c : ℕ) → after_zeros (8 + n) c ≡ bit_xor (after_zeros (8 + n) (c % 256)) (after_zeros n (c / 256))
far_start n c =
    ap (after_zeros (8 + n)) (sym (apart_at 8 c)) ∙ zeros_linear (8 + n) (c / 256 * 2 ^ 8) (c % 256)
    ∙ ap (λ (k : ℕ). bit_xor k (after_zeros (8 + n) (c % 256))) (zeros_both 8 n (c / 256 * 2 ^ 8) ∙ ap (after_zeros n) (zeros_shift 8 (c / 256)))
    ∙ xor_comm (after_zeros n (c / 256)) (after_zeros (8 + n) (c % 256))

-- four parts in another order
crossed : (p q r s rest : ℕ) → bit_xor (bit_xor p q) (bit_xor r (bit_xor s rest)) ≡ bit_xor (bit_xor p r) (bit_xor (bit_xor q s) rest)
crossed p q r s rest =
    xor_assoc p q (bit_xor r (bit_xor s rest))
    ∙ ap (bit_xor p) (sym (xor_assoc q r (bit_xor s rest)) ∙ ap (λ (k : ℕ). bit_xor k (bit_xor s rest)) (xor_comm q r) ∙ xor_assoc r q (bit_xor s rest) ∙ ap (bit_xor r) (sym (xor_assoc q s rest)))
    ∙ sym (xor_assoc p r (bit_xor (bit_xor q s) rest))

-- eight bytes, by the table
pub eight_bytes : (c s t u v w x y z : ℕ) → s < 256 → t < 256 → u < 256 → v < 256 → w < 256 → x < 256 → y < 256 → z < 256
    → bit_xor (after_zeros 64 (bit_xor (c % 256) s)) (bit_xor (after_zeros 56 (bit_xor (c / 256) t)) (bit_xor (after_zeros 48 u) (bit_xor (after_zeros 40 v) (bit_xor (after_zeros 32 w) (bit_xor (after_zeros 24 x) (bit_xor (after_zeros 16 y) (after_zeros 8 z)))))))
    ≡ crc_of c (s ∷ t ∷ u ∷ v ∷ w ∷ x ∷ y ∷ z ∷ [])
eight_bytes c s t u v w x y z hs ht hu hv hw hx hy hz =
    sym (
    crc_start c (s ∷ t ∷ u ∷ v ∷ w ∷ x ∷ y ∷ z ∷ [])
    ∙ ap (bit_xor (after_zeros 64 c)) (
    crc_parts s (t ∷ u ∷ v ∷ w ∷ x ∷ y ∷ z ∷ []) hs ∙ ap (bit_xor (after_zeros 64 s)) (
    crc_parts t (u ∷ v ∷ w ∷ x ∷ y ∷ z ∷ []) ht ∙ ap (bit_xor (after_zeros 56 t)) (
    crc_parts u (v ∷ w ∷ x ∷ y ∷ z ∷ []) hu ∙ ap (bit_xor (after_zeros 48 u)) (
    crc_parts v (w ∷ x ∷ y ∷ z ∷ []) hv ∙ ap (bit_xor (after_zeros 40 v)) (
    crc_parts w (x ∷ y ∷ z ∷ []) hw ∙ ap (bit_xor (after_zeros 32 w)) (
    crc_parts x (y ∷ z ∷ []) hx ∙ ap (bit_xor (after_zeros 24 x)) (
    crc_parts y (z ∷ []) hy ∙ ap (bit_xor (after_zeros 16 y)) (
    crc_parts z [] hz ∙ ap (bit_xor (after_zeros 8 z)) (crc_none 0) ∙ xor_zero_r (after_zeros 8 z)))))))))
    ∙ ap (λ (k : ℕ). bit_xor k (bit_xor (after_zeros 64 s) (bit_xor (after_zeros 56 t) rest))) (far_start 56 c)
    ∙ crossed (after_zeros 64 (c % 256)) (after_zeros 56 (c / 256)) (after_zeros 64 s) (after_zeros 56 t) rest
    ∙ ap (λ (k : ℕ). bit_xor k (bit_xor (bit_xor (after_zeros 56 (c / 256)) (after_zeros 56 t)) rest)) (sym (zeros_linear 64 (c % 256) s))
    ∙ ap (λ (k : ℕ). bit_xor (after_zeros 64 (bit_xor (c % 256) s)) (bit_xor k rest)) (sym (zeros_linear 56 (c / 256) t)))
  where
    rest : ℕ
    rest = bit_xor (after_zeros 48 u) (bit_xor (after_zeros 40 v) (bit_xor (after_zeros 32 w) (bit_xor (after_zeros 24 x) (bit_xor (after_zeros 16 y) (after_zeros 8 z)))))

-- a list of eight numbers
pub eight : (xs : List ℕ) → length xs ≡ 8 → xs ≡ get_or xs 0 0 ∷ get_or xs 1 0 ∷ get_or xs 2 0 ∷ get_or xs 3 0 ∷ get_or xs 4 0 ∷ get_or xs 5 0 ∷ get_or xs 6 0 ∷ get_or xs 7 0 ∷ []
eight (s ∷ t ∷ u ∷ v ∷ w ∷ x ∷ y ∷ z ∷ []) long = refl
eight [] long = cc
eight (s ∷ []) long = cc
eight (s ∷ t ∷ []) long = cc
eight (s ∷ t ∷ u ∷ []) long = cc
eight (s ∷ t ∷ u ∷ v ∷ []) long = cc
eight (s ∷ t ∷ u ∷ v ∷ w ∷ []) long = cc
eight (s ∷ t ∷ u ∷ v ∷ w ∷ x ∷ []) long = cc
eight (s ∷ t ∷ u ∷ v ∷ w ∷ x ∷ y ∷ []) long = cc
eight (s ∷ t ∷ u ∷ v ∷ w ∷ x ∷ y ∷ z ∷ more ∷ rest) long = absurd (omega arith)

-- the check of one block more
pub block_more : (start crc after k size : ℕ) (bytes : List ℕ) → size ≡ 8 → crc ≡ crc_of start (take (8 * k) bytes) → after ≡ crc_of crc (take size (drop (8 * k) bytes)) → after ≡ crc_of start (take (8 * (k + 1)) bytes)
block_more start crc after k size bytes eight before here =
    let next : 8 * k + size ≡ 8 * (k + 1) = omega arith in
    here ∙ ap (λ (n : ℕ). crc_of n (take size (drop (8 * k) bytes))) before
    ∙ sym (crc_both start (take (8 * k) bytes) (take size (drop (8 * k) bytes)))
    ∙ ap (crc_of start) (sym (take-add (8 * k) size bytes) ∙ ap (λ (n : ℕ). take n bytes) next)

-- the check of one piece more
pub piece_more : (start crc after k size : ℕ) (bytes : List ℕ) → size ≡ 1024 → 1024 * (k + 1) ≤ length bytes → crc ≡ crc_of start (take (1024 * k) bytes)
    → after ≡ crc_of crc (take (length (take size (drop (1024 * k) bytes)) / 2 * 2) (take size (drop (1024 * k) bytes))) → after ≡ crc_of start (take (1024 * (k + 1)) bytes)
piece_more start crc after k size bytes long within before here =
    let rest : length (drop (1024 * k) bytes) ≡ length bytes - 1024 * k = length-drop (1024 * k) bytes in
    let piece : length (take size (drop (1024 * k) bytes)) ≡ size = length-take-le size (drop (1024 * k) bytes) (omega (arith, long, within, rest)) in
    let whole : size ≡ length (take size (drop (1024 * k) bytes)) / 2 * 2 = omega (arith, piece, long) in
    let next : 1024 * k + size ≡ 1024 * (k + 1) = omega (arith, long) in
    here
    ∙ ap (λ (n : ℕ). crc_of crc (take n (take size (drop (1024 * k) bytes)))) (sym whole)
    ∙ ap (crc_of crc) (take_all size (take size (drop (1024 * k) bytes)) (omega (arith, piece)))
    ∙ ap (λ (n : ℕ). crc_of n (take size (drop (1024 * k) bytes))) before
    ∙ sym (crc_both start (take (1024 * k) bytes) (take size (drop (1024 * k) bytes)))
    ∙ ap (crc_of start) (sym (take-add (1024 * k) size bytes) ∙ ap (λ (n : ℕ). take n bytes) next)

-- and that of the bytes behind the blocks
pub rest_more : (start crc after n size : ℕ) (bytes : List ℕ) → length bytes ≤ n + size → crc ≡ crc_of start (take n bytes) → after ≡ crc_of crc (take size (drop n bytes)) → after ≡ crc_of start bytes
rest_more start crc after n size bytes whole before here =
    here ∙ ap (λ (k : ℕ). crc_of k (take size (drop n bytes))) before
    ∙ sym (crc_both start (take n bytes) (take size (drop n bytes)))
    ∙ ap (crc_of start) (sym (take-add n size bytes) ∙ take_all (n + size) bytes whole)
