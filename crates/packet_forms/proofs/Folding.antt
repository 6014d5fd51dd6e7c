-- The check by words of two bytes, and the fold of a word into later ones.
use Rattle.std.proofs.Common.{◌≡◌, ◌≢◌, ℕ, zero, suc, ◌+◌, ◌-◌, ◌*◌, ◌/◌, ◌%◌, ◌<◌, ◌≤◌, ◌^◌, List, [], ◌∷◌, length, get_or, take, drop, refl, sym, ap, ◌∙◌, arith, subst, inl, inr, length-drop, set, replicate}
use Rattle.std.specs.Int.{w16, from_le_bytes}
use Rattle.std.specs.List.{All, fold}
use Rattle.std.proofs.lemmas.List.Elements.{All-head, All-tail, All-take, All-drop}
use Rattle.std.specs.Int.Bits.{bit_xor, xor_zero_l, xor_zero_r, xor_assoc}
use Rattle.std.proofs.lemmas.Nat.{xor_comm, xor_shr, xor_mod, shr-shr}
use Rattle.std.proofs.Math.Nat.{pow-suc}
use Rattle.std.proofs.lemmas.Bool.Decides.{eqb_tells, leb_tells}
use Rattle.std.proofs.lemmas.List.{drop-drop, length-take-le, get_or-set_same, get_or-set_other, length-set, get_or-replicate, get_or_past}
use Rattle.std.specs.Simd.Lanes.{zip2, put_chunk, chunk, fold_l, number_l}
use Rattle.std.proofs.lemmas.Simd.{length-chunk, get_or-chunk}
use Rattle.std.proofs.Math.Seq.{take-add}
use Rattle.packet_forms.specs.Crc.{crc_bit, crc_of, after_zeros}
use Rattle.packet_forms.specs.Folds.{word_in, with_sums, words_check, words_left, folded_word, odd_bit, odd_part}
use Rattle.packet_forms.specs.Packets.{checksum_of}
use Rattle.packet_forms.proofs.Checks.{crc_both, crc_none, crc_cons, zeros_linear, zeros_both, zeros_shift, even_half, apart, apart_at, far_start, swapped}

-- four numbers in another order
four : (p q r s : ℕ) → bit_xor (bit_xor p q) (bit_xor r s) ≡ bit_xor (bit_xor p r) (bit_xor q s)
four p q r s =
    xor_assoc p q (bit_xor r s)
    ∙ ap (bit_xor p) (sym (xor_assoc q r s) ∙ ap (λ (k : ℕ). bit_xor k s) (xor_comm q r) ∙ xor_assoc r q s)
    ∙ sym (xor_assoc p r (bit_xor q s))

zeros_none : (n : ℕ) → after_zeros n 0 ≡ 0
unfolding after_zeros crc_bit
zeros_none zero = refl
zeros_none (suc n) = zeros_none n

-- a bit is 0 or 1
either_bit : (P : ℕ → Type 0) (b : ℕ) → b < 2 → P 0 → P 1 → P b
either_bit P b small at_none at_one = elim (eqb_tells b 0) [
  | inl none ↦ subst P (sym none.1) at_none
  | inr other ↦ let one : 1 ≡ b = omega (arith, small, other.1) in subst P one at_one
]

-- 0xC001 stays the same, however many bits 0 stand behind it
odd_stays : (d : ℕ) → after_zeros d 0xC001 ≡ 0xC001
unfolding after_zeros crc_bit
odd_stays zero = refl
odd_stays (suc d) = odd_stays d

-- what a word of n bits at a distance is the same as, farther behind
pub folded : ℕ → ℕ → ℕ → ℕ
folded n d w = bit_xor (after_zeros (16 + d) w) (bit_xor (after_zeros d w) (odd_part n w))

none_folds : (d : ℕ) → after_zeros (240 + d) 0 ≡ bit_xor (after_zeros (16 + d) 0) (bit_xor (after_zeros d 0) 0)
none_folds d = zeros_none (240 + d) ∙ sym (rw (zeros_none (16 + d), zeros_none d) refl)

one_folds : after_zeros 240 1 ≡ bit_xor (after_zeros 16 1) (bit_xor 1 0xC001)
unfolding after_zeros crc_bit
one_folds = refl

one_later : (d : ℕ) → after_zeros (240 + d) 1 ≡ bit_xor (after_zeros (16 + d) 1) (bit_xor (after_zeros d 1) 0xC001)
one_later d =
    zeros_both 240 d 1 ∙ ap (after_zeros d) one_folds
    ∙ zeros_linear d (after_zeros 16 1) (bit_xor 1 0xC001)
    ∙ ap (bit_xor (after_zeros d (after_zeros 16 1))) (zeros_linear d 1 0xC001 ∙ ap (bit_xor (after_zeros d 1)) (odd_stays d))
    ∙ ap (λ (k : ℕ). bit_xor k (bit_xor (after_zeros d 1) 0xC001)) (sym (zeros_both 16 d 1))

bit_folds : (d b : ℕ) → b < 2 → after_zeros (240 + d) b ≡ bit_xor (after_zeros (16 + d) b) (bit_xor (after_zeros d b) (odd_bit b))
unfolding odd_bit
bit_folds d b small = either_bit (λ n. after_zeros (240 + d) n ≡ bit_xor (after_zeros (16 + d) n) (bit_xor (after_zeros d n) (odd_bit n))) b small (none_folds d) (one_later d)

-- a number and its half, one bit later
halved : (k d w : ℕ) → after_zeros (k + suc d) w ≡ bit_xor (after_zeros (k + d) (w / 2)) (after_zeros (k + suc d) (w % 2))
unfolding after_zeros
halved k d w =
    let more : k + suc d ≡ suc (k + d) = omega arith in
    ap (after_zeros (k + suc d)) (sym (apart w))
    ∙ zeros_linear (k + suc d) (w / 2 * 2) (w % 2)
    ∙ ap (λ (n : ℕ). bit_xor n (after_zeros (k + suc d) (w % 2))) (ap (λ (n : ℕ). after_zeros n (w / 2 * 2)) more ∙ ap (after_zeros (k + d)) (even_half (w / 2)))

halved_here : (d w : ℕ) → after_zeros (suc d) w ≡ bit_xor (after_zeros d (w / 2)) (after_zeros (suc d) (w % 2))
halved_here d w =
    let none : (n : ℕ) → 0 + n ≡ n = λ n. omega arith in
    ap (λ (n : ℕ). after_zeros n w) (sym (none (suc d))) ∙ halved 0 d w
    ∙ ap (λ (n : ℕ). bit_xor (after_zeros n (w / 2)) (after_zeros (0 + suc d) (w % 2))) (none d)
    ∙ ap (λ (n : ℕ). bit_xor (after_zeros d (w / 2)) (after_zeros n (w % 2))) (none (suc d))

folded_half : (n d w : ℕ) → folded (suc n) (suc d) w ≡ bit_xor (folded n d (w / 2)) (bit_xor (after_zeros (16 + suc d) (w % 2)) (bit_xor (after_zeros (suc d) (w % 2)) (odd_bit (w % 2))))
unfolding folded odd_part
folded_half n d w =
    ap (λ (k : ℕ). bit_xor k (bit_xor (after_zeros (suc d) w) (odd_part (suc n) w))) (halved 16 d w)
    ∙ ap (λ (k : ℕ). bit_xor (bit_xor (after_zeros (16 + d) (w / 2)) (after_zeros (16 + suc d) (w % 2))) (bit_xor k (odd_part (suc n) w))) (halved_here d w)
    ∙ ap (λ (k : ℕ). bit_xor (bit_xor (after_zeros (16 + d) (w / 2)) (after_zeros (16 + suc d) (w % 2))) (bit_xor (bit_xor (after_zeros d (w / 2)) (after_zeros (suc d) (w % 2))) k)) (xor_comm (odd_bit (w % 2)) (odd_part n (w / 2)))
    ∙ ap (bit_xor (bit_xor (after_zeros (16 + d) (w / 2)) (after_zeros (16 + suc d) (w % 2)))) (four (after_zeros d (w / 2)) (after_zeros (suc d) (w % 2)) (odd_part n (w / 2)) (odd_bit (w % 2)))
    ∙ four (after_zeros (16 + d) (w / 2)) (after_zeros (16 + suc d) (w % 2)) (bit_xor (after_zeros d (w / 2)) (odd_part n (w / 2))) (bit_xor (after_zeros (suc d) (w % 2)) (odd_bit (w % 2)))

-- a word of n bits that is n bits or more before the end
pub word_folds : (n d w : ℕ) → w < 2 ^ n → n ≤ d → after_zeros (240 + d) w ≡ folded n d w
unfolding folded odd_part
word_folds zero d w small far = let none : 0 ≡ w = omega (arith, small) in subst (λ (k : ℕ). after_zeros (240 + d) k ≡ folded 0 d k) none (none_folds d)
word_folds (suc n) zero w small far = absurd (omega arith)
word_folds (suc n) (suc d) w small far =
    let half : w / 2 < 2 ^ n = omega (arith, small, pow-suc 2 n) in
    let low : w % 2 < 2 = omega arith in
    let near : n ≤ d = omega arith in
    halved 240 d w
    ∙ ap (λ (k : ℕ). bit_xor k (after_zeros (240 + suc d) (w % 2))) (word_folds n d (w / 2) half near)
    ∙ ap (bit_xor (folded n d (w / 2))) (bit_folds (suc d) (w % 2) low)
    ∙ sym (folded_half n d w)

odd_bits : (p q : ℕ) → p < 2 → q < 2 → odd_bit (bit_xor p q) ≡ bit_xor (odd_bit p) (odd_bit q)
unfolding odd_bit
odd_bits p q first second =
    either_bit (λ m. odd_bit (bit_xor m q) ≡ bit_xor (odd_bit m) (odd_bit q)) p first
    (either_bit (λ n. odd_bit (bit_xor 0 n) ≡ bit_xor (odd_bit 0) (odd_bit n)) q second refl refl)
    (either_bit (λ n. odd_bit (bit_xor 1 n) ≡ bit_xor (odd_bit 1) (odd_bit n)) q second refl refl)

pub odd_linear : (n x y : ℕ) → odd_part n (bit_xor x y) ≡ bit_xor (odd_part n x) (odd_part n y)
unfolding odd_part
odd_linear zero x y = sym (xor_zero_l 0)
odd_linear (suc n) x y =
    let first : x % 2 < 2 = omega arith in
    let second : y % 2 < 2 = omega arith in
    ap (λ (k : ℕ). bit_xor (odd_bit k) (odd_part n (bit_xor x y / 2))) (xor_mod x y 1)
    ∙ ap (λ (k : ℕ). bit_xor k (odd_part n (bit_xor x y / 2))) (odd_bits (x % 2) (y % 2) first second)
    ∙ ap (bit_xor (bit_xor (odd_bit (x % 2)) (odd_bit (y % 2)))) (ap (odd_part n) (xor_shr x y 1) ∙ odd_linear n (x / 2) (y / 2))
    ∙ four (odd_bit (x % 2)) (odd_bit (y % 2)) (odd_part n (x / 2)) (odd_part n (y / 2))

-- the lowest n bits, and the m bits above them
odd_apart : (n m w : ℕ) → odd_part (n + m) w ≡ bit_xor (odd_part n w) (odd_part m (w / 2 ^ n))
unfolding odd_part
odd_apart zero m w =
    let size : 0 + m ≡ m = omega arith in
    let whole : w ≡ w / 2 ^ 0 = omega arith in
    ap (λ (k : ℕ). odd_part k w) size ∙ ap (odd_part m) whole ∙ sym (xor_zero_l (odd_part m (w / 2 ^ 0)))
odd_apart (suc n) m w =
    let size : suc n + m ≡ suc (n + m) = omega arith in
    let next : 1 + n ≡ suc n = omega arith in
    ap (λ (k : ℕ). odd_part k w) size
    ∙ ap (bit_xor (odd_bit (w % 2))) (odd_apart n m (w / 2))
    ∙ sym (xor_assoc (odd_bit (w % 2)) (odd_part n (w / 2)) (odd_part m (w / 2 / 2 ^ n)))
    ∙ ap (λ (k : ℕ). bit_xor (bit_xor (odd_bit (w % 2)) (odd_part n (w / 2))) (odd_part m k)) (shr-shr w 1 n ∙ ap (λ (k : ℕ). w / 2 ^ k) next)

-- both halves of 2 n bits at once
pub odd_half : (n w : ℕ) → odd_part (n + n) w ≡ odd_part n (bit_xor w (w / 2 ^ n))
odd_half n w = odd_apart n n w ∙ sym (odd_linear n w (w / 2 ^ n))

pub odd_one : (w : ℕ) → odd_part 1 w ≡ odd_bit (w % 2)
unfolding odd_part
odd_one w = xor_zero_r (odd_bit (w % 2))

pub odd_none : odd_part 16 0 ≡ 0
unfolding odd_part odd_bit
odd_none = refl

-- bytes as one number, the first the lowest
le_number : List ℕ → ℕ
le_number [] = 0
le_number (b ∷ bytes) = le_number bytes * 256 + b

byte_in : (n b : ℕ) → b < 256 → bit_xor b (n * 2 ^ 8) ≡ n * 256 + b
byte_in n b small =
    let high : (n * 256 + b) / 2 ^ 8 ≡ n = omega (arith, small) in
    let low : (n * 256 + b) % 2 ^ 8 ≡ b = omega (arith, small) in
    xor_comm b (n * 2 ^ 8)
    ∙ ap (λ (k : ℕ). bit_xor (k * 2 ^ 8) b) (sym high)
    ∙ ap (bit_xor ((n * 256 + b) / 2 ^ 8 * 2 ^ 8)) (sym low)
    ∙ apart_at 8 (n * 256 + b)

-- bytes as one number after a check
crc_number : (c : ℕ) (bytes : List ℕ) → All (λ b. b < 256) bytes → crc_of c bytes ≡ after_zeros (8 * length bytes) (bit_xor c (le_number bytes))
unfolding after_zeros le_number
crc_number c [] small = crc_none c ∙ sym (xor_zero_r c)
crc_number c (b ∷ bytes) small =
    let more : 8 + 8 * length bytes ≡ 8 * suc (length bytes) = omega arith in
    let first : b < 256 = All-head (λ (k : ℕ). k < 256) b bytes small in
    crc_cons c b bytes first
    ∙ crc_number (after_zeros 8 (bit_xor c b)) bytes (All-tail (λ (k : ℕ). k < 256) b bytes small)
    ∙ ap (λ (k : ℕ). after_zeros (8 * length bytes) (bit_xor (after_zeros 8 (bit_xor c b)) k)) (sym (zeros_shift 8 (le_number bytes)))
    ∙ ap (after_zeros (8 * length bytes)) (sym (zeros_linear 8 (bit_xor c b) (le_number bytes * 2 ^ 8)) ∙ ap (after_zeros 8) (xor_assoc c b (le_number bytes * 2 ^ 8) ∙ ap (bit_xor c) (byte_in (le_number bytes) b first)))
    ∙ sym (zeros_both 8 (8 * length bytes) (bit_xor c (le_number bytes * 256 + b)))
    ∙ ap (λ (n : ℕ). after_zeros n (bit_xor c (le_number bytes * 256 + b))) more

number_of_two : (s t : ℕ) → le_number (s ∷ t ∷ []) ≡ from_le_bytes w16 (s ∷ t ∷ [])
unfolding le_number
number_of_two s t = omega arith

-- a list of two numbers
pub two : (xs : List ℕ) → length xs ≡ 2 → xs ≡ get_or xs 0 0 ∷ get_or xs 1 0 ∷ []
two (s ∷ t ∷ []) long = refl
two [] long = cc
two (s ∷ []) long = cc
two (s ∷ t ∷ more ∷ rest) long = absurd (omega arith)

number_is : (bytes : List ℕ) → length bytes ≡ 2 → le_number bytes ≡ from_le_bytes w16 bytes
number_is bytes long =
    let is = two bytes long in
    ap le_number is ∙ number_of_two (get_or bytes 0 0) (get_or bytes 1 0) ∙ ap (from_le_bytes w16) (sym is)

-- two bytes as one word after a check
pub word_crc : (c : ℕ) (bytes : List ℕ) → length bytes ≡ 2 → All (λ b. b < 256) bytes → crc_of c bytes ≡ after_zeros 16 (bit_xor c (from_le_bytes w16 bytes))
word_crc c bytes long small =
    crc_number c bytes small ∙ ap (λ (n : ℕ). after_zeros (8 * n) (bit_xor c (le_number bytes))) long ∙ ap (λ (n : ℕ). after_zeros 16 (bit_xor c n)) (number_is bytes long)

-- the same words have the same check
check_same : (f g : ℕ → ℕ) (i n : ℕ) → ((j : ℕ) → i ≤ j → f j ≡ g j) → words_check f i n ≡ words_check g i n
unfolding words_check
check_same f g i zero same = refl
check_same f g i (suc n) same =
    let rest = check_same f g (suc i) n (λ j h. same j (omega arith)) in
    ap (λ (k : ℕ). bit_xor (after_zeros (16 * suc n) k) (words_check f (suc i) n)) (same i (omega arith)) ∙ ap (bit_xor (after_zeros (16 * suc n) (g i))) rest

-- one word with a number added
check_added : (f g : ℕ → ℕ) (x p i n : ℕ) → i ≤ p → p < i + n → ((j : ℕ) → j ≢ p → g j ≡ f j) → g p ≡ bit_xor (f p) x → words_check g i n ≡ bit_xor (words_check f i n) (after_zeros (16 * (i + n - p)) x)
unfolding words_check
check_added f g x p i zero low high same here = absurd (omega arith)
check_added f g x p i (suc n) low high same here = elim (eqb_tells i p) [
  | inl at ↦
      let there : g i ≡ bit_xor (f i) x = subst (λ (k : ℕ). g k ≡ bit_xor (f k) x) (sym at.1) here in
      let left : suc n ≡ i + suc n - p = omega (arith, at.1) in
      ap (λ (k : ℕ). bit_xor (after_zeros (16 * suc n) k) (words_check g (suc i) n)) there
      ∙ ap (bit_xor (after_zeros (16 * suc n) (bit_xor (f i) x))) (check_same g f (suc i) n (λ j h. same j (λ e. absurd (omega (arith, e, h, at.1)))))
      ∙ ap (λ (k : ℕ). bit_xor k (words_check f (suc i) n)) (zeros_linear (16 * suc n) (f i) x)
      ∙ swapped (after_zeros (16 * suc n) (f i)) (after_zeros (16 * suc n) x) (words_check f (suc i) n)
      ∙ ap (λ (k : ℕ). bit_xor (bit_xor (after_zeros (16 * suc n) (f i)) (words_check f (suc i) n)) (after_zeros (16 * k) x)) left
  | inr behind ↦
      let left : suc i + n - p ≡ i + suc n - p = omega arith in
      let apart_from : i ≢ p = behind.1 in
      ap (λ (k : ℕ). bit_xor (after_zeros (16 * suc n) k) (words_check g (suc i) n)) (same i apart_from)
      ∙ ap (bit_xor (after_zeros (16 * suc n) (f i))) (check_added f g x p (suc i) n (omega (arith, low, apart_from)) (omega (arith, high)) same here)
      ∙ sym (xor_assoc (after_zeros (16 * suc n) (f i)) (words_check f (suc i) n) (after_zeros (16 * (suc i + n - p)) x))
      ∙ ap (λ (k : ℕ). bit_xor (bit_xor (after_zeros (16 * suc n) (f i)) (words_check f (suc i) n)) (after_zeros (16 * k) x)) left
]

put_near : (w r rest : ℕ) → bit_xor w (bit_xor r rest) ≡ bit_xor (bit_xor w (bit_xor 0 rest)) r
put_near w r rest = ap (bit_xor w) (xor_comm r rest) ∙ sym (xor_assoc w rest r) ∙ ap (λ (k : ℕ). bit_xor (bit_xor w k) r) (sym (xor_zero_l rest))

put_far : (w a r : ℕ) → bit_xor w (bit_xor a r) ≡ bit_xor (bit_xor w (bit_xor a 0)) r
put_far w a r = sym (xor_assoc w a r) ∙ ap (λ (k : ℕ). bit_xor (bit_xor w k) r) (sym (xor_zero_r a))

-- a word is taken away, and its sum is kept for the words 14 and 15 behind it
pub fold_step : (word old new : ℕ → ℕ) (i n r : ℕ) → 15 ≤ n → r < 2 ^ 16 → r ≡ with_sums word old old i → old (i + 15) ≡ 0 → new (i + 15) ≡ r → ((j : ℕ) → j ≢ i + 15 → new j ≡ old j)
    → words_check (with_sums word old old) i (suc n) ≡ bit_xor (words_check (with_sums word new new) (suc i) n) (odd_part 16 r)
unfolding words_check with_sums folded
fold_step word old new i n r long small here empty now same =
    let first = check_added (with_sums word old old) (with_sums word new old) r (i + 14) (suc i) n (omega arith) (omega (arith, long)) near_same near_here in
    let second = check_added (with_sums word new old) (with_sums word new new) r (i + 15) (suc i) n (omega arith) (omega (arith, long)) far_same far_here in
    let rest : ℕ = words_check (with_sums word old old) (suc i) n in
    let d : ℕ = 16 * (n - 14) in
    let at_start : 16 * suc n ≡ 240 + d = omega (arith, long) in
    let at_near : 16 * (suc i + n - (i + 14)) ≡ 16 + d = omega (arith, long) in
    let at_far : 16 * (suc i + n - (i + 15)) ≡ d = omega (arith, long) in
    ap (λ (k : ℕ). bit_xor (after_zeros (16 * suc n) k) rest) (sym here)
    ∙ ap (λ (k : ℕ). bit_xor (after_zeros k r) rest) at_start
    ∙ ap (λ (k : ℕ). bit_xor k rest) (word_folds 16 d r small (omega (arith, long)))
    ∙ gathered (after_zeros (16 + d) r) (after_zeros d r) (odd_part 16 r) rest
    ∙ ap (λ (k : ℕ). bit_xor k (odd_part 16 r)) (
    sym (
    second
    ∙ ap (λ (k : ℕ). bit_xor k (after_zeros (16 * (suc i + n - (i + 15))) r)) first
    ∙ ap (λ (k : ℕ). bit_xor (bit_xor rest (after_zeros k r)) (after_zeros (16 * (suc i + n - (i + 15))) r)) at_near
    ∙ ap (λ (k : ℕ). bit_xor (bit_xor rest (after_zeros (16 + d) r)) (after_zeros k r)) at_far))
  where
    gathered : (x y z rest : ℕ) → bit_xor (bit_xor x (bit_xor y z)) rest ≡ bit_xor (bit_xor (bit_xor rest x) y) z
    gathered x y z rest = xor_comm (bit_xor x (bit_xor y z)) rest ∙ sym (xor_assoc rest x (bit_xor y z)) ∙ sym (xor_assoc (bit_xor rest x) y z)

    near_same : (j : ℕ) → j ≢ i + 14 → with_sums word new old j ≡ with_sums word old old j
    near_same j other = ap (λ (k : ℕ). bit_xor (word j) (bit_xor k (old j))) (same (j + 1) (λ e. other (omega (arith, e))))

    near_here : with_sums word new old (i + 14) ≡ bit_xor (with_sums word old old (i + 14)) r
    near_here =
        let place : i + 14 + 1 ≡ i + 15 = omega arith in
        ap (λ (k : ℕ). bit_xor (word (i + 14)) (bit_xor k (old (i + 14)))) (ap new place ∙ now)
        ∙ put_near (word (i + 14)) r (old (i + 14))
        ∙ ap (λ (k : ℕ). bit_xor (bit_xor (word (i + 14)) (bit_xor k (old (i + 14)))) r) (sym (ap old place ∙ empty))

    far_same : (j : ℕ) → j ≢ i + 15 → with_sums word new new j ≡ with_sums word new old j
    far_same j other = ap (λ (k : ℕ). bit_xor (word j) (bit_xor (new (j + 1)) k)) (same j other)

    far_here : with_sums word new new (i + 15) ≡ bit_xor (with_sums word new old (i + 15)) r
    far_here =
        ap (λ (k : ℕ). bit_xor (word (i + 15)) (bit_xor (new (i + 15 + 1)) k)) now
        ∙ put_far (word (i + 15)) (new (i + 15 + 1)) r
        ∙ ap (λ (k : ℕ). bit_xor (bit_xor (word (i + 15)) (bit_xor (new (i + 15 + 1)) k)) r) (sym empty)

-- one word after a check, and those behind it
pub check_step : (f : ℕ → ℕ) (c after i n : ℕ) → after ≡ after_zeros 16 (bit_xor c (f i)) → bit_xor (after_zeros (16 * suc n) c) (words_check f i (suc n)) ≡ bit_xor (after_zeros (16 * n) after) (words_check f (suc i) n)
unfolding words_check
check_step f c after i n is =
    let more : 16 * suc n ≡ 16 + 16 * n = omega arith in
    sym (xor_assoc (after_zeros (16 * suc n) c) (after_zeros (16 * suc n) (f i)) (words_check f (suc i) n))
    ∙ ap (λ (k : ℕ). bit_xor k (words_check f (suc i) n)) (
    sym (zeros_linear (16 * suc n) c (f i)) ∙ ap (λ (k : ℕ). after_zeros k (bit_xor c (f i))) more ∙ zeros_both 16 (16 * n) (bit_xor c (f i)) ∙ ap (after_zeros (16 * n)) (sym is))

pub check_none : (f : ℕ → ℕ) (c i : ℕ) → bit_xor (after_zeros (16 * 0) c) (words_check f i 0) ≡ c
unfolding words_check after_zeros
check_none f c i = xor_zero_r c

pub check_begins : (f : ℕ → ℕ) (i n : ℕ) → bit_xor (after_zeros (16 * n) 0) (words_check f i n) ≡ words_check f i n
check_begins f i n = ap (λ (k : ℕ). bit_xor k (words_check f i n)) (zeros_none (16 * n)) ∙ xor_zero_l (words_check f i n)

-- the words of a list of bytes
pub crc_words : (f : ℕ → ℕ) (bytes : List ℕ) (c i n : ℕ) → ((k j : ℕ) → j < i + n → crc_of k (take 2 (drop (2 * j) bytes)) ≡ after_zeros 16 (bit_xor k (f j)))
    → crc_of c (take (2 * n) (drop (2 * i) bytes)) ≡ bit_xor (after_zeros (16 * n) c) (words_check f i n)
crc_words f bytes c i zero each = crc_none c ∙ sym (check_none f c i)
crc_words f bytes c i (suc n) each =
    let size : 2 * suc n ≡ 2 + 2 * n = omega arith in
    let next : 2 * i + 2 ≡ 2 * suc i = omega arith in
    ap (λ (k : ℕ). crc_of c (take k (drop (2 * i) bytes))) size
    ∙ ap (crc_of c) (take-add 2 (2 * n) (drop (2 * i) bytes))
    ∙ crc_both c (take 2 (drop (2 * i) bytes)) (take (2 * n) (drop 2 (drop (2 * i) bytes)))
    ∙ ap (λ (rest : List ℕ). crc_of (crc_of c (take 2 (drop (2 * i) bytes))) (take (2 * n) rest)) (drop-drop 2 (2 * i) bytes ∙ ap (λ (k : ℕ). drop k bytes) next)
    ∙ crc_words f bytes (crc_of c (take 2 (drop (2 * i) bytes))) (suc i) n (λ k j h. each k j (omega (arith, h)))
    ∙ sym (check_step f c (crc_of c (take 2 (drop (2 * i) bytes))) i n (each c i (omega arith)))

-- the sums before the first word: the start stands where it is added to the first word alone
pub sums_begin : (word sums : ℕ → ℕ) (start n : ℕ) → 0 < n → sums 0 ≡ start → ((k : ℕ) → 1 ≤ k → sums k ≡ 0) → words_check (with_sums word sums sums) 0 n ≡ bit_xor (after_zeros (16 * n) start) (words_check word 0 n)
unfolding with_sums
sums_begin word sums start n some first none =
    let size : 0 + n - 0 ≡ n = omega arith in
    check_added word (with_sums word sums sums) start 0 0 n (omega arith) (omega (arith, some)) others here
    ∙ ap (λ (k : ℕ). bit_xor (words_check word 0 n) (after_zeros (16 * k) start)) size
    ∙ xor_comm (words_check word 0 n) (after_zeros (16 * n) start)
  where
    others : (j : ℕ) → j ≢ 0 → with_sums word sums sums j ≡ word j
    others j other = rw (none (j + 1) (omega arith), none j (omega (arith, other)), xor_zero_l 0, xor_zero_r (word j)) refl

    here : with_sums word sums sums 0 ≡ bit_xor (word 0) start
    here = rw (none 1 (omega arith), first, xor_zero_l start) refl

-- a word of a list of bytes
pub word_in_crc : (bytes : List ℕ) (c j : ℕ) → 2 * (j + 1) ≤ length bytes → All (λ b. b < 256) bytes → crc_of c (take 2 (drop (2 * j) bytes)) ≡ after_zeros 16 (bit_xor c (word_in bytes j))
unfolding word_in
word_in_crc bytes c j within small =
    let rest : length (drop (2 * j) bytes) ≡ length bytes - 2 * j = length-drop (2 * j) bytes in
    word_crc c (take 2 (drop (2 * j) bytes)) (length-take-le 2 (drop (2 * j) bytes) (omega (arith, within, rest)))
    (All-take (λ (b : ℕ). b < 256) 2 (drop (2 * j) bytes) (All-drop (λ (b : ℕ). b < 256) (2 * j) bytes small))

-- two bytes, by the table
pub two_bytes : (x : ℕ) → bit_xor (after_zeros 16 (x % 256)) (after_zeros 8 (x / 256)) ≡ after_zeros 16 x
two_bytes x = sym (far_start 8 x)

-- the sums before the first word
pub sums_zero : (start k : ℕ) → 1 ≤ k → get_or (set (replicate 527 0) 0 start) k 0 ≡ 0
sums_zero start k some =
    get_or-set_other (replicate 527 0) 0 k start 0 (λ e. absurd (omega (arith, e, some)))
    ∙ elim (leb_tells 527 k) [
      | inl past ↦ get_or_past (replicate 527 0) k 0 past.1
      | inr within ↦ get_or-replicate 527 k 0 0 within.1
    ]

pub xor_later : (c s : ℕ) (xs : List ℕ) → fold bit_xor (bit_xor c s) xs ≡ bit_xor (fold bit_xor c xs) s
xor_later c s [] = refl
xor_later c s (x ∷ xs) = ap (λ (k : ℕ). fold bit_xor k xs) (swapped c s x) ∙ xor_later (bit_xor c x) s xs

xor_zipped : (c d : ℕ) (xs ys : List ℕ) → length xs ≡ length ys → fold bit_xor (bit_xor c d) (zip2 bit_xor xs ys) ≡ bit_xor (fold bit_xor c xs) (fold bit_xor d ys)
xor_zipped c d [] [] same = refl
xor_zipped c d [] (y ∷ ys) same = absurd (omega arith)
xor_zipped c d (x ∷ xs) [] same = absurd (omega arith)
xor_zipped c d (x ∷ xs) (y ∷ ys) same = ap (λ (k : ℕ). fold bit_xor k (zip2 bit_xor xs ys)) (four c d x y) ∙ xor_zipped (bit_xor c x) (bit_xor d y) xs ys (omega arith)

-- all words of two lists, place by place
pub all_zipped : (xs ys : List ℕ) → length xs ≡ length ys → checksum_of (zip2 bit_xor xs ys) ≡ fold bit_xor (checksum_of xs) ys
unfolding checksum_of
all_zipped xs ys same =
    ap (λ (k : ℕ). fold bit_xor k (zip2 bit_xor xs ys)) (sym (xor_zero_l 0)) ∙ xor_zipped 0 0 xs ys same
    ∙ xor_comm (fold bit_xor 0 xs) (fold bit_xor 0 ys) ∙ sym (xor_later 0 (fold bit_xor 0 xs) ys) ∙ ap (λ (k : ℕ). fold bit_xor k ys) (xor_zero_l (fold bit_xor 0 xs))

-- a word is taken away
left_step : (bytes sums : List ℕ) (taken i r : ℕ) → i + 15 < length bytes / 2 → r < 2 ^ 16 → r ≡ folded_word bytes sums i → get_or sums (i + 15) 0 ≡ 0 → i + 15 < length sums
    → words_left bytes (set sums (i + 15) r) (bit_xor taken r) (suc i) ≡ words_left bytes sums taken i
unfolding words_left
left_step bytes sums taken i r long small here empty room =
    let words : ℕ = length bytes / 2 in
    let left : suc (words - suc i) ≡ words - i = omega (arith, long) in
    let after : ℕ = words_check (folded_word bytes (set sums (i + 15) r)) (suc i) (words - suc i) in
    ap (bit_xor after) (odd_linear 16 taken r ∙ xor_comm (odd_part 16 taken) (odd_part 16 r))
    ∙ sym (xor_assoc after (odd_part 16 r) (odd_part 16 taken))
    ∙ ap (λ (k : ℕ). bit_xor k (odd_part 16 taken)) (
    sym (fold_step (word_in bytes) (λ (k : ℕ). get_or sums k 0) (λ (k : ℕ). get_or (set sums (i + 15) r) k 0) i (words - suc i) r
    (omega (arith, long)) small here empty
    (get_or-set_same sums (i + 15) r 0 room) (λ j other. get_or-set_other sums (i + 15) j r 0 other))
    ∙ ap (λ (n : ℕ). words_check (folded_word bytes sums) i n) left)

put_first : (p : ℕ) (xs : List ℕ) (r : ℕ) (rs : List ℕ) → put_chunk p xs (r ∷ rs) ≡ put_chunk (suc p) (set xs p r) rs
put_first p [] r rs = refl
put_first zero (x ∷ xs) r rs = refl
put_first (suc p) (x ∷ xs) r rs = ap (λ (ys : List ℕ). x ∷ ys) (put_first p xs r rs)

put_none : (p : ℕ) (xs : List ℕ) → put_chunk p xs [] ≡ xs
put_none p [] = refl
put_none zero (x ∷ xs) = refl
put_none (suc p) (x ∷ xs) = ap (λ (ys : List ℕ). x ∷ ys) (put_none p xs)

-- at most 13 words are taken away at once: none of them is added to another
pub left_steps : (bytes sums : List ℕ) (taken i : ℕ) (rs : List ℕ) → length rs ≤ 13 → i + length rs + 15 ≤ length bytes / 2 → i + length rs + 15 ≤ length sums
    → All (λ r. r < 2 ^ 16) rs → ((k : ℕ) → k < length rs → get_or rs k 0 ≡ folded_word bytes sums (i + k)) → ((k : ℕ) → i + 15 ≤ k → get_or sums k 0 ≡ 0)
    → words_left bytes (put_chunk (i + 15) sums rs) (fold bit_xor taken rs) (i + length rs) ≡ words_left bytes sums taken i
unfolding with_sums
left_steps bytes sums taken i [] few within room small each zeros =
    let none : i + 0 ≡ i = omega arith in
    ap (words_left bytes (put_chunk (i + 15) sums []) taken) none ∙ ap (λ (xs : List ℕ). words_left bytes xs taken i) (put_none (i + 15) sums)
left_steps bytes sums taken i (r ∷ rs) few within room small each zeros =
    let next : i + suc (length rs) ≡ suc i + length rs = omega arith in
    let place : suc (i + 15) ≡ suc i + 15 = omega arith in
    let first : i + 0 ≡ i = omega arith in
    let size : length (set sums (i + 15) r) ≡ length sums = length-set sums (i + 15) r in
    ap (words_left bytes (put_chunk (i + 15) sums (r ∷ rs)) (fold bit_xor (bit_xor taken r) rs)) next
    ∙ ap (λ (xs : List ℕ). words_left bytes xs (fold bit_xor (bit_xor taken r) rs) (suc i + length rs)) (put_first (i + 15) sums r rs ∙ ap (λ (p : ℕ). put_chunk p (set sums (i + 15) r) rs) place)
    ∙ left_steps bytes (set sums (i + 15) r) (bit_xor taken r) (suc i) rs (omega (arith, few)) (omega (arith, within)) (omega (arith, room, size))
    (All-tail (λ (k : ℕ). k < 2 ^ 16) r rs small)
    (λ k inside. each (suc k) (omega (arith, inside)) ∙ same k (omega (arith, inside, few)))
    (λ k far. get_or-set_other sums (i + 15) k r 0 (λ e. absurd (omega (arith, e, far))) ∙ zeros k (omega (arith, far)))
    ∙ left_step bytes sums taken i r (omega (arith, within)) (All-head (λ (k : ℕ). k < 2 ^ 16) r rs small) (each 0 (omega arith) ∙ ap (folded_word bytes sums) first) (zeros (i + 15) (omega arith)) (omega (arith, room))
  where
    same : (k : ℕ) → k < 12 → folded_word bytes sums (i + suc k) ≡ folded_word bytes (set sums (i + 15) r) (suc i + k)
    same k low =
        let here : i + suc k ≡ suc i + k = omega arith in
        ap (folded_word bytes sums) here
        ∙ ap (bit_xor (word_in bytes (suc i + k))) (
        ap (λ (n : ℕ). bit_xor n (get_or sums (suc i + k) 0)) (sym (get_or-set_other sums (i + 15) (suc i + k + 1) r 0 (λ e. absurd (omega (arith, e, low)))))
        ∙ ap (bit_xor (get_or (set sums (i + 15) r) (suc i + k + 1) 0)) (sym (get_or-set_other sums (i + 15) (suc i + k) r 0 (λ e. absurd (omega (arith, e, low))))))

pub left_begins : (bytes sums : List ℕ) → words_left bytes sums 0 0 ≡ words_check (folded_word bytes sums) 0 (length bytes / 2)
unfolding words_left
left_begins bytes sums =
    let all : ℕ → ℕ = words_check (folded_word bytes sums) 0 in
    let words : ℕ = length bytes / 2 in
    let left : words - 0 ≡ words = omega arith in
    ap (bit_xor (all (words - 0))) odd_none ∙ xor_zero_r (all (words - 0)) ∙ ap all left

pub none_taken : checksum_of (replicate 8 0) ≡ 0
unfolding checksum_of
none_taken = refl

pub all_reduced : (c : ℕ) (xs : List ℕ) → fold_l bit_xor c xs ≡ fold bit_xor c xs
all_reduced c [] = refl
all_reduced c (x ∷ xs) = all_reduced (bit_xor c x) xs

number_of_lanes : (xs : List ℕ) → length xs ≡ 2 → number_l 256 xs ≡ from_le_bytes w16 xs
number_of_lanes (s ∷ t ∷ []) long = omega arith
number_of_lanes [] long = absurd (omega arith)
number_of_lanes (s ∷ []) long = absurd (omega arith)
number_of_lanes (s ∷ t ∷ more ∷ rest) long = absurd (omega arith)

-- a word of sixteen bytes that were read at once
pub lane_is : (bytes : List ℕ) (from k : ℕ) → 2 * from + 16 ≤ length bytes → k < 8 → number_l 256 (chunk (2 * k) 2 (chunk (2 * from) 16 bytes)) ≡ word_in bytes (from + k)
unfolding word_in
lane_is bytes from k within low =
    number_of_lanes here long
    ∙ ap (from_le_bytes w16) (
    two here long
    ∙ ap (λ (n : ℕ). n ∷ get_or here 1 0 ∷ []) (same 0 (omega arith))
    ∙ ap (λ (n : ℕ). get_or there 0 0 ∷ n ∷ []) (same 1 (omega arith))
    ∙ sym (two there (length-chunk (2 * (from + k)) 2 bytes (omega (arith, within, low)))))
  where
    lanes : List ℕ
    lanes = chunk (2 * from) 16 bytes

    here : List ℕ
    here = chunk (2 * k) 2 lanes

    there : List ℕ
    there = chunk (2 * (from + k)) 2 bytes

    long : length here ≡ 2
    long = let all : length lanes ≡ 16 = length-chunk (2 * from) 16 bytes within in length-chunk (2 * k) 2 lanes (omega (arith, all, low))

    same : (j : ℕ) → j < 2 → get_or here j 0 ≡ get_or there j 0
    same j first =
        let place : 2 * from + (2 * k + j) ≡ 2 * (from + k) + j = omega arith in
        get_or-chunk (2 * k) 2 lanes j 0 first
        ∙ get_or-chunk (2 * from) 16 bytes (2 * k + j) 0 (omega (arith, low, first))
        ∙ ap (λ (n : ℕ). get_or bytes n 0) place
        ∙ sym (get_or-chunk (2 * (from + k)) 2 bytes j 0 first)

pub word_small : (bytes : List ℕ) (i : ℕ) → 2 * i + 2 ≤ length bytes → ((j : ℕ) → get_or bytes j 0 < 256) → word_in bytes i < 2 ^ 16
unfolding word_in
word_small bytes i within small =
    let here = chunk (2 * i) 2 bytes in
    let is : from_le_bytes w16 here ≡ from_le_bytes w16 (get_or here 0 0 ∷ get_or here 1 0 ∷ []) = ap (from_le_bytes w16) (two here (length-chunk (2 * i) 2 bytes within)) in
    let first : get_or here 0 0 ≡ get_or bytes (2 * i + 0) 0 = get_or-chunk (2 * i) 2 bytes 0 0 (omega arith) in
    let second : get_or here 1 0 ≡ get_or bytes (2 * i + 1) 0 = get_or-chunk (2 * i) 2 bytes 1 0 (omega arith) in
    let low : get_or bytes (2 * i + 0) 0 < 256 = small (2 * i + 0) in
    let high : get_or bytes (2 * i + 1) 0 < 256 = small (2 * i + 1) in
    omega (arith, is, first, second, low, high)
