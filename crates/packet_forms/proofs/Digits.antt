-- Hexadecimal digits, byte after byte.
use Rattle.std.proofs.Common.{suc, set, ◌≡◌, ◌<◌, ◌≤◌, ◌+◌, ◌*◌, ◌/◌, ◌%◌, ℕ, List, [], ◌∷◌, ◌++◌, length, take, drop, get_or, refl, sym, ap, ◌∙◌, append_assoc, length-append, length-drop, arith}
use Rattle.std.proofs.lemmas.List.{take_more, take-append-drop, drop-drop, length-take-le, length-set, set_split, take_more_set, drop-set-lt}
use Rattle.std.proofs.lemmas.Grind.{flat_map-append}
use Rattle.std.proofs.Math.Seq.{take-append_seam, drop-append_seam, take-add}
use Rattle.std.proofs.Common.{zero, map, replicate, ◌^◌, w8}
use Rattle.std.specs.Prelude.{bit_and}
use Rattle.std.proofs.lemmas.Nat.{and_mask}
use Rattle.std.specs.Simd.Lanes.{zip2, pick_l}
use Rattle.std.specs.List.{All, range_with_len}
use Rattle.std.proofs.lemmas.List.{same_lists, length-map, get_or-map}
use Rattle.std.proofs.lemmas.List.Elements.{All-nil, All-cons, All-head, All-tail}
use Rattle.std.proofs.lemmas.List.FromFn.{get_or-map-range_with_len}
use Rattle.std.proofs.lemmas.Simd.{swz_l, length-swz_l, get_or-swz_l_below}
use Rattle.packet_forms.specs.Hex.{hex, hex_pair, hex_digit, hex_digits, halves}

pub hex_none : hex [] ≡ []
unfolding hex
hex_none = refl

hex_both : (xs ys : List ℕ) → hex (xs ++ ys) ≡ hex xs ++ hex ys
unfolding hex
hex_both xs ys = flat_map-append hex_pair xs ys

pub length-hex : (bytes : List ℕ) → length (hex bytes) ≡ 2 * length bytes
unfolding hex
length-hex [] = refl
length-hex (b ∷ bytes) = let rest = length-hex bytes in omega arith

-- the digits of the first bytes are written, and the places behind them are as they were
pub front_none : (places : List ℕ) (at : ℕ) (bytes : List ℕ) → at + 2 * length bytes ≤ length places → places ≡ take at places ++ (hex (take 0 bytes) ++ drop (at + 2 * 0) places)
front_none places at bytes room =
    let same : at + 2 * 0 ≡ at = omega arith in
    rw (hex_none, same) (sym (take-append-drop at places))

-- the digits of more bytes behind those of the first
pub front_joined : (places middle now first more : List ℕ) (at : ℕ) → at + 2 * length (first ++ more) ≤ length places
    → middle ≡ take at places ++ (hex first ++ drop (at + 2 * length first) places)
    → now ≡ take (at + 2 * length first) middle ++ (hex more ++ drop (at + 2 * length first + 2 * length more) middle)
    → now ≡ take at places ++ (hex (first ++ more) ++ drop (at + 2 * length (first ++ more)) places)
front_joined places middle now first more at room before after =
    after
    ∙ ap (λ (xs : List ℕ). take (at + 2 * length first) xs ++ (hex more ++ drop (at + 2 * length first + 2 * length more) xs)) split
    ∙ ap (λ (n : ℕ). take n (front ++ rest) ++ (hex more ++ drop (at + 2 * length first + 2 * length more) (front ++ rest))) (sym size)
    ∙ ap (λ (xs : List ℕ). xs ++ (hex more ++ drop (at + 2 * length first + 2 * length more) (front ++ rest))) (take-append_seam front rest)
    ∙ ap (λ (xs : List ℕ). front ++ (hex more ++ xs)) behind
    ∙ append_assoc (take at places) (hex first) (hex more ++ drop (at + 2 * length (first ++ more)) places)
    ∙ ap (λ (xs : List ℕ). take at places ++ xs) (
    sym (append_assoc (hex first) (hex more) (drop (at + 2 * length (first ++ more)) places))
    ∙ ap (λ (xs : List ℕ). xs ++ drop (at + 2 * length (first ++ more)) places) (sym (hex_both first more)))
  where
    front : List ℕ
    front = take at places ++ hex first

    rest : List ℕ
    rest = drop (at + 2 * length first) places

    split : middle ≡ front ++ rest
    split = before ∙ sym (append_assoc (take at places) (hex first) rest)

    both : length (first ++ more) ≡ length first + length more
    both = length-append first more

    size : length front ≡ at + 2 * length first
    size =
        let one : length (take at places) ≡ at = length-take-le at places (omega arith) in
        let two : length (hex first) ≡ 2 * length first = length-hex first in
        length-append (take at places) (hex first) ∙ omega arith

    behind : drop (at + 2 * length first + 2 * length more) (front ++ rest) ≡ drop (at + 2 * length (first ++ more)) places
    behind =
        let next : at + 2 * length first + 2 * length more ≡ at + 2 * length (first ++ more) = omega (arith, both) in
        sym (drop-drop (2 * length more) (at + 2 * length first) (front ++ rest))
        ∙ ap (drop (2 * length more)) (ap (λ (n : ℕ). drop n (front ++ rest)) (sym size) ∙ drop-append_seam front rest)
        ∙ drop-drop (2 * length more) (at + 2 * length first) places
        ∙ ap (λ (n : ℕ). drop n places) next

-- those of the bytes from place i on, behind those of the bytes before it
pub front_from : (places middle now bytes more : List ℕ) (at i next : ℕ) → at + 2 * length bytes ≤ length places → next ≤ length bytes → i + length more ≡ next → take next bytes ≡ take i bytes ++ more
    → middle ≡ take at places ++ (hex (take i bytes) ++ drop (at + 2 * i) places)
    → now ≡ take (at + 2 * i) middle ++ (hex more ++ drop (at + 2 * i + 2 * length more) middle)
    → now ≡ take at places ++ (hex (take next bytes) ++ drop (at + 2 * next) places)
front_from places middle now bytes more at i next room few far front before after =
    let size : length (take i bytes) ≡ i = length-take-le i bytes (omega (arith, few, far)) in
    let both : length (take i bytes ++ more) ≡ next = length-append (take i bytes) more ∙ ap (λ (n : ℕ). n + length more) size ∙ far in
    front_joined places middle now (take i bytes) more at (omega (arith, both, few, room))
    (before ∙ ap (λ (n : ℕ). take at places ++ (hex (take i bytes) ++ drop (at + 2 * n) places)) (sym size))
    (after ∙ ap (λ (n : ℕ). take (at + 2 * n) middle ++ (hex more ++ drop (at + 2 * n + 2 * length more) middle)) (sym size))
    ∙ ap (λ (n : ℕ). take at places ++ (hex (take i bytes ++ more) ++ drop (at + 2 * n) places)) both
    ∙ ap (λ (xs : List ℕ). take at places ++ (hex xs ++ drop (at + 2 * next) places)) (sym front)

-- the digits of one byte more
pub front_more : (places at_i now pair bytes : List ℕ) (at i : ℕ) → at + 2 * length bytes ≤ length places → i < length bytes
    → at_i ≡ take at places ++ (hex (take i bytes) ++ drop (at + 2 * i) places)
    → pair ≡ hex_pair (get_or bytes i 0)
    → now ≡ take (at + 2 * i) at_i ++ (pair ++ drop (at + 2 * i + length pair) at_i)
    → now ≡ take at places ++ (hex (take (i + 1) bytes) ++ drop (at + 2 * (i + 1)) places)
unfolding hex
front_more places at_i now pair bytes at i room h before digits after =
    front_from places at_i now bytes (get_or bytes i 0 ∷ []) at i (i + 1) room (omega arith) refl (take_more bytes i 0 h) before
    (after ∙ ap (λ (xs : List ℕ). take (at + 2 * i) at_i ++ (xs ++ drop (at + 2 * i + length xs) at_i)) digits)

-- those of four bytes more
pub fours_more : (places middle now bytes : List ℕ) (at k size : ℕ) → at + 2 * length bytes ≤ length places → 4 * k + 4 ≤ length bytes → size ≡ 4
    → middle ≡ take at places ++ (hex (take (4 * k) bytes) ++ drop (at + 2 * (4 * k)) places)
    → now ≡ take (at + 8 * k) middle ++ (hex (take size (drop (4 * k) bytes)) ++ drop (at + 8 * k + 8) middle)
    → now ≡ take at places ++ (hex (take (4 * (k + 1)) bytes) ++ drop (at + 2 * (4 * (k + 1))) places)
fours_more places middle now bytes at k size room within four before after =
    let more = take 4 (drop (4 * k) bytes) in
    let left = length-drop (4 * k) bytes in
    let long : length more ≡ 4 = length-take-le 4 (drop (4 * k) bytes) (omega (arith, left, within)) in
    let next : 4 * k + 4 ≡ 4 * (k + 1) = omega arith in
    let start : at + 8 * k ≡ at + 2 * (4 * k) = omega arith in
    let end : at + 8 * k + 8 ≡ at + 2 * (4 * k) + 2 * length more = omega (arith, long) in
    front_from places middle now bytes more at (4 * k) (4 * (k + 1)) room (omega arith) (ap (λ (n : ℕ). 4 * k + n) long ∙ next) (ap (λ (n : ℕ). take n bytes) (sym next) ∙ take-add (4 * k) 4 bytes) before
    (after
    ∙ ap (λ (n : ℕ). take (at + 8 * k) middle ++ (hex (take n (drop (4 * k) bytes)) ++ drop (at + 8 * k + 8) middle)) four
    ∙ ap (λ (n : ℕ). take n middle ++ (hex more ++ drop (at + 8 * k + 8) middle)) start
    ∙ ap (λ (n : ℕ). take (at + 2 * (4 * k)) middle ++ (hex more ++ drop n middle)) end)

-- those of all bytes, of which the first were written before the others
pub all_placed : (places middle now bytes : List ℕ) (at whole : ℕ) → at + 2 * length bytes ≤ length places → whole ≤ length bytes
    → middle ≡ take at places ++ (hex (take whole bytes) ++ drop (at + 2 * length (take whole bytes)) places)
    → now ≡ take (at + 2 * whole) middle ++ (hex (drop whole bytes) ++ drop (at + 2 * whole + 2 * length (drop whole bytes)) middle)
    → now ≡ take at places ++ (hex bytes ++ drop (at + 2 * length bytes) places)
all_placed places middle now bytes at whole room few before after =
    let all : take whole bytes ++ drop whole bytes ≡ bytes = take-append-drop whole bytes in
    let size : length (take whole bytes) ≡ whole = length-take-le whole bytes few in
    front_joined places middle now (take whole bytes) (drop whole bytes) at (rw all room) before
    (after ∙ ap (λ (n : ℕ). take (at + 2 * n) middle ++ (hex (drop whole bytes) ++ drop (at + 2 * n + 2 * length (drop whole bytes)) middle)) (sym size))
    ∙ ap (λ (xs : List ℕ). take at places ++ (hex xs ++ drop (at + 2 * length xs) places)) all

-- four bytes, and the digits of each placed behind those of the one before
four_bytes : (bytes : List ℕ) → length bytes ≡ 4 → get_or bytes 0 0 ∷ get_or bytes 1 0 ∷ get_or bytes 2 0 ∷ get_or bytes 3 0 ∷ [] ≡ bytes
four_bytes (s ∷ t ∷ u ∷ v ∷ []) long = refl
four_bytes [] long = cc
four_bytes (s ∷ []) long = cc
four_bytes (s ∷ t ∷ []) long = cc
four_bytes (s ∷ t ∷ u ∷ []) long = cc
four_bytes (s ∷ t ∷ u ∷ v ∷ more ∷ rest) long = absurd (omega arith)

-- two digits written one after the other
pub pair_placed : (places pair : List ℕ) (at : ℕ) → length pair ≡ 2 → at + 2 ≤ length places
    → set (set places at (get_or pair 0 0)) (at + 1) (get_or pair 1 0) ≡ take at places ++ (pair ++ drop (at + length pair) places)
pair_placed places (a ∷ b ∷ []) at long room =
    let one = set places at a in
    let size : length one ≡ length places = length-set places at a in
    let next : suc (at + 1) ≡ at + 2 = omega arith in
    set_split one (at + 1) b (omega (arith, size, room))
    ∙ ap (λ (xs : List ℕ). xs ++ (b ∷ drop (suc (at + 1)) one)) (take_more_set places at a (omega (arith, room)))
    ∙ ap (λ (xs : List ℕ). (take at places ++ a ∷ []) ++ (b ∷ xs)) (drop-set-lt (suc (at + 1)) places at a (omega arith) ∙ ap (λ (n : ℕ). drop n places) next)
    ∙ append_assoc (take at places) (a ∷ []) (b ∷ drop (at + 2) places)
pair_placed places [] at long room = cc
pair_placed places (a ∷ []) at long room = cc
pair_placed places (a ∷ b ∷ more ∷ rest) at long room = absurd (omega arith)

one_behind : (places middle now pair first : List ℕ) (b at : ℕ) → at + 2 * length (first ++ b ∷ []) ≤ length places → pair ≡ hex_pair b
    → middle ≡ take at places ++ (hex first ++ drop (at + 2 * length first) places)
    → now ≡ take (at + 2 * length first) middle ++ (pair ++ drop (at + 2 * length first + length pair) middle)
    → now ≡ take at places ++ (hex (first ++ b ∷ []) ++ drop (at + 2 * length (first ++ b ∷ [])) places)
unfolding hex
one_behind places middle now pair first b at room digits before after =
    front_joined places middle now first (b ∷ []) at room before (after ∙ ap (λ (xs : List ℕ). take (at + 2 * length first) middle ++ (xs ++ drop (at + 2 * length first + length xs) middle)) digits)

pub four_placed : (places one two three four p q r s bytes : List ℕ) (at : ℕ) → length bytes ≡ 4 → at + 8 ≤ length places
    → p ≡ hex_pair (get_or bytes 0 0) → q ≡ hex_pair (get_or bytes 1 0) → r ≡ hex_pair (get_or bytes 2 0) → s ≡ hex_pair (get_or bytes 3 0)
    → one ≡ take at places ++ (p ++ drop (at + length p) places)
    → two ≡ take (at + 2) one ++ (q ++ drop (at + 2 + length q) one)
    → three ≡ take (at + 4) two ++ (r ++ drop (at + 4 + length r) two)
    → four ≡ take (at + 6) three ++ (s ++ drop (at + 6 + length s) three)
    → four ≡ take at places ++ (hex bytes ++ drop (at + 8) places)
unfolding hex
four_placed places one two three four p q r s bytes at long room hp hq hr hs first second third fourth =
    let a = get_or bytes 0 0 in
    let b = get_or bytes 1 0 in
    let c = get_or bytes 2 0 in
    let d = get_or bytes 3 0 in
    let begun : one ≡ take at places ++ (hex (a ∷ []) ++ drop (at + 2) places) = first ∙ ap (λ (xs : List ℕ). take at places ++ (xs ++ drop (at + length xs) places)) hp in
    one_behind places three four s (a ∷ b ∷ c ∷ []) d at room hs
    (one_behind places two three r (a ∷ b ∷ []) c at (omega arith) hr (one_behind places one two q (a ∷ []) b at (omega arith) hq begun second) third) fourth
    ∙ ap (λ (xs : List ℕ). take at places ++ (hex xs ++ drop (at + 8) places)) (four_bytes bytes long)

pub length-front : (places bytes : List ℕ) (at i : ℕ) → at + 2 * length bytes ≤ length places → i ≤ length bytes → length (take at places ++ (hex (take i bytes) ++ drop (at + 2 * i) places)) ≡ length places
length-front places bytes at i room few =
    let one : length (take at places) ≡ at = length-take-le at places (omega arith) in
    let digits : length (hex (take i bytes)) ≡ 2 * length (take i bytes) = length-hex (take i bytes) in
    let short : length (take i bytes) ≡ i = length-take-le i bytes few in
    let rest = length-drop (at + 2 * i) places in
    simp length-append (omega arith)

-- those of eight bytes more
pub eights_more : (places middle now bytes : List ℕ) (at k size : ℕ) → at + 2 * length bytes ≤ length places → 8 * k + 8 ≤ length bytes → size ≡ 8
    → middle ≡ take at places ++ (hex (take (8 * k) bytes) ++ drop (at + 2 * (8 * k)) places)
    → now ≡ take (at + 16 * k) middle ++ (hex (take size (drop (8 * k) bytes)) ++ drop (at + 16 * k + 16) middle)
    → now ≡ take at places ++ (hex (take (8 * (k + 1)) bytes) ++ drop (at + 2 * (8 * (k + 1))) places)
eights_more places middle now bytes at k size room within eight before after =
    let more = take 8 (drop (8 * k) bytes) in
    let left = length-drop (8 * k) bytes in
    let long : length more ≡ 8 = length-take-le 8 (drop (8 * k) bytes) (omega (arith, left, within)) in
    let next : 8 * k + 8 ≡ 8 * (k + 1) = omega arith in
    let start : at + 16 * k ≡ at + 2 * (8 * k) = omega arith in
    let end : at + 16 * k + 16 ≡ at + 2 * (8 * k) + 2 * length more = omega (arith, long) in
    front_from places middle now bytes more at (8 * k) (8 * (k + 1)) room (omega arith) (ap (λ (n : ℕ). 8 * k + n) long ∙ next) (ap (λ (n : ℕ). take n bytes) (sym next) ∙ take-add (8 * k) 8 bytes) before
    (after
    ∙ ap (λ (n : ℕ). take (at + 16 * k) middle ++ (hex (take n (drop (8 * k) bytes)) ++ drop (at + 16 * k + 16) middle)) eight
    ∙ ap (λ (n : ℕ). take n middle ++ (hex more ++ drop (at + 16 * k + 16) middle)) start
    ∙ ap (λ (n : ℕ). take (at + 2 * (8 * k)) middle ++ (hex more ++ drop n middle)) end)

-- the digits in order
abbrev pub digit_table : List ℕ
digit_table = 48 ∷ 49 ∷ 50 ∷ 51 ∷ 52 ∷ 53 ∷ 54 ∷ 55 ∷ 56 ∷ 57 ∷ 65 ∷ 66 ∷ 67 ∷ 68 ∷ 69 ∷ 70 ∷ []

table_is : digit_table ≡ map hex_digit (range_with_len 0 16)
table_is = refl

get_or_any : (xs : List ℕ) (k d e : ℕ) → k < length xs → get_or xs k d ≡ get_or xs k e
get_or_any [] k d e within = absurd (omega arith)
get_or_any (x ∷ xs) zero d e within = refl
get_or_any (x ∷ xs) (suc k) d e within = get_or_any xs k d e (omega arith)

pub swizzled : (numbers : List ℕ) → length numbers ≡ 16 → All (λ n. n < 16) numbers → swz_l w8 16 digit_table 0 numbers ≡ hex_digits numbers
unfolding hex_digits
swizzled numbers long small =
    same_lists (swz_l w8 16 digit_table 0 numbers) (map hex_digit numbers) (length-swz_l w8 16 digit_table 0 numbers ∙ sym (length-map numbers hex_digit)) each
  where
    each : (k d : ℕ) → k < length (swz_l w8 16 digit_table 0 numbers) → get_or (swz_l w8 16 digit_table 0 numbers) k d ≡ get_or (map hex_digit numbers) k d
    each k d inside =
        let size : length (swz_l w8 16 digit_table 0 numbers) ≡ length numbers = length-swz_l w8 16 digit_table 0 numbers in
        let within : k < length numbers = omega (arith, size, inside) in
        let low : get_or numbers k 0 < 16 = small k 0 within in
        let place : 16 * ((0 + k) / 16) + get_or numbers k 0 ≡ get_or numbers k 0 = omega (arith, within, long) in
        get_or_any (swz_l w8 16 digit_table 0 numbers) k d 0 inside
        ∙ get_or-swz_l_below w8 16 digit_table 0 numbers k within low
        ∙ ap (λ (n : ℕ). get_or digit_table n 0) place
        ∙ ap (λ (table : List ℕ). get_or table (get_or numbers k 0) 0) table_is
        ∙ get_or-map-range_with_len hex_digit 0 16 (get_or numbers k 0) (get_or numbers k 0) 0 low (omega arith)
        ∙ sym (get_or-map hex_digit numbers k 0 d within)

pub halves_small : (bytes : List ℕ) → All (λ b. b < 256) bytes → All (λ n. n < 16) (halves bytes)
unfolding halves
halves_small [] small = All-nil (λ (n : ℕ). n < 16)
halves_small (b ∷ bytes) small =
    let first : b < 256 = All-head (λ (n : ℕ). n < 256) b bytes small in
    All-cons (λ (n : ℕ). n < 16) (b / 16) (b % 16 ∷ halves bytes) (omega (arith, first))
    (All-cons (λ (n : ℕ). n < 16) (b % 16) (halves bytes) (omega arith) (halves_small bytes (All-tail (λ (n : ℕ). n < 256) b bytes small)))

pub digits_of_halves : (bytes : List ℕ) → hex_digits (halves bytes) ≡ hex bytes
unfolding halves hex_digits hex
digits_of_halves [] = refl
digits_of_halves (b ∷ bytes) = ap (λ (xs : List ℕ). hex_digit (b / 16) ∷ hex_digit (b % 16) ∷ xs) (digits_of_halves bytes)

-- the halves of eight bytes, which stand in one list and then another
pub halves_are : (xs : List ℕ) → length xs ≡ 8
    → pick_l 0 (zip2 (λ a b. a / 2 ^ b) xs (replicate 8 4) ++ zip2 bit_and xs (replicate 8 15)) (0 ∷ 8 ∷ 1 ∷ 9 ∷ 2 ∷ 10 ∷ 3 ∷ 11 ∷ 4 ∷ 12 ∷ 5 ∷ 13 ∷ 6 ∷ 14 ∷ 7 ∷ 15 ∷ []) ≡ halves xs
unfolding halves
halves_are (s ∷ t ∷ u ∷ v ∷ w ∷ x ∷ y ∷ z ∷ []) long = rw (and_mask s 4, and_mask t 4, and_mask u 4, and_mask v 4, and_mask w 4, and_mask x 4, and_mask y 4, and_mask z 4) refl
halves_are [] long = absurd (omega arith)
halves_are (s ∷ []) long = absurd (omega arith)
halves_are (s ∷ t ∷ []) long = absurd (omega arith)
halves_are (s ∷ t ∷ u ∷ []) long = absurd (omega arith)
halves_are (s ∷ t ∷ u ∷ v ∷ []) long = absurd (omega arith)
halves_are (s ∷ t ∷ u ∷ v ∷ w ∷ []) long = absurd (omega arith)
halves_are (s ∷ t ∷ u ∷ v ∷ w ∷ x ∷ []) long = absurd (omega arith)
halves_are (s ∷ t ∷ u ∷ v ∷ w ∷ x ∷ y ∷ []) long = absurd (omega arith)
halves_are (s ∷ t ∷ u ∷ v ∷ w ∷ x ∷ y ∷ z ∷ more ∷ rest) long = absurd (omega arith)
