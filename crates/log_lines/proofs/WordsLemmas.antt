-- Lemmas on the loops that read a frame's number and bytes, and on the names and packets that words write.
use Rattle.std.proofs.Common.{◌≡◌, ◌&&◌, ℕ, ◌+◌, ◌*◌, ◌%◌, ◌<◌, ◌≤◌, suc, Bool, true, false, List, [], ◌∷◌, ◌++◌, length, take, drop, get_or, set, Option, Some, None, refl, ap, sym, ◌∙◌, arith, drop-cons, length-drop, append-nil, append_assoc, if◌then◌else◌, ◌^◌, add-one}
use Rattle.std.proofs.Math.Nat.{pow-suc}
use Rattle.std.specs.Prelude.{nat_lt}
use Rattle.std.proofs.lemmas.List.{take_more_set}
use Rattle.row_forms.specs.Words.{before}
use Rattle.row_forms.proofs.BlockLemmas.{onto}
use Rattle.log_lines.specs.Lines.{digit_number, bytes_said}

pair_at : (w : List ℕ) (i : ℕ) → i + 1 < length w → drop i w ≡ get_or w i 0 ∷ get_or w (i + 1) 0 ∷ drop (i + 2) w
pair_at w i h =
    let first : i < length w = omega arith in
    let e1 : i + 1 ≡ suc i = omega arith in
    let e2 : i + 2 ≡ suc (suc i) = omega arith in
    let next : suc i < length w = omega arith in
    rw (e1, e2) (drop-cons w i 0 first ∙ ap (λ more. get_or w i 0 ∷ more) (drop-cons w (suc i) 0 next))

onto_before : (front : List ℕ) (b : ℕ) (o : Option (List ℕ)) → onto front (before b o) ≡ onto (front ++ b ∷ []) o
onto_before front b None = refl
onto_before front b (Some bytes) = ap Some (sym (append_assoc front (b ∷ []) bytes))

abbrev are_digits : ℕ → ℕ → Bool
are_digits c d = nat_lt (digit_number c) 16 && nat_lt (digit_number d) 16

pair_said : (c d : ℕ) (more : List ℕ) → are_digits c d ≡ true → bytes_said (c ∷ d ∷ more) ≡ before (16 * digit_number c + digit_number d) (bytes_said more)
unfolding bytes_said
pair_said c d more h = rw h refl

pair_none : (c d : ℕ) (more : List ℕ) → are_digits c d ≡ false → bytes_said (c ∷ d ∷ more) ≡ None
unfolding bytes_said
pair_none c d more h = rw h refl

-- one pair more
pub bytes_more : (w places : List ℕ) (i b : ℕ) → 2 * i + 1 < length w → i < length places → (nat_lt (digit_number (get_or w (2 * i) 0)) 16 && nat_lt (digit_number (get_or w (2 * i + 1) 0)) 16) ≡ true
    → b ≡ 16 * digit_number (get_or w (2 * i) 0) + digit_number (get_or w (2 * i + 1) 0)
    → onto (take i places) (bytes_said (drop (2 * i) w)) ≡ onto (take (i + 1) (set places i b)) (bytes_said (drop (2 * (i + 1)) w))
bytes_more w places i b h inside e byte =
    let k : 2 * (i + 1) ≡ 2 * i + 2 = omega arith in
    rw (k, take_more_set places i b inside, byte) (ap (λ bytes. onto (take i places) (bytes_said bytes)) (pair_at w (2 * i) h) ∙ ap (onto (take i places)) (pair_said _ _ _ e) ∙ onto_before (take i places) _ _)

-- a pair that is none
pub bytes_bad : (w front : List ℕ) (i : ℕ) → 2 * i + 1 < length w → (nat_lt (digit_number (get_or w (2 * i) 0)) 16 && nat_lt (digit_number (get_or w (2 * i + 1) 0)) 16) ≡ false
    → onto front (bytes_said (drop (2 * i) w)) ≡ None
bytes_bad w front i h e = ap (λ bytes. onto front (bytes_said bytes)) (pair_at w (2 * i) h) ∙ ap (onto front) (pair_none _ _ _ e)

-- no digit is left
ends_at : (rest front : List ℕ) → length rest ≡ 0 → onto front (bytes_said rest) ≡ Some front
unfolding bytes_said
ends_at [] front h = ap Some (append-nil front)
ends_at (x ∷ rest) front h = absurd (omega (arith, h))

pub bytes_end : (w front : List ℕ) (i : ℕ) → length w ≤ 2 * i → onto front (bytes_said (drop (2 * i) w)) ≡ Some front
bytes_end w front i h = ends_at _ front (length-drop (2 * i) w ∙ omega arith)

odd_one : (b : Bool) (n : ℕ) → (if b then before n None else None) ≡ None
odd_one true n = refl
odd_one false n = refl

-- an odd number of digits
pub odd_none : (word : List ℕ) → (length word % 2 ≡ 0 → ⊥) → bytes_said word ≡ None
unfolding bytes_said
odd_none [] h = absurd (h refl)
odd_none (c ∷ []) h = refl
odd_none (c ∷ d ∷ more) h =
    let rest = odd_none more (λ (e : length more % 2 ≡ 0). h (omega (arith, e))) in
    rw rest (odd_one (are_digits c d) (16 * digit_number c + digit_number d))

-- one decimal digit more is one power of 10 more
pub digit_small : (v d i : ℕ) → v < 10 ^ i → d < 10 → v * 10 + d < 10 ^ (i + 1)
digit_small v d i small digit =
    let e : 10 ^ (i + 1) ≡ 10 ^ i * 10 = rw add-one (pow-suc 10 i) in
    rw e (omega arith)
