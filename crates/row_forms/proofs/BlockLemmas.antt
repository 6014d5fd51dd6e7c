-- Lemmas on pairs of hexadecimal digits.
use Rattle.std.proofs.Common.{◌≡◌, ℕ, ◌+◌, ◌*◌, ◌<◌, ◌≤◌, suc, Bool, true, false, ◌&&◌, List, [], ◌∷◌, ◌++◌, length, drop, get_or, Option, Some, None, refl, ap, sym, ◌∙◌, arith, append_assoc, append-nil, drop-cons, length-drop, ◌%◌, if◌then◌else◌}
use Rattle.std.specs.Char.{is_digit, digit_value}
use Rattle.row_forms.specs.Words.{hex_said, before}
use Rattle.row_forms.specs.Rows.{GivesValue}

-- bytes in front of bytes, where there are any
abbrev pub onto : List ℕ → Option (List ℕ) → Option (List ℕ)
onto front None = None
onto front (Some bytes) = Some (front ++ bytes)

pair_at : (w : List ℕ) (i : ℕ) → i + 1 < length w → drop i w ≡ get_or w i 0 ∷ get_or w (i + 1) 0 ∷ drop (i + 2) w
pair_at w i h =
    let first : i < length w = omega arith in
    let e1 : i + 1 ≡ suc i = omega arith in
    let e2 : i + 2 ≡ suc (suc i) = omega arith in
    let next : suc i < length w = omega arith in
    rw (e1, e2) (drop-cons w i 0 first ∙ ap (λ more. get_or w i 0 ∷ more) (drop-cons w (suc i) 0 next))

onto_before : (front : List ℕ) (b : ℕ) (o : Option (List ℕ)) → onto front (before b o) ≡ onto (front ++ b ∷ []) o
onto_before front b None = refl
onto_before front b (Some bytes) = ap Some (sym (append_assoc front (b ∷ []) bytes))

hex_pairs : (c d : ℕ) (more : List ℕ) → (is_digit c 16 && is_digit d 16) ≡ true → hex_said (c ∷ d ∷ more) ≡ before (16 * digit_value c + digit_value d) (hex_said more)
unfolding hex_said
hex_pairs c d more h = rw h refl

hex_none : (c d : ℕ) (more : List ℕ) → (is_digit c 16 && is_digit d 16) ≡ false → hex_said (c ∷ d ∷ more) ≡ None
unfolding hex_said
hex_none c d more h = rw h refl

-- one pair more
pub hex_more : (w front : List ℕ) (i : ℕ) → 2 * i + 1 < length w → (is_digit (get_or w (2 * i) 0) 16 && is_digit (get_or w (2 * i + 1) 0) 16) ≡ true
    → onto front (hex_said (drop (2 * i) w)) ≡ onto (front ++ (16 * digit_value (get_or w (2 * i) 0) + digit_value (get_or w (2 * i + 1) 0)) ∷ []) (hex_said (drop (2 * (i + 1)) w))
hex_more w front i h e =
    let k : 2 * (i + 1) ≡ 2 * i + 2 = omega arith in
    rw k (ap (λ bytes. onto front (hex_said bytes)) (pair_at w (2 * i) h) ∙ ap (onto front) (hex_pairs _ _ _ e) ∙ onto_before front _ _)

-- a pair that is none
pub hex_bad : (w front : List ℕ) (i : ℕ) → 2 * i + 1 < length w → (is_digit (get_or w (2 * i) 0) 16 && is_digit (get_or w (2 * i + 1) 0) 16) ≡ false
    → onto front (hex_said (drop (2 * i) w)) ≡ None
hex_bad w front i h e = ap (λ bytes. onto front (hex_said bytes)) (pair_at w (2 * i) h) ∙ ap (onto front) (hex_none _ _ _ e)

hex_ends_at : (rest front : List ℕ) → length rest ≡ 0 → onto front (hex_said rest) ≡ Some front
unfolding hex_said
hex_ends_at [] front h = ap Some (append-nil front)
hex_ends_at (x ∷ rest) front h = absurd (omega (arith, h))

-- no digit is left
pub hex_ends : (w front : List ℕ) (i : ℕ) → length w ≤ 2 * i → onto front (hex_said (drop (2 * i) w)) ≡ Some front
hex_ends w front i h = hex_ends_at _ front (length-drop (2 * i) w ∙ omega arith)

hex_odd_at : (rest front : List ℕ) → length rest ≡ 1 → onto front (hex_said rest) ≡ None
unfolding hex_said
hex_odd_at [] front h = absurd (omega (arith, h))
hex_odd_at (x ∷ []) front h = refl
hex_odd_at (x ∷ y ∷ rest) front h = absurd (omega (arith, h))

-- one digit is left
pub hex_odd : (w front : List ℕ) (i : ℕ) → length w ≡ 2 * i + 1 → onto front (hex_said (drop (2 * i) w)) ≡ None
hex_odd w front i h = hex_odd_at _ front (length-drop (2 * i) w ∙ omega arith)

odd_one : (b : Bool) (n : ℕ) → (if b then before n None else None) ≡ None
odd_one true n = refl
odd_one false n = refl

-- an odd number of digits
pub odd_none : (word : List ℕ) → (length word % 2 ≡ 0 → ⊥) → hex_said word ≡ None
unfolding hex_said
odd_none [] h = absurd (h refl)
odd_none (c ∷ []) h = refl
odd_none (c ∷ d ∷ more) h =
    let rest = odd_none more (λ (e : length more % 2 ≡ 0). h (omega (arith, e))) in
    rw rest (odd_one (is_digit c 16 && is_digit d 16) (16 * digit_value c + digit_value d))

-- what is said behind what was there
pub gives_onto : (said : Option (List ℕ)) (old new : List ℕ) → onto old said ≡ Some new → GivesValue said old new true
gives_onto None old new e = absurd (cc)
gives_onto (Some bytes) old new e = (refl, cc)

pub gives_none : (said : Option (List ℕ)) (old new : List ℕ) → said ≡ None → GivesValue said old new false
gives_none None old new e = refl
gives_none (Some bytes) old new e = absurd (cc)

pub onto_none : (said : Option (List ℕ)) (old : List ℕ) → onto old said ≡ None → said ≡ None
onto_none None old e = refl
onto_none (Some bytes) old e = absurd (cc)
