-- Lemmas on the parts of a text between commas.
use Rattle.std.proofs.Common.{◌≡◌, ◌==◌, ℕ, ◌+◌, ◌<◌, ◌≤◌, Bool, true, false, List, [], ◌∷◌, ◌++◌, length, take, drop, Some, None, refl, ap, sym, ◌∙◌, arith, get_or}
use Rattle.std.specs.List.{position, position_or_len, onto_first}
use Rattle.std.proofs.lemmas.List.Splits.{slice_split_first, slice_split-cons_no}
use Rattle.std.proofs.lemmas.List.{take_more}
use Rattle.std.proofs.lemmas.Grind.{flat_map-append}
use Rattle.packet_forms.specs.Hex.{hex, hex_pair}
use Rattle.row_forms.specs.Lists.{parts}
use Rattle.row_forms.proofs.WordsLemmas.{position_is, position_none}

abbrev is_comma : ℕ → Bool
is_comma b = b == 44

none_one : (x : ℕ) (xs : List ℕ) (b : Bool) → is_comma x ≡ b → (length xs ≤ position_or_len is_comma xs → parts xs ≡ xs ∷ []) → length (x ∷ xs) ≤ position_or_len is_comma (x ∷ xs) → parts (x ∷ xs) ≡ (x ∷ xs) ∷ []
none_one x xs true e ih h = let k = rw e at h in absurd (omega (arith, k))
none_one x xs false e ih h =
    let k = rw e at h in
    slice_split-cons_no is_comma x xs e ∙ ap (onto_first x) (ih (omega (arith, k)))

one_part : (xs : List ℕ) → length xs ≤ position_or_len is_comma xs → parts xs ≡ xs ∷ []
one_part [] h = refl
one_part (x ∷ xs) h = none_one x xs (is_comma x) refl (one_part xs) h

-- a text without a comma is one part
pub whole_part : (text : List ℕ) → position is_comma text ≡ None → parts text ≡ text ∷ []
whole_part text none = one_part text (position_none is_comma text none)

-- the first part ends at the first comma
pub part_at : (text : List ℕ) (at : ℕ) → position is_comma text ≡ Some at → parts text ≡ take at text ∷ parts (drop (at + 1) text)
part_at text at found =
    let here = position_is is_comma text at found in
    slice_split_first is_comma text 0 (let k : position_or_len is_comma text < length text = omega (arith, here.0, here.1) in k)
    ∙ ap (λ (n : ℕ). take n text ∷ parts (drop (n + 1) text)) (sym here.0)

-- the digits of one byte more
pub hex_more : (bytes : List ℕ) (i : ℕ) → i < length bytes → hex (take (i + 1) bytes) ≡ hex (take i bytes) ++ hex_pair (get_or bytes i 0)
unfolding hex
hex_more bytes i inside = rw (take_more bytes i 0 inside, flat_map-append hex_pair (take i bytes)) refl
