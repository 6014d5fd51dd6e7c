-- Lemmas on the counters in the housekeeping of Health and Safety.
use Rattle.std.proofs.Common.{◌≡◌, ℕ, suc, ◌*◌, ◌<◌, ◌^◌, true, List, [], ◌∷◌, length, map, refl, ap₂, ◌∙◌, arith}
use Rattle.std.specs.Prelude.{codes}
use Rattle.std.specs.List.{AllByRecursion, flat_map}
use Rattle.packet_forms.specs.Numbers.{be32_at, be32_bytes}
use Rattle.row_forms.specs.declared.field.Field.{Field}
use Rattle.row_forms.specs.declared.field.Spelling.TheVariants as spellings
use Rattle.row_forms.specs.Rows.{is_row}
use Rattle.row_forms.specs.RowNumbers.{numbers_in}
use Rattle.row_forms.specs.Worked.{choice_of, choices_at, field, text_at}
use Rattle.row_forms.proofs.TextLemmas.{all_append}
use Rattle.telemetry.specs.Dictionary.{counter}
use Rattle.telemetry_making.proofs.MakingLemmas.{bytes32, row32, whole32}

-- fields of counters with these keys
abbrev pub counters_by : List (List ℕ) → List Field
counters_by keys = map (λ key. field key counter) keys

-- the bytes of numbers that rows have
abbrev pub bytes_by : {R : Type 0} → (R → ℕ) → List R → List ℕ
bytes_by number rows = flat_map (λ row. be32_bytes (number row)) rows

one_fewer : (m n : ℕ) → suc m ≡ suc n → m ≡ n
one_fewer m n e = omega (arith, e)

no_rows : (m : ℕ) → suc m ≡ 0 → ⊥
no_rows m e = absurd (omega (arith, e))

end_of_row : is_row [] [] ≡ true
unfolding is_row
end_of_row = refl

pub counters_row : {R : Type 0} (number : R → ℕ) (keys : List (List ℕ)) (rows : List R) → length rows ≡ length keys → is_row (counters_by keys) (bytes_by number rows) ≡ true
counters_row number [] [] long = end_of_row
counters_row number [] (row ∷ rows) long = absurd (no_rows (length rows) long)
counters_row number (key ∷ keys) [] long = absurd (omega (arith, long))
counters_row number (key ∷ keys) (row ∷ rows) long =
    row32 (text_at key) (spellings.Choice (choices_at (choice_of (codes "none") 0xFFFFFFFF ∷ []))) (counters_by keys) (number row) (bytes_by number rows)
    ∙ counters_row number keys rows (one_fewer (length rows) (length keys) long)

pub counters_numbers : {R : Type 0} (number : R → ℕ) (keys : List (List ℕ)) (rows : List R) → length rows ≡ length keys → AllByRecursion (λ row. number row < 2 ^ 32) rows → numbers_in (counters_by keys) (bytes_by number rows) ≡ map number rows
unfolding numbers_in be32_at be32_bytes
counters_numbers number [] [] long small = refl
counters_numbers number [] (row ∷ rows) long small = absurd (no_rows (length rows) long)
counters_numbers number (key ∷ keys) [] long small = absurd (omega (arith, long))
counters_numbers number (key ∷ keys) (row ∷ rows) long small =
    ap₂ (λ (n : ℕ) (ns : List ℕ). n ∷ ns) (whole32 (number row) small.0) (counters_numbers number keys rows (one_fewer (length rows) (length keys) long) small.1)

pub counters_small : {R : Type 0} (number : R → ℕ) (rows : List R) → AllByRecursion (λ b. b < 256) (bytes_by number rows)
counters_small number [] = tt
counters_small number (row ∷ rows) = all_append (λ b. b < 256) (be32_bytes (number row)) (bytes_by number rows) (bytes32 (number row)) (counters_small number rows)

pub counters_long : {R : Type 0} (number : R → ℕ) (rows : List R) → length (bytes_by number rows) ≡ 4 * length rows
unfolding be32_bytes
counters_long number [] = refl
counters_long number (row ∷ rows) = let more = counters_long number rows in omega (arith, more)
