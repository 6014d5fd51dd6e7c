-- Lemmas on the numbers of rows.
use Rattle.std.proofs.Common.{◌≡◌, ℕ, ◌+◌, List, [], ◌∷◌, ◌++◌, length, drop, Option, Some, None, refl, ap, sym, ◌∙◌, arith}
use Rattle.std.specs.Prelude.{Result, Ok, Err, replicate, option_and_then}
use Rattle.std.proofs.lemmas.List.{length-replicate}
use Rattle.std.proofs.Math.Seq.{drop-append_seam}
use Rattle.packet_forms.specs.Crc.{crc_of}
use Rattle.packet_forms.specs.Numbers.{be16_at, be32_at, be16_bytes}
use Rattle.row_forms.specs.declared.field.Field.{Field}
use Rattle.row_forms.specs.declared.field.Field.TheVariants.{Value, Zeros, Check}
use Rattle.row_forms.specs.declared.field.Kind.{Kind}
use Rattle.row_forms.specs.declared.field.Kind.TheVariants.{Number, Name, Block, Expression}
use Rattle.row_forms.specs.declared.field.Spelling.{Spelling}
use Rattle.row_forms.specs.declared.field.Width.{Width}
use Rattle.row_forms.specs.declared.field.Width.TheVariants.{U8, U16, U32}
use Rattle.row_forms.specs.declared.fault.Reason.{Reason}
use Rattle.row_forms.specs.declared.fault.RowFault.{RowFault}
use Rattle.row_forms.specs.Numbers.{bytes_of, number_at, number_said}
use Rattle.row_forms.specs.Values.{value_said, width, reason_of}
use Rattle.row_forms.specs.Rows.{with_front, with_check, behind_key, value_or, keyed_said, field_said, then_said, row_said}
use Rattle.row_forms.specs.RowNumbers.{word_numbers, numbers_said, value_numbers, numbers_in}
use Rattle.row_forms.proofs.SizeLemmas.{said_number, field_size}

first_number : (w : Width) (value rest : List ℕ) → length value ≡ bytes_of w → number_at w (value ++ rest) ≡ number_at w value
unfolding be16_at be32_at
first_number U8 [] rest e = absurd (omega (arith, e))
first_number U8 (a ∷ value) rest e = refl
first_number U16 [] rest e = absurd (omega (arith, e))
first_number U16 (a ∷ []) rest e = absurd (omega (arith, e))
first_number U16 (a ∷ b ∷ value) rest e = refl
first_number U32 [] rest e = absurd (omega (arith, e))
first_number U32 (a ∷ []) rest e = absurd (omega (arith, e))
first_number U32 (a ∷ b ∷ []) rest e = absurd (omega (arith, e))
first_number U32 (a ∷ b ∷ c ∷ []) rest e = absurd (omega (arith, e))
first_number U32 (a ∷ b ∷ c ∷ d ∷ value) rest e = refl

drop_front : (n : ℕ) (front rest : List ℕ) → length front ≡ n → drop n (front ++ rest) ≡ rest
drop_front n front rest e = ap (λ (k : ℕ). drop k (front ++ rest)) (sym e) ∙ drop-append_seam front rest

by_value : (reason : Reason) (o : Option (List ℕ)) (value : List ℕ) → value_or reason o ≡ Ok value → o ≡ Some value
by_value reason None value e = absurd (cc)
by_value reason (Some bytes) value e = cc

keyed_number : (epoch : Option ℕ) (w : Width) (s : Spelling) (o : Option (List ℕ)) (value : List ℕ) → keyed_said epoch (Number w s) o ≡ Ok value → (option_and_then (number_said epoch w s) o ≡ Some (number_at w value)) × (length value ≡ bytes_of w)
keyed_number epoch w s None value e = absurd (cc)
keyed_number epoch w s (Some text) value e =
    let is = said_number epoch w s text value (by_value (reason_of (Number w s)) (value_said epoch (Number w s) text) value e) in
    (is.number, is.size)

field_number : (epoch : Option ℕ) (w : Width) (s : Spelling) (key word value : List ℕ) → field_said epoch key (Number w s) word ≡ Ok value → (option_and_then (number_said epoch w s) (behind_key key word) ≡ Some (number_at w value)) × (length value ≡ bytes_of w)
unfolding field_said
field_number epoch w s key word value e = keyed_number epoch w s (behind_key key word) value e

value_step : (epoch : Option ℕ) (key : List ℕ) (kind : Kind) (word value rest : List ℕ) (numbers : Option (List ℕ)) (fs : List Field) → field_said epoch key kind word ≡ Ok value → numbers ≡ Some (numbers_in fs rest) → word_numbers epoch key kind word numbers ≡ Some (value_numbers kind (value ++ rest) (numbers_in fs (drop (width kind (value ++ rest)) (value ++ rest))))
value_step epoch key (Number w s) word value rest numbers fs said behind =
    let is = field_number epoch w s key word value said in
    rw (is.0, behind, first_number w value rest is.1, drop_front (bytes_of w) value rest is.1) refl
value_step epoch key Name word value rest numbers fs said behind = rw (drop_front 20 value rest (field_size epoch key Name word value 20 refl said)) behind
value_step epoch key Block word value rest numbers fs said behind = refl
value_step epoch key (Expression words) word value rest numbers fs said behind = rw (drop_front 34 value rest (field_size epoch key (Expression words) word value 34 refl said)) behind

-- bytes that are said, as a front and what is said behind it
front_parts : (front bytes : List ℕ) (said : Result (List ℕ) RowFault) → with_front front said ≡ Ok bytes → (rest : List ℕ) × (said ≡ Ok rest) × (front ++ rest ≡ bytes)
front_parts front bytes (Ok rest) e = (rest, refl, cc)
front_parts front bytes (Err fault) e = absurd (cc)

pub then_parts : (n : ℕ) (bytes : List ℕ) (first : Result (List ℕ) Reason) (said : Result (List ℕ) RowFault) → then_said n first said ≡ Ok bytes → (value : List ℕ) × (rest : List ℕ) × (first ≡ Ok value) × (said ≡ Ok rest) × (value ++ rest ≡ bytes)
then_parts n bytes (Ok value) said e = let parts = front_parts value bytes said e in (value, parts.0, refl, parts.1, parts.2)
then_parts n bytes (Err reason) said e = absurd (cc)

pub check_parts : (bytes : List ℕ) (said : Result (List ℕ) RowFault) → with_check said ≡ Ok bytes → (rest : List ℕ) × (said ≡ Ok rest) × (be16_bytes (crc_of 0 rest) ++ rest ≡ bytes)
check_parts bytes (Ok rest) e = (rest, refl, cc)
check_parts bytes (Err fault) e = absurd (cc)

two_size : (n : ℕ) → length (be16_bytes n) ≡ 2
unfolding be16_bytes
two_size n = refl

-- the numbers that the words of a row say stand in its bytes
pub row_numbers : (epoch : Option ℕ) (n : ℕ) (fs : List Field) (ws : List (List ℕ)) (bytes : List ℕ) → row_said epoch n fs ws ≡ Ok bytes → numbers_said epoch fs ws ≡ Some (numbers_in fs bytes)
unfolding row_said numbers_said numbers_in
row_numbers epoch n [] ws bytes e = refl
row_numbers epoch n (Value key kind ∷ fs) [] bytes e = absurd (cc)
row_numbers epoch n (Value key kind ∷ fs) (w ∷ ws) bytes e =
    let parts = then_parts n bytes (field_said epoch key.now kind w) (row_said epoch (n + 1) fs ws) e in
    rw (← parts.4) (value_step epoch key.now kind w parts.0 parts.1 (numbers_said epoch fs ws) fs parts.2 (row_numbers epoch (n + 1) fs ws parts.1 parts.3))
row_numbers epoch n (Zeros count ∷ fs) [] bytes e =
    let parts = front_parts (replicate count 0) bytes (row_said epoch n fs []) e in
    row_numbers epoch n fs [] parts.0 parts.1 ∙ ap (λ (xs : List ℕ). Some (numbers_in fs xs)) (sym (drop_front count (replicate count 0) parts.0 (length-replicate count 0)) ∙ ap (drop count) parts.2)
row_numbers epoch n (Zeros count ∷ fs) (w ∷ ws) bytes e =
    let parts = front_parts (replicate count 0) bytes (row_said epoch n fs (w ∷ ws)) e in
    row_numbers epoch n fs (w ∷ ws) parts.0 parts.1 ∙ ap (λ (xs : List ℕ). Some (numbers_in fs xs)) (sym (drop_front count (replicate count 0) parts.0 (length-replicate count 0)) ∙ ap (drop count) parts.2)
row_numbers epoch n (Check ∷ fs) [] bytes e =
    let parts = check_parts bytes (row_said epoch n fs []) e in
    row_numbers epoch n fs [] parts.0 parts.1 ∙ ap (λ (xs : List ℕ). Some (numbers_in fs xs)) (sym (drop_front 2 (be16_bytes (crc_of 0 parts.0)) parts.0 (two_size (crc_of 0 parts.0))) ∙ ap (drop 2) parts.2)
row_numbers epoch n (Check ∷ fs) (w ∷ ws) bytes e =
    let parts = check_parts bytes (row_said epoch n fs (w ∷ ws)) e in
    row_numbers epoch n fs (w ∷ ws) parts.0 parts.1 ∙ ap (λ (xs : List ℕ). Some (numbers_in fs xs)) (sym (drop_front 2 (be16_bytes (crc_of 0 parts.0)) parts.0 (two_size (crc_of 0 parts.0))) ∙ ap (drop 2) parts.2)
