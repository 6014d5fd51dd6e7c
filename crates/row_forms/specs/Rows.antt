-- Rows: what the words of a line say in bytes, and the words that bytes have.
use Rattle.std.specs.Prelude.{◌≡◌, ℕ, ◌+◌, ◌==◌, Bool, true, false, ◌&&◌, if◌then◌else◌, nat_lt, nat_le, nat_eq, List, [], ◌∷◌, ◌++◌, length, take, drop, replicate, slice_index, Option, Some, None, Result, Ok, Err}
use Rattle.std.specs.List.{list_all, starts_with}
use Rattle.packet_forms.specs.Crc.{crc_of}
use Rattle.packet_forms.specs.Numbers.{be16_at, be16_bytes}
use Rattle.row_forms.specs.declared.field.Field.{Field}
use Rattle.row_forms.specs.declared.field.Field.TheVariants.{Value, Zeros, Check}
use Rattle.row_forms.specs.declared.field.Kind.{Kind}
use Rattle.row_forms.specs.declared.fault.Reason.{Reason}
use Rattle.row_forms.specs.declared.fault.Reason.TheVariants as reasons
use Rattle.row_forms.specs.declared.fault.RowFault.{RowFault}
use Rattle.row_forms.specs.declared.fault.ReadError.{ReadError}
use Rattle.row_forms.specs.declared.fault.ReadError.TheVariants as errors
use Rattle.row_forms.specs.declared.fault.Refusal.{Refusal}
use Rattle.row_forms.specs.declared.fault.Refusal.TheVariants as refusals
use Rattle.row_forms.specs.Values.{value_said, width, can_show, value_shown, reason_of, is_kind, fixed_size}

-- bytes in front of bytes that are said
abbrev pub with_front : {E : Type 0} → List ℕ → Result (List ℕ) E → Result (List ℕ) E
with_front front (Ok bytes) = Ok (front ++ bytes)
with_front front (Err e) = Err e

-- the check of bytes that are said, in front of them
abbrev pub with_check : {E : Type 0} → Result (List ℕ) E → Result (List ℕ) E
with_check (Ok bytes) = Ok (be16_bytes (crc_of 0 bytes) ++ bytes)
with_check (Err e) = Err e

abbrev pub fault_at : ℕ → Reason → RowFault
fault_at n reason = record { word = n; reason = reason }

-- what comes behind `KEY=`
unfoldable pub behind_key : List ℕ → List ℕ → Option (List ℕ)
behind_key key word =
    if starts_with nat_eq word key && (slice_index word (length key) == 61) then Some (drop (length key + 1) word) else None

abbrev pub value_or : Reason → Option (List ℕ) → Result (List ℕ) Reason
value_or reason (Some bytes) = Ok bytes
value_or reason None = Err reason

abbrev pub keyed_said : Option ℕ → Kind → Option (List ℕ) → Result (List ℕ) Reason
keyed_said epoch kind (Some text) = value_or (reason_of kind) (value_said epoch kind text)
keyed_said epoch kind None = Err reasons.Key

-- the bytes of a field that a word says
unfoldable pub field_said : Option ℕ → List ℕ → Kind → List ℕ → Result (List ℕ) Reason
field_said epoch key kind word = keyed_said epoch kind (behind_key key word)

-- what the n-th word says, and behind it what the others say
abbrev pub then_said : ℕ → Result (List ℕ) Reason → Result (List ℕ) RowFault → Result (List ℕ) RowFault
then_said n (Ok bytes) said = with_front bytes said
then_said n (Err reason) said = Err (fault_at n reason)

abbrev pub end_said : ℕ → List (List ℕ) → Result (List ℕ) RowFault
end_said n [] = Ok []
end_said n (word ∷ more) = Err (fault_at n reasons.Extra)

-- the bytes that the words of a row say, the first being word n
unfoldable pub row_said : Option ℕ → ℕ → List Field → List (List ℕ) → Result (List ℕ) RowFault
row_said epoch n [] ws = end_said n ws
row_said epoch n (Value key kind ∷ fs) [] = Err (fault_at n reasons.Missing)
row_said epoch n (Value key kind ∷ fs) (w ∷ ws) = then_said n (field_said epoch key.now kind w) (row_said epoch (n + 1) fs ws)
row_said epoch n (Zeros count ∷ fs) ws = with_front (replicate count 0) (row_said epoch n fs ws)
row_said epoch n (Check ∷ fs) ws = with_check (row_said epoch n fs ws)

-- a word of a row
abbrev pub word_shown : List ℕ → List ℕ → List ℕ
word_shown key text = key ++ (61 ∷ text)

-- the words of a row's bytes
unfoldable pub row_words : List Field → List ℕ → List (List ℕ)
row_words [] bytes = []
row_words (Value key kind ∷ fs) bytes =
    word_shown key.now (value_shown kind (take (width kind bytes) bytes)) ∷ row_words fs (drop (width kind bytes) bytes)
row_words (Zeros count ∷ fs) bytes = row_words fs (drop count bytes)
row_words (Check ∷ fs) bytes = row_words fs (drop 2 bytes)

-- words, each with a space in front: so a row stands behind other words of a line
unfoldable pub spaced : List (List ℕ) → List ℕ
spaced [] = []
spaced (w ∷ ws) = 32 ∷ (w ++ spaced ws)

abbrev pub row_shown : List Field → List ℕ → List ℕ
row_shown fs bytes = spaced (row_words fs bytes)

-- whether the words of a row can say these bytes
unfoldable pub is_row : List Field → List ℕ → Bool
is_row [] bytes = length bytes == 0
is_row (Value key kind ∷ fs) bytes =
    nat_le (width kind bytes) (length bytes) && can_show kind (take (width kind bytes) bytes) && is_row fs (drop (width kind bytes) bytes)
is_row (Zeros count ∷ fs) bytes = nat_le count (length bytes) && list_all (λ b. b == 0) (take count bytes) && is_row fs (drop count bytes)
is_row (Check ∷ fs) bytes = nat_le 2 (length bytes) && (be16_at bytes 0 == crc_of 0 (drop 2 bytes)) && is_row fs (drop 2 bytes)

-- a field whose key has no spaces, and whose choices can be told apart
abbrev pub is_field : Field → Bool
is_field (Value key kind) = list_all (nat_lt 32) key.now && is_kind kind
is_field (Zeros count) = true
is_field Check = true

abbrev pub are_fields : List Field → Bool
are_fields fs = list_all is_field fs

-- what is said are the new bytes; a fault is told only where there is one; and memory may end
abbrev pub Gives : Result (List ℕ) RowFault → List ℕ → Result (Unit {0}) ReadError → Type 0
Gives said new (Ok done) = said ≡ Ok new
Gives said new (Err (errors.Memory e)) = Unit {0}
Gives said new (Err (errors.Row fault)) = said ≡ Err fault

-- of one field: what is said are the new bytes, and a reason is told only where the word says nothing
abbrev pub GivesField : Result (List ℕ) Reason → List ℕ → Result (Unit {0}) Refusal → Type 0
GivesField said new (Ok done) = said ≡ Ok new
GivesField said new (Err (refusals.Memory e)) = Unit {0}
GivesField said new (Err (refusals.Because reason)) = said ≡ Err reason

-- a value, where the text says one, behind what was there
abbrev pub GivesValue : Option (List ℕ) → List ℕ → List ℕ → Bool → Type 0
GivesValue (Some bytes) old new is_said = (is_said ≡ true) × (new ≡ old ++ bytes)
GivesValue None old new is_said = is_said ≡ false

-- why the n-th word wasn't read
abbrev pub error_at : ℕ → Refusal → ReadError
error_at n (refusals.Memory e) = errors.Memory e
error_at n (refusals.Because reason) = errors.Row (fault_at n reason)

abbrev pub plus_size : Option ℕ → Option ℕ → Option ℕ
plus_size (Some m) (Some n) = Some (m + n)
plus_size m n = None

-- how many bytes a row says, where no field is all that is left
unfoldable pub row_size : List Field → Option ℕ
row_size [] = Some 0
row_size (Value key kind ∷ fs) = plus_size (fixed_size kind) (row_size fs)
row_size (Zeros count ∷ fs) = plus_size (Some count) (row_size fs)
row_size (Check ∷ fs) = plus_size (Some 2) (row_size fs)
