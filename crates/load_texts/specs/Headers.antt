-- The words of what nothing is asked of in a file's headers: fields as data, and what they say.
use Rattle.std.specs.Prelude.{ℕ, ◌-◌, ◌==◌, Bool, false, ◌&&◌, nat_le, nat_lt, if◌then◌else◌, List, [], ◌∷◌, length, codes, replicate, None, Result, Ok, Err}
use Rattle.std.specs.List.{list_all}
use Rattle.std.specs.Str.{bytes_eq}
use Rattle.row_forms.specs.declared.field.Field.{Field}
use Rattle.row_forms.specs.declared.field.Field.TheVariants.{Value, Zeros, Check}
use Rattle.row_forms.specs.declared.field.Kind.TheVariants.{Number, Name, Block, Expression}
use Rattle.row_forms.specs.declared.field.Spelling.TheVariants as spellings
use Rattle.row_forms.specs.declared.field.Width.TheVariants.{U32}
use Rattle.row_forms.specs.declared.fault.RowFault.{RowFault}
use Rattle.row_forms.specs.Numbers.{bytes_of}
use Rattle.row_forms.specs.Rows.{row_said, row_shown, are_fields}
use Rattle.row_forms.specs.Worked.{text_at, field}
use Rattle.table_texts.specs.declared.fault.LineFault.{LineFault}
use Rattle.table_texts.specs.declared.fault.LineFault.TheVariants as line_faults
use Rattle.table_texts.specs.Endings.{fault_on}
use Rattle.load_texts.specs.declared.fault.LoadFault.{LoadFault}
use Rattle.load_texts.specs.declared.fault.LoadFault.TheVariants as faults
use Rattle.load_texts.specs.declared.fault.ReadError.{ReadError}
use Rattle.load_texts.specs.declared.fault.ReadError.TheVariants as errors

-- a fault of line n
abbrev pub line_refused : ℕ → LineFault → LoadFault
line_refused n fault = faults.Text (fault_on n fault)

abbrev pub line_error : ℕ → LineFault → ReadError
line_error n fault = errors.Fault (line_refused n fault)

-- whether a line begins with a word
abbrev pub begins : List ℕ → List (List ℕ) → Bool
begins wanted [] = false
begins wanted (w ∷ ws) = bytes_eq w wanted

-- whether all bytes, so many, are a row of these fields
unfoldable pub shows_all : List Field → ℕ → Bool
shows_all [] size = size == 0
shows_all (Value key (Number w s) ∷ fs) size = nat_le (bytes_of w) size && shows_all fs (size - bytes_of w)
shows_all (Value key Name ∷ fs) size = false
shows_all (Value key Block ∷ fs) size = shows_all fs 0
shows_all (Value key (Expression words) ∷ fs) size = false
shows_all (Zeros count ∷ fs) size = false
shows_all (Check ∷ fs) size = false

-- fields of which any 60 bytes are a row
unfoldable pub is_header : List Field → Bool
is_header fs = nat_lt (length fs) 65536 && are_fields fs && shows_all fs 60

-- fields whose keys lie at one place
abbrev pub placed_field : Field → Field
placed_field (Value key kind) = Value (text_at key.now) kind
placed_field (Zeros count) = Zeros count
placed_field Check = Check

-- six numbers, the last number, and the description
unfoldable pub all_fields : List Field
all_fields =
    field (codes "length") (Number U32 spellings.Decimal) ∷ field (codes "spacecraft") (Number U32 spellings.Decimal) ∷ field (codes "processor") (Number U32 spellings.Decimal)
    ∷ field (codes "application") (Number U32 spellings.Decimal) ∷ field (codes "seconds") (Number U32 spellings.Decimal) ∷ field (codes "subseconds") (Number U32 spellings.Decimal)
    ∷ field (codes "reserved") (Number U32 spellings.Hex) ∷ field (codes "description") Block ∷ []

-- a row that has all 60 bytes
abbrev pub whole_header : ℕ → Result (List ℕ) RowFault → Result (List ℕ) LoadFault
whole_header n (Ok row) = if length row == 60 then Ok row else Err (faults.Description n)
whole_header n (Err fault) = Err (line_refused n (line_faults.Row fault))

-- what the words of line n say from the third one on: zero bytes where there are none, and else a row
unfoldable pub header_said : List Field → ℕ → List (List ℕ) → Result (List ℕ) LoadFault
header_said fs n [] = Ok (replicate 60 0)
header_said fs n (w ∷ ws) = whole_header n (row_said None 3 fs (w ∷ ws))

-- the words of a header, each with a space in front, where it isn't zero
abbrev pub header_shown : List Field → List ℕ → List ℕ
header_shown fs row = if list_all (λ b. b == 0) row then [] else row_shown fs row
