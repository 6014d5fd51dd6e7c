-- The headers of a file: the words of what nothing is asked of, and the bytes of all.
use Rattle.std.specs.Prelude.{ℕ, ◌==◌, if◌then◌else◌, List, [], ◌∷◌, ◌++◌, length, take, drop, replicate, None, Result, Ok, Err}
use Rattle.std.specs.List.{list_all}
use Rattle.packet_forms.specs.Numbers.{be32_bytes}
use Rattle.row_forms.specs.declared.field.Field.{Field}
use Rattle.row_forms.specs.declared.fault.RowFault.{RowFault}
use Rattle.row_forms.specs.Rows.{row_said, row_shown}
use Rattle.table_files.specs.declared.kinds.TableKind.{TableKind}
use Rattle.table_forms.specs.declared.fault.TableFault.{TableFault}
use Rattle.table_forms.specs.declared.fault.TableFault.TheVariants as faults
use Rattle.table_forms.specs.Names.{name_field}
use Rattle.table_forms.specs.Payloads.{row_refused}

-- a row that has all 60 bytes
abbrev pub whole_header : ℕ → Result (List ℕ) RowFault → Result (List ℕ) TableFault
whole_header n (Ok row) = if length row == 60 then Ok row else Err (faults.Description n)
whole_header n (Err fault) = Err (row_refused n fault)

-- what the words of line n say from the third one on: zero bytes where there are none, and else a row
unfoldable pub header_said : List Field → ℕ → List (List ℕ) → Result (List ℕ) TableFault
header_said fs n [] = Ok (replicate 60 0)
header_said fs n (w ∷ ws) = whole_header n (row_said None 3 fs (w ∷ ws))

-- the bytes of a header as they stand in a file: behind its six numbers the description, and then the last number
abbrev pub in_file : List ℕ → List ℕ
in_file row = take 24 row ++ (drop 28 row ++ take 4 (drop 24 row))

-- the bytes of a header, from those behind a file's content type and subtype
abbrev pub header_of : List ℕ → List ℕ
header_of bytes = take 24 bytes ++ (take 4 (drop 56 bytes) ++ take 32 (drop 24 bytes))

-- the words of a header, each with a space in front, where it isn't zero
abbrev pub header_shown : List Field → List ℕ → List ℕ
header_shown fs row = if list_all (λ b. b == 0) row then [] else row_shown fs row

-- a table's file: content type and subtype, the header, the offset, how many bytes the payload has, the name, and the payload
abbrev pub table_file : TableKind → List ℕ → List ℕ → List ℕ
table_file kind row payload =
    0x63 ∷ 0x46 ∷ 0x45 ∷ 0x31 ∷ 0 ∷ 0 ∷ 0 ∷ 8 ∷ (in_file row ++ (0 ∷ 0 ∷ 0 ∷ 0 ∷ (be32_bytes (length payload) ++ (name_field kind ++ payload))))
