-- The entries of a table's text, and the bytes that they are.
use Rattle.std.specs.Prelude.{◌≡◌, ℕ, ◌+◌, ◌-◌, ◌*◌, ◌==◌, Bool, ◌&&◌, if◌then◌else◌, nat_lt, nat_le, List, [], ◌∷◌, ◌++◌, length, replicate, codes, Option, Some, None, Result, Ok, Err}
use Rattle.std.specs.Str.{bytes_eq}
use Rattle.row_forms.specs.Words.{hex_said, number}
use Rattle.row_forms.specs.Rows.{with_front, row_said, row_size, are_fields}
use Rattle.row_forms.specs.declared.fault.Reason.TheVariants as reasons
use Rattle.row_forms.specs.declared.fault.RowFault.{RowFault}
use Rattle.telecommands.specs.declared.command.Command.{Command}
use Rattle.table_texts.specs.declared.fault.LineFault.{LineFault}
use Rattle.table_texts.specs.declared.fault.LineFault.TheVariants as faults
use Rattle.table_texts.specs.declared.fault.TextFault.{TextFault}
use Rattle.table_texts.specs.declared.fault.LineError.{LineError}
use Rattle.table_texts.specs.declared.fault.LineError.TheVariants as line_errors
use Rattle.table_texts.specs.declared.layout.Layout.{Layout}
use Rattle.table_texts.specs.declared.layout.TableForm.{TableForm}
use Rattle.table_texts.specs.Lines.{Numbered}
use Rattle.table_texts.specs.Endings.{row_fault, fault_on, ended, is_end, behind_first}
use Rattle.table_texts.specs.Fronts.{has_size, is_front, front_said, behind_front}

-- fields that have as many bytes as an entry, or as many as stand in front of its area for a telecommand
abbrev pub fits : Layout → Bool
fits l = if l.area == 0 then has_size (row_size l.fields.now) l.size else nat_le l.area l.size && is_front l.fields.now (l.size - l.area)

-- a layout whose entries have numbers of two bytes
unfoldable pub is_layout : Layout → Bool
is_layout l =
    nat_lt 0 l.count && nat_lt l.count 65536 && nat_lt 0 l.size && nat_lt l.size 65536 && nat_lt (length l.fields.now) 65536
    && are_fields l.fields.now && fits l

-- an entry by its number, with the bytes of all entries from the one behind another on
pub record Placed : Type 0 where
  pub number : ℕ
  pub bytes : List ℕ

-- zero bytes for the entries between two others, and then an entry
abbrev pub behind_gap : Layout → ℕ → ℕ → List ℕ → List ℕ
behind_gap l place k bytes = replicate ((k - 1 - place) * l.size) 0 ++ bytes

abbrev pub as_row : Result (List ℕ) RowFault → Result (List ℕ) LineFault
as_row (Ok bytes) = Ok bytes
as_row (Err fault) = Err (faults.Row fault)

-- the bytes of a telecommand and its fields, with zero bytes up to the size of an entry
abbrev pub padded : Layout → Result (List ℕ) LineFault → Result (List ℕ) LineFault
padded l (Ok bytes) = if nat_le (length bytes) l.size then Ok (bytes ++ replicate (l.size - length bytes) 0) else Err faults.Long
padded l (Err fault) = Err fault

-- the bytes that the words of an entry say, behind its number
unfoldable pub values_said : Option ℕ → List Command → Layout → List (List ℕ) → Result (List ℕ) LineFault
values_said epoch cs l ws =
    if l.area == 0 then as_row (row_said epoch 2 l.fields.now ws)
    else padded l (behind_front epoch cs (length l.fields.now + 2) (front_said epoch 2 l.fields.now ws))

abbrev pub row_placed : Layout → ℕ → ℕ → Result (List ℕ) LineFault → Result Placed LineFault
row_placed l place k (Ok bytes) = Ok (record { number = k; bytes = behind_gap l place k bytes })
row_placed l place k (Err fault) = Err fault

-- bytes that are one entry's
abbrev pub sized : Layout → ℕ → ℕ → Option (List ℕ) → Result Placed LineFault
sized l place k None = Err (row_fault 3 reasons.Block)
sized l place k (Some bytes) =
    if length bytes == l.size then Ok (record { number = k; bytes = behind_gap l place k bytes }) else Err faults.Size

abbrev pub block_placed : Layout → ℕ → ℕ → List (List ℕ) → Result Placed LineFault
block_placed l place k [] = Err (row_fault 3 reasons.Missing)
block_placed l place k (w ∷ []) = sized l place k (hex_said w)
block_placed l place k (w ∷ v ∷ ws) = Err (row_fault 4 reasons.Extra)

-- the number of an entry, which comes behind entry `place`
abbrev pub number_said : Layout → ℕ → Option ℕ → Result ℕ LineFault
number_said l place None = Err faults.Entry
number_said l place (Some k) =
    if nat_lt 0 k && nat_le k l.count then (if nat_lt place k then Ok k else Err faults.Order) else Err faults.Entry

abbrev pub at_row : Option ℕ → List Command → Layout → ℕ → Result ℕ LineFault → List (List ℕ) → Result Placed LineFault
at_row epoch cs l place (Err fault) ws = Err fault
at_row epoch cs l place (Ok k) ws = row_placed l place k (values_said epoch cs l ws)

abbrev pub at_block : Layout → ℕ → Result ℕ LineFault → List (List ℕ) → Result Placed LineFault
at_block l place (Err fault) ws = Err fault
at_block l place (Ok k) ws = block_placed l place k ws

abbrev pub raw_said : Layout → ℕ → List (List ℕ) → Result Placed LineFault
raw_said l place [] = Err (row_fault 2 reasons.Missing)
raw_said l place (w ∷ ws) = at_block l place (number_said l place (number 65535 w)) ws

-- what a line says: an entry's number and its values, or `raw`, the number and all bytes of the entry
unfoldable pub entry_said : Option ℕ → List Command → Layout → ℕ → List (List ℕ) → Result Placed LineFault
entry_said epoch cs l place [] = Err faults.Entry
entry_said epoch cs l place (w ∷ ws) =
    if bytes_eq w (codes "raw") then raw_said l place ws else at_row epoch cs l place (number_said l place (number 65535 w)) ws

-- the entries behind entry `place` that no line says
abbrev pub left_out : Layout → ℕ → List ℕ
left_out l place = replicate ((l.count - place) * l.size) 0

-- an entry, and what the lines behind it say
abbrev pub then_entries : ℕ → Result Placed LineFault → (ℕ → Result (List ℕ) TextFault) → Result (List ℕ) TextFault
then_entries n (Ok placed) next = with_front placed.bytes (next placed.number)
then_entries n (Err fault) next = Err (fault_on n fault)

-- the bytes of all entries behind entry `place`, from lines of which the first would have number n
unfoldable pub entries_said : Option ℕ → List Command → Layout → ℕ → ℕ → List Numbered → Result (List ℕ) TextFault
entries_said epoch cs l place n [] = Err (fault_on n faults.End)
entries_said epoch cs l place n (line ∷ more) =
    if is_end line.words then ended (left_out l place) line.number (behind_first line.words) more
    else then_entries line.number (entry_said epoch cs l place line.words) (λ k. entries_said epoch cs l k (line.number + 1) more)

-- an entry whose bytes stand behind others
abbrev pub placed_behind : List ℕ → Result Placed LineFault → Result Placed LineFault
placed_behind front (Ok placed) = Ok (record { number = placed.number; bytes = front ++ placed.bytes })
placed_behind front (Err fault) = Err fault

-- of one line: the new bytes, and the number of its entry
abbrev pub GivesEntry : Result Placed LineFault → List ℕ → Result ℕ LineError → Type 0
GivesEntry said new (Ok k) = said ≡ Ok (record { number = k; bytes = new })
GivesEntry said new (Err (line_errors.Memory e)) = Unit {0}
GivesEntry said new (Err (line_errors.Fault fault)) = said ≡ Err fault

-- what a table's lines say by a form
abbrev pub table_said : TableForm → ℕ → ℕ → List Numbered → Result (List ℕ) TextFault
table_said f place n lines = entries_said f.epoch f.commands.now f.layout place n lines
