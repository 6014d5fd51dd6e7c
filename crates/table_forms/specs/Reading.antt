-- Files of tables, as their texts say them.
use Rattle.std.specs.Prelude.{◌≡◌, ℕ, ◌+◌, if◌then◌else◌, List, [], ◌∷◌, ◌++◌, drop, codes, Option, Some, None, Result, Ok, Err}
use Rattle.std.proofs.Common.{Vec, Global}
use Rattle.row_forms.specs.Words.{words}
use Rattle.table_files.specs.declared.kinds.TableKind.{TableKind}
use Rattle.table_texts.specs.Lines.{Numbered, kept_of}
use Rattle.table_texts.specs.Endings.{behind_first}
use Rattle.table_forms.specs.declared.fault.TableFault.{TableFault}
use Rattle.table_forms.specs.declared.fault.TableFault.TheVariants as faults
use Rattle.table_forms.specs.declared.fault.ReadError.{ReadError}
use Rattle.table_forms.specs.declared.fault.ReadError.TheVariants as errors
use Rattle.table_forms.specs.declared.forms.TextForms.{TextForms}
use Rattle.table_forms.specs.declared.reading.FirstLine.{FirstLine}
use Rattle.table_forms.specs.Headers.{header_said, header_of, header_shown, table_file}
use Rattle.table_forms.specs.Judging.{judged, IsTaken}
use Rattle.table_forms.specs.Layouts.{form_of}
use Rattle.table_forms.specs.Names.{name_of, kind_said}
use Rattle.table_forms.specs.Payloads.{begins, payload_said, payload_text}

-- the first line of a table's text: the table's kind, the line's number, the words behind the name, and the lines behind it
pub record First : Type 0 where
  pub kind : TableKind
  pub number : ℕ
  pub words : List (List ℕ)
  pub more : List Numbered

abbrev pub kind_first : ℕ → Option TableKind → List (List ℕ) → List Numbered → Result First TableFault
kind_first n None ws more = Err (faults.Name n)
kind_first n (Some kind) ws more = Ok (record { kind = kind; number = n; words = ws; more = more })

abbrev pub named_first : ℕ → List (List ℕ) → List Numbered → Result First TableFault
named_first n [] more = Err (faults.Name n)
named_first n (w ∷ ws) more = kind_first n (kind_said w) ws more

-- what the first line says
unfoldable pub first_said : List Numbered → Result First TableFault
first_said [] = Err (faults.Table 1)
first_said (line ∷ more) = if begins (codes "table") line.words then named_first line.number (behind_first line.words) more else Err (faults.Table line.number)

-- the file of a header and a payload
abbrev pub filed : TableKind → Result (List ℕ) TableFault → Result (List ℕ) TableFault → Result (List ℕ) TableFault
filed kind (Ok row) (Ok payload) = Ok (table_file kind row payload)
filed kind (Ok row) (Err fault) = Err fault
filed kind (Err fault) said = Err fault

abbrev pub first_filed : TextForms → Result First TableFault → Result (List ℕ) TableFault
first_filed f (Err fault) = Err fault
first_filed f (Ok first) =
    filed first.kind (header_said f.layouts.now.header.now first.number first.words)
    (payload_said f (form_of f.layouts.now first.kind) (first.number + 1) first.more)

-- the file that a table's text says, taken or not
abbrev pub file_said : TextForms → List ℕ → Result (List ℕ) TableFault
file_said f text = first_filed f (first_said (kept_of 1 text))

-- the file that a table's text says, where it is taken
abbrev pub table_said : TextForms → List ℕ → Result (List ℕ) TableFault
table_said f text = judged (file_said f text)

-- the first line of a table's text
abbrev pub first_line : TextForms → TableKind → List ℕ → List ℕ
first_line f kind file = (codes "table " ++ (name_of kind ++ header_shown f.layouts.now.header.now (header_of (drop 8 file)))) ++ 10 ∷ []

-- the text of a table's file
abbrev pub file_text : TextForms → TableKind → List ℕ → List ℕ
file_text f kind file = first_line f kind file ++ payload_text f (form_of f.layouts.now kind) (drop 116 file)

-- ---- what the code gives

abbrev pub first_of : FirstLine → First
first_of line = record { kind = line.kind; number = line.number; words = words line.words.now; more = kept_of (line.number + 1) line.rest.now }

abbrev pub GivesFirst : Result First TableFault → Result FirstLine TableFault → Type 0
GivesFirst said (Ok line) = said ≡ Ok (first_of line)
GivesFirst said (Err fault) = said ≡ Err fault

-- the file is what is said; a fault is told only where there is one; and memory may end
abbrev pub GivesFile : Result (List ℕ) TableFault → Result (Vec ℕ Global) ReadError → Type 0
GivesFile said (Ok file) = said ≡ Ok file.items
GivesFile said (Err (errors.Memory e)) = Unit {0}
GivesFile said (Err (errors.Fault fault)) = said ≡ Err fault

-- a file that is taken as the table that the text's first line names
abbrev pub IsTakenAs : Result First TableFault → List ℕ → Type 0
IsTakenAs (Ok first) file = IsTaken file first.kind
IsTakenAs (Err fault) file = ⊥
