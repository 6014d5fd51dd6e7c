-- The payloads of tables, as their texts say them.
use Rattle.std.specs.Prelude.{◌≡◌, ℕ, ◌+◌, ◌*◌, Bool, false, if◌then◌else◌, List, [], ◌∷◌, ◌++◌, take, drop, codes, Result, Ok, Err}
use Rattle.std.specs.Str.{bytes_eq}
use Rattle.row_forms.specs.Rows.{with_front, row_said, row_shown}
use Rattle.row_forms.specs.declared.fault.RowFault.{RowFault}
use Rattle.table_texts.specs.declared.fault.LineFault.TheVariants as line_faults
use Rattle.table_texts.specs.declared.fault.TextFault.{TextFault}
use Rattle.table_texts.specs.declared.fault.TextError.{TextError}
use Rattle.table_texts.specs.declared.fault.TextError.TheVariants as text_errors
use Rattle.table_texts.specs.declared.layout.Layout.{Layout}
use Rattle.table_texts.specs.Lines.{Numbered}
use Rattle.table_texts.specs.Endings.{fault_on, behind_first}
use Rattle.table_texts.specs.Entries.{is_layout, entries_said}
use Rattle.table_texts.specs.Fronts.{is_front}
use Rattle.table_texts.specs.Sequences.{sequence_said, payload_shown}
use Rattle.table_texts.specs.Shown.{entries_shown}
use Rattle.table_forms.specs.declared.fault.TableFault.{TableFault}
use Rattle.table_forms.specs.declared.fault.TableFault.TheVariants as faults
use Rattle.table_forms.specs.declared.fault.ReadError.{ReadError}
use Rattle.table_forms.specs.declared.fault.ReadError.TheVariants as errors
use Rattle.table_forms.specs.declared.forms.TextForms.{TextForms}
use Rattle.table_forms.specs.declared.layouts.PayloadForm.{PayloadForm}
use Rattle.table_forms.specs.declared.layouts.PayloadForm.TheVariants.{Entries, Headed, Sequence}

-- a form by which texts can be read and shown
unfoldable pub is_form : PayloadForm → Bool
is_form (Entries l) = is_layout l
is_form (Headed l) = is_layout l
is_form (Sequence fs size) = is_front fs.now size

-- whether a line begins with a word
abbrev pub begins : List ℕ → List (List ℕ) → Bool
begins wanted [] = false
begins wanted (w ∷ ws) = bytes_eq w wanted

abbrev pub row_refused : ℕ → RowFault → TableFault
row_refused n fault = faults.Text (fault_on n (line_faults.Row fault))

abbrev pub row_error : ℕ → RowFault → ReadError
row_error n fault = errors.Fault (row_refused n fault)

abbrev pub text_error : TextError → ReadError
text_error (text_errors.Memory e) = errors.Memory e
text_error (text_errors.Text fault) = errors.Fault (faults.Text fault)

abbrev pub as_table : Result (List ℕ) TextFault → Result (List ℕ) TableFault
as_table (Ok bytes) = Ok bytes
as_table (Err fault) = Err (faults.Text fault)

-- what lines say as all entries of a table
abbrev pub entries_by : TextForms → Layout → ℕ → List Numbered → Result (List ℕ) TableFault
entries_by f l n lines = as_table (entries_said f.epoch f.commands.now l 0 n lines)

-- a head, and what is said behind it
abbrev pub head_then : ℕ → Result (List ℕ) RowFault → Result (List ℕ) TableFault → Result (List ℕ) TableFault
head_then n (Ok head) said = with_front head said
head_then n (Err fault) said = Err (row_refused n fault)

-- what lines say as a head and entries, of which the first would have number n
unfoldable pub headed_said : TextForms → Layout → ℕ → List Numbered → Result (List ℕ) TableFault
headed_said f l n [] = Err (faults.Head n)
headed_said f l n (line ∷ more) =
    if begins (codes "head") line.words
    then head_then line.number (row_said f.epoch 2 f.layouts.now.head.now (behind_first line.words)) (entries_by f l (line.number + 1) more)
    else Err (faults.Head line.number)

-- the payload that lines say
abbrev pub payload_said : TextForms → PayloadForm → ℕ → List Numbered → Result (List ℕ) TableFault
payload_said f (Entries l) n lines = entries_by f l n lines
payload_said f (Headed l) n lines = headed_said f l n lines
payload_said f (Sequence fs size) n lines = as_table (sequence_said f.epoch f.commands.now fs.now n lines)

-- the lines of a payload
abbrev pub payload_text : TextForms → PayloadForm → List ℕ → List ℕ
payload_text f (Entries l) payload = entries_shown f.commands.now l l.count 1 payload
payload_text f (Headed l) payload =
    (codes "head" ++ row_shown f.layouts.now.head.now (take 4 payload)) ++ 10 ∷ entries_shown f.commands.now l l.count 1 (drop 4 payload)
payload_text f (Sequence fs size) payload = payload_shown f.commands.now fs.now size payload

-- what is said are the new bytes; a fault is told only where there is one; and memory may end
abbrev pub GivesTable : Result (List ℕ) TableFault → List ℕ → Result (Unit {0}) ReadError → Type 0
GivesTable said new (Ok done) = said ≡ Ok new
GivesTable said new (Err (errors.Memory e)) = Unit {0}
GivesTable said new (Err (errors.Fault fault)) = said ≡ Err fault

-- how many bytes a payload of a form has
abbrev pub FitsForm : PayloadForm → ℕ → Type 0
FitsForm (Entries l) size = size ≡ l.count * l.size
FitsForm (Headed l) size = size ≡ 4 + l.count * l.size
FitsForm (Sequence fs n) size = Unit {0}
