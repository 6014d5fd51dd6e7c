-- The bytes to be loaded, as the lines of a text say them.
use Rattle.std.specs.Prelude.{◌≡◌, ℕ, zero, suc, ◌+◌, ◌==◌, if◌then◌else◌, List, [], ◌∷◌, ◌++◌, length, take, drop, codes, Option, Some, None, Result, Ok, Err}
use Rattle.packet_forms.specs.Hex.{hex}
use Rattle.row_forms.specs.declared.fault.Reason.TheVariants as reasons
use Rattle.row_forms.specs.Rows.{with_front, behind_key}
use Rattle.table_texts.specs.declared.fault.LineFault.{LineFault}
use Rattle.table_texts.specs.declared.fault.LineFault.TheVariants as line_faults
use Rattle.table_texts.specs.declared.fault.TextFault.{TextFault}
use Rattle.table_texts.specs.Lines.{Numbered, kept_of}
use Rattle.table_texts.specs.Endings.{row_fault, ended, behind_first}
use Rattle.table_texts.specs.Sequences.{bytes_said}
use Rattle.load_texts.specs.declared.fault.LoadFault.{LoadFault}
use Rattle.load_texts.specs.declared.fault.LoadFault.TheVariants as faults
use Rattle.load_texts.specs.declared.fault.ReadError.{ReadError}
use Rattle.load_texts.specs.declared.fault.ReadError.TheVariants as errors
use Rattle.load_texts.specs.declared.loaded.NamedFile.{NamedFile}
use Rattle.load_texts.specs.Headers.{line_refused, begins}

abbrev pub as_load : Result (List ℕ) TextFault → Result (List ℕ) LoadFault
as_load (Ok bytes) = Ok bytes
as_load (Err fault) = Err (faults.Text fault)

abbrev pub on_line : ℕ → Result (List ℕ) LineFault → Result (List ℕ) LoadFault
on_line n (Ok bytes) = Ok bytes
on_line n (Err fault) = Err (line_refused n fault)

-- what line n says: `bytes` and hexadecimal digits
unfoldable pub line_said : ℕ → List (List ℕ) → Result (List ℕ) LoadFault
line_said n ws = if begins (codes "bytes") ws then on_line n (bytes_said (behind_first ws)) else Err (faults.Word n)

-- the bytes of a line, and behind them what the others say
abbrev pub then_loaded : Result (List ℕ) LoadFault → Result (List ℕ) LoadFault → Result (List ℕ) LoadFault
then_loaded (Ok bytes) said = with_front bytes said
then_loaded (Err fault) said = Err fault

-- the bytes that lines say up to `end`, of which the first would have number n
unfoldable pub loaded_said : ℕ → List Numbered → Result (List ℕ) LoadFault
loaded_said n [] = Err (line_refused n line_faults.End)
loaded_said n (line ∷ more) =
    if begins (codes "end") line.words then as_load (ended [] line.number (behind_first line.words) more)
    else then_loaded (line_said line.number line.words) (loaded_said (line.number + 1) more)

-- the name of a file that a line asks for, by a word `file=PATH`
abbrev pub path_said : List (List ℕ) → Option (List ℕ)
path_said [] = None
path_said (w ∷ ws) = behind_key (codes "file") w

-- the file that a text asks for in its second line
pub record Named : Type 0 where
  pub line : ℕ
  pub path : List ℕ

abbrev pub named_on : ℕ → Option (List ℕ) → Option Named
named_on n None = None
named_on n (Some path) = Some (record { line = n; path = path })

-- the first line, where it asks for a file
abbrev pub named_first : List Numbered → Option Named
named_first [] = None
named_first (line ∷ more) = named_on line.number (path_said line.words)

abbrev pub named_behind : List Numbered → Option Named
named_behind [] = None
named_behind (line ∷ more) = named_first more

-- the file that a text asks for
unfoldable pub file_asked : List ℕ → Option Named
file_asked text = named_behind (kept_of 1 text)

-- the bytes of the file that was asked for, and behind them what the other lines say
abbrev pub behind_named : List ℕ → ℕ → List (List ℕ) → List Numbered → Result (List ℕ) LoadFault
behind_named named n [] more = with_front named (loaded_said (n + 1) more)
behind_named named n (w ∷ ws) more = Err (line_refused n (row_fault 2 reasons.Extra))

abbrev pub by_path : List ℕ → Option (List ℕ) → ℕ → Numbered → List Numbered → Result (List ℕ) LoadFault
by_path named None n line more = loaded_said n (line ∷ more)
by_path named (Some path) n line more = behind_named named line.number (behind_first line.words) more

-- the bytes that lines say, where the first line may ask for a file, which has the bytes `named`
unfoldable pub body_said : List ℕ → ℕ → List Numbered → Result (List ℕ) LoadFault
body_said named n [] = loaded_said n []
body_said named n (line ∷ more) = by_path named (path_said line.words) n line more

-- a line of bytes
abbrev pub loaded_line : List ℕ → List ℕ
loaded_line bytes = (codes "bytes " ++ hex bytes) ++ 10 ∷ []

-- lines of at most 32 bytes each, and `end`, where `fuel` is at least the number of bytes
unfoldable pub loaded_shown : ℕ → List ℕ → List ℕ
loaded_shown zero bytes = codes "end" ++ 10 ∷ []
loaded_shown (suc fuel) bytes =
    if length bytes == 0 then codes "end" ++ 10 ∷ [] else loaded_line (take 32 bytes) ++ loaded_shown fuel (drop 32 bytes)

-- the lines of bytes to be loaded
abbrev pub loaded_text : List ℕ → List ℕ
loaded_text bytes = loaded_shown (length bytes) bytes

-- ---- what the code gives

abbrev pub named_by : NamedFile → Named
named_by file = record { line = file.line; path = file.path.now }

-- what is said are the new bytes; a fault is told only where there is one; and memory may end
abbrev pub GivesLoaded : Result (List ℕ) LoadFault → List ℕ → Result (Unit {0}) ReadError → Type 0
GivesLoaded said new (Ok done) = said ≡ Ok new
GivesLoaded said new (Err (errors.Memory e)) = Unit {0}
GivesLoaded said new (Err (errors.Fault fault)) = said ≡ Err fault
