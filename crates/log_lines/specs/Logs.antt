-- What a log says, and when a reader stands for a text of which so many lines were given.
use Rattle.std.specs.Prelude.{◌≡◌, ℕ, ◌+◌, ◌-◌, ◌^◌, List, [], ◌∷◌, ◌++◌, length, take, map, min, Option, Some, None, Result, Ok, Err}
use Rattle.log_lines.specs.declared.fault.LineFault.{LineFault}
use Rattle.log_lines.specs.declared.fault.LineFault.TheVariants as faults
use Rattle.log_lines.specs.declared.fault.LogFault.{LogFault}
use Rattle.log_lines.specs.declared.line.LogLine.{LogLine}
use Rattle.log_lines.specs.declared.log_reader.Answer.{Answer}
use Rattle.log_lines.specs.declared.log_reader.Answer.TheVariants as answers
use Rattle.log_lines.specs.declared.log_reader.LogReader.{LogReader}
use Rattle.log_lines.specs.Lines.{line_said}
use Rattle.log_lines.specs.Texts.{lf_parts}

-- what a line says, or its fault
abbrev pub Said : Type 0
Said = Result LogLine LineFault

-- the lines that ended, of the parts between LFs
abbrev pub ended : List (List ℕ) → List (List ℕ)
ended [] = []
ended (last ∷ []) = []
ended (part ∷ next ∷ more) = part ∷ ended (next ∷ more)

-- the line that has begun, behind the last LF
abbrev pub begun : List (List ℕ) → List ℕ
begun [] = []
begun (last ∷ []) = last
begun (part ∷ next ∷ more) = begun (next ∷ more)

-- what the lines of a text say that end with an LF, in their order
unfoldable pub log_said : List ℕ → List Said
log_said text = map line_said (ended (lf_parts text))

-- the number of the line behind so many lines, which isn't told beyond 2^64 - 1
abbrev pub number_behind : ℕ → ℕ
number_behind lines = min (lines + 1) (2 ^ 64 - 1)

-- a line that has begun and has no LF
abbrev pub fault_in : ℕ → List ℕ → Option LogFault
fault_in lines [] = None
fault_in lines (b ∷ bytes) = Some (record { line = number_behind lines; fault = faults.Cut })

-- what is wrong with the end of a text: behind the last LF there are bytes
unfoldable pub cut_in : List ℕ → Option LogFault
cut_in text = fault_in (length (ended (lf_parts text))) (begun (lf_parts text))

-- A reader stands for the text that it was fed, of which these lines were given: it holds as much of the line that has begun
-- as tells whether it is too long.
pub record Stands (r : LogReader) (text : List ℕ) (gave : List Said) : Type 0 where
  pub lines : List (List ℕ)
  pub last : List ℕ
  pub parts : lf_parts text ≡ lines ++ last ∷ []
  pub says : gave ≡ map line_said lines
  pub count : r.lines ≡ min (length lines) (2 ^ 64 - 1)
  pub kept : r.kept ≡ take 641 last

-- what an answer gives of a line
abbrev pub given : Answer → LogLine → List Said
given answers.More said = []
given answers.Line said = Ok said ∷ []
given (answers.Fault f) said = Err f.fault ∷ []

-- a fault bears the number of its line, which stands behind so many
abbrev pub IsNumbered : ℕ → Answer → Type 0
IsNumbered lines answers.More = Unit {0}
IsNumbered lines answers.Line = Unit {0}
IsNumbered lines (answers.Fault f) = f.line ≡ number_behind lines

-- what a line says, behind so many lines, is told
abbrev pub Tells : ℕ → Said → LogLine → Answer → Type 0
Tells lines (Ok line) said answer = (answer ≡ answers.Line) × (said ≡ line)
Tells lines (Err fault) said answer = answer ≡ answers.Fault (record { line = number_behind lines; fault = fault })
