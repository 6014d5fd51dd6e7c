-- The end of a text, and its faults.
use Rattle.std.specs.Prelude.{◌≡◌, ℕ, Bool, false, List, [], ◌∷◌, codes, Result, Ok, Err}
use Rattle.std.specs.Str.{bytes_eq}
use Rattle.row_forms.specs.Rows.{fault_at}
use Rattle.row_forms.specs.declared.fault.Reason.{Reason}
use Rattle.row_forms.specs.declared.fault.Reason.TheVariants as reasons
use Rattle.table_texts.specs.declared.fault.LineFault.{LineFault}
use Rattle.table_texts.specs.declared.fault.LineFault.TheVariants as faults
use Rattle.table_texts.specs.declared.fault.TextFault.{TextFault}
use Rattle.table_texts.specs.declared.fault.LineError.{LineError}
use Rattle.table_texts.specs.declared.fault.LineError.TheVariants as line_errors
use Rattle.table_texts.specs.declared.fault.TextError.{TextError}
use Rattle.table_texts.specs.declared.fault.TextError.TheVariants as errors
use Rattle.table_texts.specs.Lines.{Numbered}

abbrev pub row_fault : ℕ → Reason → LineFault
row_fault n reason = faults.Row (fault_at n reason)

abbrev pub fault_on : ℕ → LineFault → TextFault
fault_on n fault = record { line = n; fault = fault }

-- `end`, behind which nothing stands: these bytes are what is left
abbrev pub ended : List ℕ → ℕ → List (List ℕ) → List Numbered → Result (List ℕ) TextFault
ended left n (w ∷ ws) more = Err (fault_on n (row_fault 2 reasons.Extra))
ended left n [] (line ∷ more) = Err (fault_on line.number faults.Behind)
ended left n [] [] = Ok left

abbrev pub is_end : List (List ℕ) → Bool
is_end [] = false
is_end (w ∷ ws) = bytes_eq w (codes "end")

abbrev pub behind_first : List (List ℕ) → List (List ℕ)
behind_first [] = []
behind_first (w ∷ ws) = ws

-- the end of a text, by what was left of it
abbrev pub as_ended : List ℕ → Result (Unit {0}) TextFault → Result (List ℕ) TextFault
as_ended left (Ok done) = Ok left
as_ended left (Err fault) = Err fault

-- what is said are the new bytes; a fault is told only where there is one; and memory may end
abbrev pub GivesText : Result (List ℕ) TextFault → List ℕ → Result (Unit {0}) TextError → Type 0
GivesText said new (Ok done) = said ≡ Ok new
GivesText said new (Err (errors.Memory e)) = Unit {0}
GivesText said new (Err (errors.Text fault)) = said ≡ Err fault

-- why the line of this number wasn't read
abbrev pub error_on : ℕ → LineError → TextError
error_on n (line_errors.Memory e) = errors.Memory e
error_on n (line_errors.Fault fault) = errors.Text (fault_on n fault)
