-- The first line of a load file's text: the address, and the words of the headers behind it.
use Rattle.std.specs.Prelude.{◌≡◌, ℕ, ◌+◌, if◌then◌else◌, List, [], ◌∷◌, codes, None, Result, Ok, Err}
use Rattle.row_forms.specs.declared.field.Kind.{Kind}
use Rattle.row_forms.specs.declared.field.Kind.TheVariants.{Number}
use Rattle.row_forms.specs.declared.field.Spelling.TheVariants as spellings
use Rattle.row_forms.specs.declared.field.Width.TheVariants.{U32}
use Rattle.row_forms.specs.declared.fault.Reason.{Reason}
use Rattle.row_forms.specs.declared.fault.Reason.TheVariants as reasons
use Rattle.row_forms.specs.Words.{words}
use Rattle.row_forms.specs.Rows.{field_said}
use Rattle.table_texts.specs.Lines.{Numbered, kept_of}
use Rattle.table_texts.specs.Endings.{row_fault, behind_first}
use Rattle.load_texts.specs.Headers.{line_refused, begins}
use Rattle.load_texts.specs.declared.fault.LoadFault.{LoadFault}
use Rattle.load_texts.specs.declared.fault.LoadFault.TheVariants as faults
use Rattle.load_texts.specs.declared.addresses.AddressLine.{AddressLine}

-- an address: four bytes
abbrev pub address_kind : Kind
address_kind = Number U32 spellings.Hex

abbrev pub address_said : List ℕ → Result (List ℕ) Reason
address_said word = field_said None (codes "address") address_kind word

-- the first line: the four bytes of the address, the line's number, the words behind the address, and the lines behind the first one
pub record Addressed : Type 0 where
  pub address : List ℕ
  pub number : ℕ
  pub words : List (List ℕ)
  pub more : List Numbered

abbrev pub address_then : ℕ → Result (List ℕ) Reason → List (List ℕ) → List Numbered → Result Addressed LoadFault
address_then n (Ok address) ws more = Ok (record { address = address; number = n; words = ws; more = more })
address_then n (Err reason) ws more = Err (line_refused n (row_fault 2 reason))

abbrev pub behind_load : ℕ → List (List ℕ) → List Numbered → Result Addressed LoadFault
behind_load n [] more = Err (line_refused n (row_fault 2 reasons.Missing))
behind_load n (w ∷ ws) more = address_then n (address_said w) ws more

-- what the first line says
unfoldable pub addressed_said : List Numbered → Result Addressed LoadFault
addressed_said [] = Err (faults.Load 1)
addressed_said (line ∷ more) = if begins (codes "load") line.words then behind_load line.number (behind_first line.words) more else Err (faults.Load line.number)

-- ---- what the code gives

abbrev pub addressed_by : AddressLine → Addressed
addressed_by line = record { address = line.address; number = line.number; words = words line.words.now; more = kept_of (line.number + 1) line.rest.now }

abbrev pub GivesAddressed : Result Addressed LoadFault → Result AddressLine LoadFault → Type 0
GivesAddressed said (Ok line) = said ≡ Ok (addressed_by line)
GivesAddressed said (Err fault) = said ≡ Err fault
