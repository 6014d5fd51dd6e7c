-- The first of what is found, and which refusals are an entry's.
use Rattle.std.specs.Prelude.{List, [], ◌∷◌, Option, Some, None}
use Rattle.table_files.specs.declared.fault.EntryFault.{EntryFault}
use Rattle.table_forms.specs.declared.fault.TableFault.{TableFault}
use Rattle.table_forms.specs.declared.fault.TableFault.TheVariants as faults

-- the first of a list, where there is one
abbrev pub first_if_any : {A : Type 0} → List A → Option A
first_if_any [] = None
first_if_any (x ∷ more) = Some x

-- the fault of an entry, where a file isn't taken for one
abbrev pub entry_refused : Option TableFault → Option EntryFault
entry_refused None = None
entry_refused (Some (faults.Entry kind fault)) = Some fault
entry_refused (Some (faults.File fault)) = None
entry_refused (Some (faults.Text fault)) = None
entry_refused (Some (faults.Table line)) = None
entry_refused (Some (faults.Name line)) = None
entry_refused (Some (faults.Description line)) = None
entry_refused (Some (faults.Head line)) = None
