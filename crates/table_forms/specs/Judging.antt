-- What the readers of files and of entries say of a file.
use Rattle.std.specs.Prelude.{◌≡◌, ℕ, List, Option, Some, None, Result, Ok, Err}
use Rattle.table_files.specs.declared.fault.EntryFault.{EntryFault}
use Rattle.table_files.specs.declared.fault.FileFault.{FileFault}
use Rattle.table_files.specs.declared.kinds.TableKind.{TableKind}
use Rattle.table_files.specs.declared.kinds.TableKind.TheVariants.{AppMon, EventMon, ExeCount, MsgActs, Ats, Rts, Dwell, Eeprom, Memory, Wdt, Adt}
use Rattle.table_files.specs.Headers.{file_fault_of, kind_of_file, payload_of_file}
use Rattle.hs_tables.specs.Apps as apps
use Rattle.hs_tables.specs.Events as events
use Rattle.hs_tables.specs.Counters as counters
use Rattle.hs_tables.specs.Actions as actions
use Rattle.sc_tables.specs.Absolute.{ats_fault_of}
use Rattle.sc_tables.specs.Relative.{rts_fault_of}
use Rattle.md_dwell.specs.Tables.{dwell_fault_of}
use Rattle.cs_slices.specs.Tables.{segments_fault_of}
use Rattle.lc_watch.specs.Watchpoints as watchpoints
use Rattle.lc_watch.specs.Actionpoints as actionpoints
use Rattle.table_forms.specs.declared.fault.TableFault.{TableFault}
use Rattle.table_forms.specs.declared.fault.TableFault.TheVariants as faults

-- the first faulty entry of a payload, as the table's loader tells it
abbrev pub entry_fault_of : TableKind → List ℕ → Option EntryFault
entry_fault_of AppMon payload = apps.rows_fault_of payload
entry_fault_of EventMon payload = events.rows_fault_of payload
entry_fault_of ExeCount payload = counters.rows_fault_of payload
entry_fault_of MsgActs payload = actions.rows_fault_of payload
entry_fault_of (Ats n) payload = ats_fault_of payload
entry_fault_of (Rts n) payload = rts_fault_of payload
entry_fault_of (Dwell n) payload = dwell_fault_of payload
entry_fault_of Eeprom payload = segments_fault_of payload
entry_fault_of Memory payload = segments_fault_of payload
entry_fault_of Wdt payload = watchpoints.rows_fault_of payload
entry_fault_of Adt payload = actionpoints.rows_fault_of payload

abbrev pub entry_refusal : TableKind → Option EntryFault → Option TableFault
entry_refusal kind None = None
entry_refusal kind (Some fault) = Some (faults.Entry kind fault)

-- bytes to be loaded have no entries
abbrev pub kind_refusal : Option TableKind → List ℕ → Option TableFault
kind_refusal None payload = None
kind_refusal (Some kind) payload = entry_refusal kind (entry_fault_of kind payload)

abbrev pub refusal_by : Option FileFault → List ℕ → Option TableFault
refusal_by (Some fault) file = Some (faults.File fault)
refusal_by None file = kind_refusal (kind_of_file file) (payload_of_file file)

-- why a file isn't taken: its own fault, or its first faulty entry
unfoldable pub refusal_of : List ℕ → Option TableFault
refusal_of file = refusal_by (file_fault_of file) file

abbrev pub unless_refused : Option TableFault → List ℕ → Result (List ℕ) TableFault
unless_refused None file = Ok file
unless_refused (Some fault) file = Err fault

-- a file, where it is taken
abbrev pub judged : Result (List ℕ) TableFault → Result (List ℕ) TableFault
judged (Ok file) = unless_refused (refusal_of file) file
judged (Err fault) = Err fault

-- a table whose entries have no fault
abbrev pub IsTaken : List ℕ → TableKind → Type 0
IsTaken file kind = (kind_of_file file ≡ Some kind) × (entry_fault_of kind (payload_of_file file) ≡ None)
