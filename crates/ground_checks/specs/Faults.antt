-- What is wrong with a file that is looked at by itself.
use Rattle.std.specs.Prelude.{ℕ, List, length, nat_lt, if◌then◌else◌, Option, Some, None}
use Rattle.memory_window.specs.declared.regions.Region.{Region}
use Rattle.table_files.specs.declared.fault.FileFault.{FileFault}
use Rattle.table_files.specs.declared.fault.EntryFault.{EntryFault}
use Rattle.table_files.specs.Headers.{file_fault_of}
use Rattle.active_tables.specs.Tables.{entry_fault_in, refused_in}
use Rattle.ground_checks.specs.declared.finding.FoundFault.{FoundFault}
use Rattle.ground_checks.specs.declared.finding.FoundFault.TheVariants as faults

-- the first entry of a file whose read memory refuses, where a map of memory is known
abbrev pub read_refused : Option (List Region) → List ℕ → Option ℕ
read_refused None file = None
read_refused (Some regions) file = refused_in regions file

-- the first fault of a file of a good length: its headers' fault, else its first faulty entry, else its first entry that memory refuses
abbrev pub fault_by : Option FileFault → Option EntryFault → Option ℕ → Option FoundFault
fault_by (Some fault) entry read = Some (faults.Headers fault)
fault_by None (Some fault) read = Some (faults.Entry fault)
fault_by None None (Some entry) = Some (faults.Read entry)
fault_by None None None = None

-- the first fault of a file; none where the file, alone, is taken and its table loaded, and memory gives what it reads
unfoldable pub fault_of : Option (List Region) → List ℕ → Option FoundFault
fault_of map file =
    if nat_lt 65700 (length file) then Some faults.Long
    else fault_by (file_fault_of file) (entry_fault_in file) (read_refused map file)
