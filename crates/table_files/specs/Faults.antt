-- Faults of files by their numbers.
use Rattle.std.specs.Prelude.{ℕ}
use Rattle.table_files.specs.declared.fault.FileFault.{FileFault}
use Rattle.table_files.specs.declared.fault.FileFault.TheVariants.{Short, ContentType, Subtype, Partial, Name, Size, LoadCrc}

-- the number of a fault, from 1 to 7
abbrev pub file_fault_number : FileFault → ℕ
file_fault_number Short = 1
file_fault_number ContentType = 2
file_fault_number Subtype = 3
file_fault_number Partial = 4
file_fault_number Name = 5
file_fault_number Size = 6
file_fault_number LoadCrc = 7
