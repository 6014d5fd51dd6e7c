-- How a verb ends.
use Rattle.ground_files.specs.declared.verb_status.Fault.{Fault}
use Rattle.ground_files.specs.declared.verb_status.Fault.TheVariants.{Read, Write, Memory}
use Rattle.ground_files.specs.declared.verb_status.Status.{Status}
use Rattle.ground_files.specs.declared.verb_status.Status.TheVariants.{ReadFailed, WriteFailed, NoMemory}

-- the status of a fault
abbrev pub status_at : Fault → Status
status_at (Read error) = ReadFailed
status_at (Write error) = WriteFailed
status_at (Memory error) = NoMemory
