-- What MM sees beside its packets, and what it reads and asks of the image of memory.
use Rattle.std.specs.Prelude.{ℕ, Bool, List, Option, Result}
use Rattle.table_files.specs.Files.{loads_of}
use Rattle.memory_window.specs.Memory.{Memory}
use Rattle.memory_window.specs.Access.{read_of, bytes_of, admits_of, is_protected}
use Rattle.memory_window.specs.Window.{seen}
use Rattle.memory_window.specs.declared.window.Window.{Window}
use Rattle.memory_window.specs.declared.access.AccessFault.{AccessFault}
use Rattle.memory_window.specs.declared.operations.MemOp.{MemOp}

-- The frame's image of memory, and the load files, each by its address and its bytes.
pub record Seen : Type 0 where
  pub image : Memory
  pub loads : List (ℕ × List ℕ)

-- What a window shows, and the load files among these files.
abbrev pub seen_in : Window → List (List ℕ) → Seen
seen_in window files = record { image = seen window; loads = loads_of files }

-- What a read of 8, 16 or 32 bits at an address gives.
unfoldable pub value_at : Memory → ℕ → ℕ → Result ℕ AccessFault
value_at image size at = read_of size image at

-- What the bytes of a range are.
unfoldable pub range_at : Memory → ℕ → ℕ → Result (List ℕ) AccessFault
range_at image at len = bytes_of image at len

-- Whether an operation is admitted, or the fault that it meets.
unfoldable pub admission_of : Memory → MemOp → Result (Unit {0}) AccessFault
admission_of image op = admits_of image op

-- Whether an EEPROM region is protected, nothing where the number isn't that of an EEPROM region.
unfoldable pub protection_of : Memory → ℕ → Option Bool
protection_of image region = is_protected image region
