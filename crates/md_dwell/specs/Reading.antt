-- What MD reads of an image of memory.
use Rattle.std.specs.Prelude.{ℕ, ◌==◌, if◌then◌else◌, List, [], ◌∷◌, Result, Ok, Err}
use Rattle.packet_forms.specs.Numbers.{be16_bytes, be32_bytes}
use Rattle.memory_window.specs.Memory.{Memory}
use Rattle.memory_window.specs.Access.{read_of}
use Rattle.memory_window.specs.declared.access.AccessFault.{AccessFault}
use Rattle.md_dwell.specs.declared.tables.DwellEntry.{DwellEntry}

-- How many bits an entry of length 1, 2 or 4 reads.
abbrev pub bits_of : ℕ → ℕ
bits_of len = if len == 1 then 8 else if len == 2 then 16 else 32

-- What the read of an entry gives: the number of its bytes, the one at the lowest address the most significant, or a fault.
unfoldable pub value_of : Memory → DwellEntry → Result ℕ AccessFault
value_of image e = read_of (bits_of e.len) image e.at

-- A number in the length of its entry.
unfoldable pub bytes_of_value : ℕ → ℕ → List ℕ
bytes_of_value len value = if len == 1 then value ∷ [] else if len == 2 then be16_bytes value else be32_bytes value

-- The bytes of a value that was read, none where the read is refused.
abbrev pub bytes_of_read : ℕ → Result ℕ AccessFault → List ℕ
bytes_of_read len (Ok value) = bytes_of_value len value
bytes_of_read len (Err fault) = []

-- The bytes of an entry in an image.
unfoldable pub entry_bytes : Memory → DwellEntry → List ℕ
entry_bytes image e = bytes_of_read e.len (value_of image e)
