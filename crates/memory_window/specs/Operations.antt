-- Operations on memory: each is a run of bytes at rising addresses, or a change of one region's protection.
use Rattle.std.specs.Prelude.{ℕ, ◌+◌, ◌-◌, ◌*◌, ◌/◌, ◌%◌, ◌^◌, ◌<◌, ◌≤◌, ◌≡◌, Bool, ◌||◌, nat_eq, IsTrue, List, [], length, Option, None, Some, slice_index, slice_set, fold}
use Rattle.table_files.specs.Files.{nth}
use Rattle.memory_window.specs.declared.operations.MemOp.{MemOp}
use Rattle.memory_window.specs.declared.operations.MemOp.TheVariants.{Poke, Fill, Bytes, FromFile, Protect}

-- whether a poke or a peek may have this many bits
abbrev pub is_size : ℕ → Bool
is_size size = nat_eq size 8 || nat_eq size 16 || nat_eq size 32

-- the first address that an operation writes
abbrev pub op_at : MemOp → ℕ
op_at (Poke size at value) = at
op_at (Fill at len byte) = at
op_at (Bytes at part) = at
op_at (FromFile load at len) = at
op_at (Protect region on) = 0

-- how many bytes it writes
abbrev pub op_len : MemOp → ℕ
op_len (Poke size at value) = size / 8
op_len (Fill at len byte) = len
op_len (Bytes at part) = length part
op_len (FromFile load at len) = len
op_len (Protect region on) = 0

-- the bytes of a load file, which is its address and its bytes; none where there is no such file
abbrev pub bytes_loaded : Option (ℕ × List ℕ) → List ℕ
bytes_loaded None = []
bytes_loaded (Some load) = load.1

-- the bytes of the load file of a number, counted from 1
abbrev pub load_bytes : List (ℕ × List ℕ) → ℕ → List ℕ
load_bytes loads n = bytes_loaded (nth loads n)

-- the j-th byte that it writes, from 0, with these load files; a poke writes its value's most significant byte first
abbrev pub op_byte : List (ℕ × List ℕ) → MemOp → ℕ → ℕ
op_byte loads (Poke size at value) j = value / 2 ^ (8 * (size / 8 - 1 - j)) % 256
op_byte loads (Fill at len byte) j = byte
op_byte loads (Bytes at part) j = slice_index part j
op_byte loads (FromFile load at len) j = slice_index (load_bytes loads load) j
op_byte loads (Protect region on) j = 0

-- that an operation is one that can be written: a poke's value fits its size, and no range is empty or ends past the last address
abbrev pub IsSound : MemOp → Type 0
IsSound (Poke size at value) = IsTrue (is_size size) × (value < 2 ^ size) × (at + size / 8 ≤ 2 ^ 32)
IsSound (Fill at len byte) = (0 < len) × (at + len ≤ 2 ^ 32)
IsSound (Bytes at part) = (0 < length part) × (at + length part ≤ 2 ^ 32)
IsSound (FromFile load at len) = (0 < len) × (at + len ≤ 2 ^ 32)
IsSound (Protect region on) = Unit {0}

-- that the load file which an operation names is one of these, with the operation's address and length
abbrev pub IsBacked : List (ℕ × List ℕ) → MemOp → Type 0
IsBacked loads (Poke size at value) = Unit {0}
IsBacked loads (Fill at len byte) = Unit {0}
IsBacked loads (Bytes at part) = Unit {0}
IsBacked loads (FromFile load at len) = (bytes : List ℕ) × (nth loads load ≡ Some (at, bytes)) × (length bytes ≡ len)
IsBacked loads (Protect region on) = Unit {0}

-- the flags of the regions after an operation, which were `flags` before it; regions are counted from 1
abbrev pub protect : MemOp → List Bool → List Bool
protect (Poke size at value) flags = flags
protect (Fill at len byte) flags = flags
protect (Bytes at part) flags = flags
protect (FromFile load at len) flags = flags
protect (Protect region on) flags = slice_set flags (region - 1) on

-- the flags after all of the operations, in order
abbrev pub protected_by : List MemOp → List Bool → List Bool
protected_by ops flags = fold (λ f op. protect op f) flags ops
