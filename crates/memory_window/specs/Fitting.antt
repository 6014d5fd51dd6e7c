-- Whether the region in which a range lies gives it.
use Rattle.std.specs.Prelude.{ℕ, ◌/◌, ◌%◌, Bool, false, ◌&&◌, nat_eq, Option, None, Some}
use Rattle.memory_window.specs.declared.regions.Region.{Region}
use Rattle.memory_window.specs.Regions.{allows, unit_of}

-- a read of so many bits, by the region in which it lies
abbrev pub read_fits : ℕ → ℕ → Option Region → Bool
read_fits size at None = false
read_fits size at (Some r) = nat_eq (at % (size / 8)) 0 && allows r.kind size

-- a range of so many bytes, by the region in which it lies
abbrev pub bytes_fit : ℕ → ℕ → Option Region → Bool
bytes_fit at len None = false
bytes_fit at len (Some r) = nat_eq (at % unit_of r.kind) 0 && nat_eq (len % unit_of r.kind) 0
