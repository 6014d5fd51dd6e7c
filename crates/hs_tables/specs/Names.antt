-- Names in a table's bytes.
use Rattle.std.specs.Prelude.{ℕ, if◌then◌else◌, List, take, drop, Option, Some, None}
use Rattle.packet_forms.specs.Names.{is_name}

-- The name of 20 bytes, where they are one.
abbrev pub name_of_bytes : List ℕ → Option (List ℕ)
name_of_bytes bytes = if is_name bytes then Some bytes else None

-- The name in the 20 bytes from a place on, where they are one.
abbrev pub name_in : List ℕ → ℕ → Option (List ℕ)
name_in payload from = name_of_bytes (take 20 (drop from payload))
