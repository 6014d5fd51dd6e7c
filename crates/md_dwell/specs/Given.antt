-- Entries whose reads a window gives.
use Rattle.std.specs.Prelude.{◌≡◌, ℕ, ◌==◌, ◌||◌, Bool, true, not, List, Option}
use Rattle.std.specs.List.{All, AllPass, position_from}
use Rattle.memory_window.specs.declared.regions.Region.{Region}
use Rattle.memory_window.specs.Access.{gives_read}
use Rattle.md_dwell.specs.Tables.{DwellTable}
use Rattle.md_dwell.specs.Reading.{bits_of}
use Rattle.md_dwell.specs.declared.tables.DwellEntry.{DwellEntry}
use Rattle.md_dwell.specs.declared.instructions.Instruction.{Instruction}
use Rattle.md_dwell.specs.declared.instructions.Instruction.TheVariants.{Plain, Start, Stop, Jam}

-- Whether an entry has length 0, or its read is given.
unfoldable pub is_given : List Region → DwellEntry → Bool
is_given regions e = (e.len == 0) || gives_read regions (bits_of e.len) e.at

-- The first of these entries, from 1, that isn't given.
unfoldable pub first_refused : List Region → List DwellEntry → Option ℕ
first_refused regions entries = position_from (λ e. not (is_given regions e)) 1 entries

-- All entries of these tables are given.
unfoldable pub TablesGiven : List Region → List DwellTable → Type 0
TablesGiven regions tables = All (λ (t : DwellTable). AllPass (is_given regions) t.entries) tables

-- The entry that an order writes, if any, is given.
abbrev pub OrderGiven : List Region → Instruction → Type 0
OrderGiven regions Plain = Unit {0}
OrderGiven regions (Start mask) = Unit {0}
OrderGiven regions (Stop mask) = Unit {0}
OrderGiven regions (Jam table number e) = is_given regions e ≡ true
