-- What a history of CS has: what it begins with, which is its two tables, and its entries, the oldest first; and what happens in it.
use Rattle.std.specs.Prelude.{ℕ, ◌==◌, if◌then◌else◌, List, [], ◌∷◌, ◌++◌, map, Option, Some, None}
use Rattle.std.specs.List.{flat_map}
use Rattle.histories.specs.Words.{decided}
use Rattle.histories.specs.Entries.{Entry, in_force}
use Rattle.histories.specs.Entries.Entry.{Woken, Activated}
use Rattle.cs_slices.specs.Tables.{TablePair, pair_of}
use Rattle.cs_slices.specs.Happenings.{Slice, Happening, reading}
use Rattle.cs_slices.specs.Happenings.Happening.{Ordered, Renewed}
use Rattle.cs_slices.specs.Slices.{next_slice}
use Rattle.cs_slices.specs.Wakeups.{Input, ordered_at}
use Rattle.cs_slices.specs.declared.segments.Segment.{Segment}

-- A table that becomes active: 1 EEPROM's or 2 memory's, with all its entries.
pub record Activation : Type 0 where
  pub number : ℕ
  pub table : List Segment

abbrev pub activation_of : ℕ → List Segment → Activation
activation_of n table = record { number = n; table = table }

-- An entry of a history is a wakeup with what is read in it, or an activation.
abbrev pub CsEntry : Type 0
CsEntry = Entry Input Activation

-- The table n that an activation has.
abbrev pub table_in : ℕ → Activation → Option (List Segment)
table_in n a = if a.number == n then Some a.table else None

-- The tables in force behind these entries: each is that of its last activation, or of the beginning.
abbrev pub tables_after : TablePair → List CsEntry → TablePair
tables_after tables entries = pair_of (in_force (table_in 1) tables.eeprom entries) (in_force (table_in 2) tables.memory entries)

-- The packets of the command pipe that are read in an entry.
abbrev pub packets_in : CsEntry → List (List ℕ)
packets_in (Woken input) = input.commands
packets_in (Activated a) = []

-- What happened before the slice of a wakeup: behind what happened earlier, what is ordered in it.
abbrev pub before_slice : TablePair → List Happening → Input → List Happening
before_slice tables happened input = happened ++ map Ordered (ordered_at tables input)

-- What happens in an entry, by the tables in force and what happened before: in a wakeup what is ordered, and then the next slice is read.
abbrev pub happens_at : TablePair → List Happening → CsEntry → List Happening
happens_at tables happened (Woken input) = map Ordered (ordered_at tables input) ++ reading (next_slice tables (before_slice tables happened input) input.seen)
happens_at tables happened (Activated a) = Renewed a.number ∷ []

-- What happens in an entry, by the earlier entries, each with what happened in it.
abbrev pub happens_behind : TablePair → List (CsEntry × List Happening) → CsEntry → List Happening
happens_behind tables earlier entry = happens_at (tables_after tables (map (λ e. e.0) earlier)) (flat_map (λ e. e.1) earlier) entry

-- What happened in a history that began with these tables.
unfoldable pub happened_of : TablePair → List CsEntry → List Happening
happened_of tables history = flat_map (λ e. e.1) (decided (happens_behind tables) history)

-- The slice of a wakeup behind a history, where it has one.
unfoldable pub slice_at : TablePair → List CsEntry → Input → Option Slice
slice_at tables history input = next_slice (tables_after tables history) (before_slice (tables_after tables history) (happened_of tables history) input) input.seen
