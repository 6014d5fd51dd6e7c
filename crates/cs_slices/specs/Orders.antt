-- What the accepted commands of CS switch, and which entries take part.
use Rattle.std.specs.Prelude.{ℕ, ◌+◌, ◌/◌, ◌==◌, Bool, true, false, not, ◌&&◌, if◌then◌else◌, List, filter_map, Option, Some, None}
use Rattle.std.specs.List.{list_any, range_with_len}
use Rattle.histories.specs.Words.{last_or}
use Rattle.cs_slices.specs.Tables.{TablePair, entry_in}
use Rattle.cs_slices.specs.Happenings.{Happening, orders_among, orders_since}
use Rattle.cs_slices.specs.Happenings.Happening.{Ordered, Read, Renewed}
use Rattle.cs_slices.specs.Instructions.{entry_place}
use Rattle.cs_slices.specs.declared.instructions.Instruction.{Instruction}
use Rattle.cs_slices.specs.declared.instructions.Instruction.TheVariants.{Plain, Whole, Table, Entry, Report}

-- The table of a place: 1 EEPROM, 2 memory.
abbrev pub table_of : ℕ → ℕ
table_of place = place / 16 + 1

-- Whether an order switches CS on or off, where it does one of them.
abbrev pub cs_switch : Instruction → Option Bool
cs_switch Plain = None
cs_switch (Whole on) = Some on
cs_switch (Table table on) = None
cs_switch (Entry table number on) = None
cs_switch (Report table number) = None

-- Whether an order switches a table on or off.
abbrev pub table_switch : ℕ → Instruction → Option Bool
table_switch n Plain = None
table_switch n (Whole on) = None
table_switch n (Table table on) = if table == n then Some on else None
table_switch n (Entry table number on) = None
table_switch n (Report table number) = None

-- Whether an order switches the entry in a place on or off.
abbrev pub entry_switch : ℕ → Instruction → Option Bool
entry_switch place Plain = None
entry_switch place (Whole on) = None
entry_switch place (Table table on) = None
entry_switch place (Entry table number on) = if entry_place table number == place then Some on else None
entry_switch place (Report table number) = None

-- CS is on by the last order on it, or by the start.
unfoldable pub is_cs_on : List Instruction → Bool
is_cs_on orders = last_or true (filter_map cs_switch orders)

-- A table is on by the last order on it, or by the start.
unfoldable pub is_table_on : ℕ → List Instruction → Bool
is_table_on n orders = last_or true (filter_map (table_switch n) orders)

-- An entry is on by the last of these orders on it, or by its state in the table.
unfoldable pub is_entry_on : TablePair → ℕ → List Instruction → Bool
is_entry_on tables place orders = last_or ((entry_in tables place).state == 1) (filter_map (entry_switch place) orders)

-- A place takes part where CS, its table and its entry are on: CS and the table by all that was ordered, the entry by what was ordered
-- since its table last became active.
unfoldable pub takes_part : TablePair → List Happening → ℕ → Bool
takes_part tables happened place =
    is_cs_on (orders_among happened) && is_table_on (table_of place) (orders_among happened) && is_entry_on tables place (orders_since (table_of place) happened)

-- Whether any of the 32 places takes part.
unfoldable pub some_take_part : TablePair → List Happening → Bool
some_take_part tables happened = list_any (takes_part tables happened) (range_with_len 0 32)

-- Whether an order switches CS, a place's table or its entry off.
abbrev pub turns_off : ℕ → Instruction → Bool
turns_off place Plain = false
turns_off place (Whole on) = not on
turns_off place (Table table on) = not on && (table == table_of place)
turns_off place (Entry table number on) = not on && (entry_place table number == place)
turns_off place (Report table number) = false

-- Whether a pass at a place doesn't go on once this happened: its place was switched off, or its table became active.
abbrev pub breaks_off : ℕ → Happening → Bool
breaks_off place (Ordered order) = turns_off place order
breaks_off place (Read s) = false
breaks_off place (Renewed n) = n == table_of place
