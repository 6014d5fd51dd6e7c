-- What the accepted commands of a wakeup order, and what orders make of a table.
use Rattle.std.specs.Prelude.{ℕ, ◌-◌, ◌/◌, ◌%◌, ◌^◌, ◌==◌, Bool, true, false, if◌then◌else◌, List, filter_map, slice_set, Option, Some, None}
use Rattle.std.specs.List.{fold, list_any}
use Rattle.histories.specs.Words.{last_or}
use Rattle.commands.specs.Verdicts.{orders_in, verdicts_on}
use Rattle.commands.specs.Inputs.{Input as CommandInput}
use Rattle.commands.specs.declared.verdicts.Verdict.{Verdict}
use Rattle.memory_window.specs.Memory.{Memory}
use Rattle.memory_window.specs.Window.{seen}
use Rattle.memory_window.specs.declared.window.Window.{Window}
use Rattle.md_dwell.specs.Verdicts.{md_protocol}
use Rattle.md_dwell.specs.declared.tables.DwellEntry.{DwellEntry}
use Rattle.md_dwell.specs.declared.instructions.Instruction.{Instruction}
use Rattle.md_dwell.specs.declared.instructions.Instruction.TheVariants.{Plain, Start, Stop, Jam}

-- What MD reads in a wakeup: beside its packets it sees the frame's image of memory.
abbrev pub Input : Type 0
Input = CommandInput Memory

-- The input of a wakeup at this time with these packets and this window.
abbrev pub input_of : ℕ → List (List ℕ) → Window → Input
input_of now commands window = record { time = now; commands = commands; seen = seen window }

-- The verdicts on the packets of a wakeup, and what was ordered in it.
abbrev pub heard_at : Input → List (Verdict Instruction)
heard_at input = verdicts_on md_protocol input.seen input.commands

abbrev pub ordered_at : Input → List Instruction
ordered_at input = orders_in (heard_at input)

-- Whether a mask names a table: bit n - 1 is table n.
abbrev pub names : ℕ → ℕ → Bool
names mask table = mask / 2 ^ (table - 1) % 2 == 1

-- The entries of a table after an order: a jam of the table writes one.
abbrev pub jammed : ℕ → List DwellEntry → Instruction → List DwellEntry
jammed table entries Plain = entries
jammed table entries (Start mask) = entries
jammed table entries (Stop mask) = entries
jammed table entries (Jam t number e) = if t == table then slice_set entries (number - 1) e else entries

-- Whether an order enables a table or disables it, where it does one of them.
abbrev pub switch_of : ℕ → Instruction → Option Bool
switch_of table Plain = None
switch_of table (Start mask) = if names mask table then Some true else None
switch_of table (Stop mask) = if names mask table then Some false else None
switch_of table (Jam t number e) = None

-- What a switch makes of a table that was enabled or not.
abbrev pub switched_by : Option Bool → Bool → Bool
switched_by None on = on
switched_by (Some to) on = to

-- Whether a table is enabled after an order.
abbrev pub switched : ℕ → Bool → Instruction → Bool
switched table on order = switched_by (switch_of table order) on

-- Whether an order starts the stream of a table.
abbrev pub starts : ℕ → Instruction → Bool
starts table Plain = false
starts table (Start mask) = names mask table
starts table (Stop mask) = false
starts table (Jam t number e) = t == table

-- The entries of a table that had these, with all jams written in.
unfoldable pub entries_after : ℕ → List DwellEntry → List Instruction → List DwellEntry
entries_after table entries orders = fold (jammed table) entries orders

-- Whether a table is enabled that was enabled or not: by the last order that enables or disables it, where there is one.
unfoldable pub is_on_after : ℕ → Bool → List Instruction → Bool
is_on_after table enabled orders = last_or enabled (filter_map (switch_of table) orders)

-- Whether one of these orders starts the stream of a table.
unfoldable pub starts_in : ℕ → List Instruction → Bool
starts_in table orders = list_any (starts table) orders
