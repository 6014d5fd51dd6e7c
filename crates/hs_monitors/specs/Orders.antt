-- What the accepted commands switch and order.
use Rattle.std.specs.Prelude.{Bool, true, false, List, [], ◌∷◌, filter_map, Option, Some, None}
use Rattle.std.specs.List.{list_any, flat_map}
use Rattle.histories.specs.Words.{last_or}
use Rattle.histories.specs.Entries.Entry.{Woken, Activated}
use Rattle.commands.specs.Verdicts.{orders_in, verdicts_on}
use Rattle.commands.specs.declared.verdicts.Verdict.{Verdict}
use Rattle.hs_actions.specs.Happenings.{Happening}
use Rattle.hs_actions.specs.Happenings.Happening.{Clears, Limits}
use Rattle.hs_monitors.specs.Verdicts.{hs_protocol}
use Rattle.hs_monitors.specs.Histories.{Input, HsEntry}
use Rattle.hs_monitors.specs.declared.instructions.Instruction.{Instruction}
use Rattle.hs_monitors.specs.declared.instructions.Instruction.TheVariants.{Plain, Monitor, Listen, Clear, Limit}

-- The verdicts on the packets of a wakeup, and what was ordered in it.
abbrev pub heard_at : Input → List (Verdict Instruction)
heard_at input = verdicts_on hs_protocol tt input.commands

abbrev pub ordered_at : Input → List Instruction
ordered_at input = orders_in (heard_at input)

-- What was ordered in an entry, and in all entries of a history.
abbrev pub orders_at : HsEntry → List Instruction
orders_at (Woken input) = ordered_at input
orders_at (Activated a) = []

unfoldable pub orders_of : List HsEntry → List Instruction
orders_of entries = flat_map orders_at entries

-- Whether an order switches application monitoring on or off, where it does one of them.
abbrev pub monitor_in : Instruction → Option Bool
monitor_in Plain = None
monitor_in (Monitor on) = Some on
monitor_in (Listen on) = None
monitor_in Clear = None
monitor_in (Limit max) = None

-- Whether an order switches event monitoring on or off, where it does one of them.
abbrev pub listen_in : Instruction → Option Bool
listen_in Plain = None
listen_in (Monitor on) = None
listen_in (Listen on) = Some on
listen_in Clear = None
listen_in (Limit max) = None

-- Whether an order refreshes the application monitors: each one that switches them on does, also where they were on.
abbrev pub refreshes : Instruction → Bool
refreshes Plain = false
refreshes (Monitor on) = on
refreshes (Listen on) = false
refreshes Clear = false
refreshes (Limit max) = false

-- Each monitoring is on by the last order on it, or by the start.
unfoldable pub is_on : List Instruction → Bool
is_on orders = last_or true (filter_map monitor_in orders)

unfoldable pub is_listening : List Instruction → Bool
is_listening orders = last_or true (filter_map listen_in orders)

-- Whether one of these orders refreshes.
unfoldable pub refreshed_by : List Instruction → Bool
refreshed_by orders = list_any refreshes orders

-- What an order does to the resets, and what several do.
abbrev pub by_order : Instruction → List Happening
by_order Plain = []
by_order (Monitor on) = []
by_order (Listen on) = []
by_order Clear = Clears ∷ []
by_order (Limit max) = Limits max ∷ []

unfoldable pub by_orders : List Instruction → List Happening
by_orders orders = flat_map by_order orders
