-- What happens to the actions in a history.
use Rattle.std.specs.Prelude.{if◌then◌else◌, List, [], ◌∷◌, ◌++◌, length}
use Rattle.std.specs.List.{flat_map}
use Rattle.histories.specs.Words.{joined_along}
use Rattle.histories.specs.Entries.{wakeups}
use Rattle.histories.specs.Entries.Entry.{Woken, Activated}
use Rattle.hs_actions.specs.Happenings.{Happening}
use Rattle.hs_actions.specs.Outcomes.{Past, in_next_wakeup, with_more}
use Rattle.hs_monitors.specs.Histories.{Input, HsEntry, Setup, tables_after}
use Rattle.hs_monitors.specs.Orders.{ordered_at, orders_of, is_on, is_listening, by_orders}
use Rattle.hs_monitors.specs.Watches.{watch_of}
use Rattle.hs_monitors.specs.Monitors.{app_attempt}
use Rattle.hs_monitors.specs.Events.{event_attempts}
use Rattle.hs_monitors.specs.declared.instructions.Instruction.{Instruction}

-- What the application monitors attempt in a wakeup behind a history, in table order, where application monitoring is on at its last order.
abbrev pub by_apps : Setup → List HsEntry → Input → List Happening
by_apps setup earlier input =
    if is_on (orders_of earlier ++ ordered_at input)
    then flat_map (app_attempt (length (wakeups earlier)) (watch_of (earlier ++ Woken input ∷ []))) (tables_after setup earlier).apps
    else []

-- What the event monitors attempt in a wakeup behind a history, packet by packet, where event monitoring is on.
abbrev pub by_events : Setup → List HsEntry → Input → List Happening
by_events setup earlier input =
    if is_listening (orders_of earlier ++ ordered_at input)
    then flat_map (event_attempts (length (wakeups earlier)) (tables_after setup earlier).events) input.seen.events
    else []

-- What both kinds of monitors attempt in it: the application monitors come first.
unfoldable pub by_monitors : Setup → List HsEntry → Input → List Happening
by_monitors setup earlier input = by_apps setup earlier input ++ by_events setup earlier input

-- What happens in an entry: the orders come first.
abbrev pub happened_at : Setup → List HsEntry → HsEntry → List Happening
happened_at setup earlier (Woken input) = by_orders (ordered_at input) ++ by_monitors setup earlier input
happened_at setup earlier (Activated a) = []

unfoldable pub happened_of : Setup → List HsEntry → List Happening
happened_of setup entries = joined_along (happened_at setup) entries

-- What the actions went through in these entries; and at a place in the next wakeup, once this was ordered in it.
abbrev pub past_of : Setup → List HsEntry → Past
past_of setup entries = record { begins = record { made = setup.made; max = setup.max }; wakeups = length (wakeups entries); happened = happened_of setup entries }

abbrev pub past_in : Setup → List HsEntry → List Instruction → Past
past_in setup entries orders = with_more (in_next_wakeup (past_of setup entries)) (by_orders orders)
