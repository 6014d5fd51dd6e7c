use Rattle.std.proofs.Common.{◌≡◌, ◌≤◌, ◌+◌, ◌*◌, ℕ, length, take}
use Rattle.std.specs.List.{flat_map, AllPass}
use Rattle.bus_pipes.specs.Counted.{is_item_counted}
use Rattle.hs_actions.specs.Performs.{Performs}
use Rattle.hs_monitors.specs.Events.{SendersStand, event_attempts}
use Rattle.hs_monitors.proofs.events.hear_all.Given as goal

-- what the packets so far attempted was performed
abbrev pub invariant-loop-packet : goal.invariant-loop-packet
invariant-loop-packet l = record {
  few : length l.out.items ≤ length l.fn.out.items + 32 * l.packet-index;
  room : l.out.room ≡ l.fn.out.room;
  counted : AllPass is_item_counted l.fn.out.items → AllPass is_item_counted l.out.items;
  performs : SendersStand l.tables.events l.senders → Performs l.tables.acts l.now (λ (k : ℕ). flat_map (event_attempts k l.tables.events) (take l.packet-index l.events)) l.fn.actions l.actions l.fn.out l.out;
}
