use Rattle.std.proofs.Common.{◌≡◌, ◌≤◌, ◌+◌, ◌*◌, ℕ, length, take}
use Rattle.std.specs.List.{flat_map, AllPass}
use Rattle.bus_pipes.specs.Counted.{is_item_counted}
use Rattle.hs_actions.specs.Performs.{Performs}
use Rattle.hs_monitors.specs.Events.{SendersStand, event_attempt}
use Rattle.hs_monitors.proofs.events.compare_all.Given as goal

-- what the entries so far attempted was performed
abbrev pub invariant-loop-place : goal.invariant-loop-place
invariant-loop-place l = record {
  few : length l.out.items ≤ length l.fn.out.items + 2 * l.place;
  room : l.out.room ≡ l.fn.out.room;
  counted : AllPass is_item_counted l.fn.out.items → AllPass is_item_counted l.out.items;
  performs : SendersStand l.tables.events l.senders → Performs l.tables.acts l.now (λ (k : ℕ). flat_map (event_attempt k l.packet) (take l.place l.tables.events)) l.fn.actions l.actions l.fn.out l.out;
}
