use Rattle.std.proofs.Common.{◌≡◌, ◌≤◌, ◌+◌, ◌*◌, length}
use Rattle.std.specs.List.{AllPass}
use Rattle.bus_pipes.specs.Held.{adding}
use Rattle.bus_pipes.specs.Counted.{is_item_counted}
use Rattle.sc_sequences.specs.Turns.{Sequences, turns}
use Rattle.sc_sequences.specs.State.{DutyStands}
use Rattle.sc_sequences.proofs.duty.Duty.take_turns.Given as goal

-- so many turns were taken
abbrev pub invariant-turns : goal.invariant-turns
invariant-turns l = record {
  started : (s : Sequences) × DutyStands l.tables s l.self;
  stands : (s : Sequences) → DutyStands l.tables s l.fn.self → DutyStands l.tables (turns l.turn l.now s).after l.self;
  items : (s : Sequences) → DutyStands l.tables s l.fn.self → l.out ≡ adding l.fn.out (turns l.turn l.now s).items;
  counted : AllPass is_item_counted l.fn.out.items → AllPass is_item_counted l.out.items;
  few : length l.out.items ≤ length l.fn.out.items + 2 * l.turn;
  room : l.out.room ≡ l.fn.out.room;
}
