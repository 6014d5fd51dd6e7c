use Rattle.std.proofs.Common.{◌≡◌, ◌+◌, ◌*◌, ◌≤◌, ◌++◌, [], length, take}
use Rattle.std.specs.List.{AllPass}
use Rattle.bus_pipes.specs.Held.{adding}
use Rattle.bus_pipes.specs.Counted.{is_item_counted}
use Rattle.commands.specs.Verdicts.{orders_in, verdicts_on}
use Rattle.commands.specs.Counting.{counts_of}
use Rattle.commands.specs.Answering.{command_items}
use Rattle.commands.proofs.step.handle_all.Given as goal

-- the state, the counts and the items are those of the packets so far
abbrev pub invariant-loop-packet : goal.invariant-loop-packet
invariant-loop-packet g l = record {
  few : length l.out.items ≤ (1 + g.S.Commanded.most) * l.packet-index;
  room : l.out.room ≡ l.fn.out.room;
  safe : g.S.Commanded.is_safe l.reads l.packet-index l.state l.left;
  counted : AllPass is_item_counted l.out.items;
  stand : (turn : g.S.Commanded.Turn) → g.S.Commanded.belongs turn l.reads l.now → g.S.Commanded.stands turn [] l.fn.state l.fn.left
      → g.S.Commanded.stands turn (orders_in (verdicts_on g.S.Commanded.protocol (g.S.Commanded.basis turn) (take l.packet-index l.packets))) l.state l.left;
  counts : (turn : g.S.Commanded.Turn) → g.S.Commanded.belongs turn l.reads l.now → g.S.Commanded.stands turn [] l.fn.state l.fn.left → l.fn.counts ≡ counts_of (g.S.Commanded.answers.earlier turn)
      → l.counts ≡ counts_of (g.S.Commanded.answers.earlier turn ++ verdicts_on g.S.Commanded.protocol (g.S.Commanded.basis turn) (take l.packet-index l.packets));
  items : (turn : g.S.Commanded.Turn) → g.S.Commanded.belongs turn l.reads l.now → g.S.Commanded.stands turn [] l.fn.state l.fn.left → l.fn.counts ≡ counts_of (g.S.Commanded.answers.earlier turn)
      → l.out ≡ adding l.fn.out (command_items g.S.Commanded.answers g.S.Instruction.Command.language.name turn (verdicts_on g.S.Commanded.protocol (g.S.Commanded.basis turn) (take l.packet-index l.packets)));
}
