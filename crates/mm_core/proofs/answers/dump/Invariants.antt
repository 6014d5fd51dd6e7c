use Rattle.std.proofs.Common.{◌≡◌, ◌+◌, length, map}
use Rattle.std.specs.List.{AllPass, range_with_len}
use Rattle.bus_pipes.specs.Held.{adding}
use Rattle.bus_pipes.specs.Counted.{is_item_counted}
use Rattle.mm_core.specs.Answers.{dump_part}
use Rattle.mm_core.proofs.answers.dump.Given as goal

abbrev pub invariant-loop-k : goal.invariant-loop-k
invariant-loop-k l = record {
  items : l.out ≡ adding l.fn.out (map (dump_part l.now l.at l.bytes) (range_with_len 0 l.k));
  few : length l.out.items ≡ length l.fn.out.items + l.k;
  room : l.out.room ≡ l.fn.out.room;
  counted : AllPass is_item_counted l.fn.out.items → AllPass is_item_counted l.out.items;
}
