use Rattle.std.proofs.Common.{◌≡◌, ◌++◌, length, map, option_map}
use Rattle.std.specs.Vec.Iter.{into_iter_items, into_iter_len}
use Rattle.ground_books.specs.Built.{built_seen}
use Rattle.ground_books.specs.Placed.{placed_in, written_as}
use Rattle.ground_books.proofs.building.placed.Given as goal

abbrev pub invariant-loop-file : goal.invariant-loop-file
invariant-loop-file g l = record {
  order : l.yielded ++ into_iter_items l.file-iterator ≡ into_iter_items l.initial.file-iterator;
  left : into_iter_len l.file-iterator ≡ length (into_iter_items l.file-iterator);
  placed : map written_as l.out.items ≡ map (placed_in (option_map (λ f. f.now) l.folder)) (map built_seen l.yielded);
}
