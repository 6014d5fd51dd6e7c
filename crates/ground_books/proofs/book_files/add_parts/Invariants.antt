use Rattle.std.proofs.Common.{◌≡◌, ◌++◌, length, map}
use Rattle.std.specs.Vec.Iter.{into_iter_items, into_iter_len}
use Rattle.load_books.specs.Files.{file_made}
use Rattle.ground_books.specs.Built.{built_seen, file_built}
use Rattle.ground_books.proofs.book_files.add_parts.Given as goal

abbrev pub invariant-loop-file : goal.invariant-loop-file
invariant-loop-file l = record {
  order : l.yielded ++ into_iter_items l.file-iterator ≡ into_iter_items l.initial.file-iterator;
  left : into_iter_len l.file-iterator ≡ length (into_iter_items l.file-iterator);
  built : map built_seen l.out.items ≡ map built_seen l.fn.out.items ++ map file_built (map file_made l.yielded);
}
