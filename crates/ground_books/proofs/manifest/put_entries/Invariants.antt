use Rattle.std.proofs.Common.{◌≡◌, ◌++◌, drop, map}
use Rattle.load_books.specs.Files.{file_made}
use Rattle.ground_books.specs.Manifests.{entries}
use Rattle.ground_books.proofs.manifest.put_entries.Given as goal

abbrev pub invariant-loop-file : goal.invariant-loop-file
invariant-loop-file l = l.fn.out.items ++ entries (map file_made l.files) ≡ l.out.items ++ entries (map file_made (drop l.file-index l.files))
