use Rattle.std.proofs.Common.{◌≡◌, drop, map}
use Rattle.load_books.specs.Contents.{file_text}
use Rattle.load_books.specs.Files.{files_said, with_files, file_made, AreAccepted}
use Rattle.load_books.proofs.files.make_files.Given as goal

abbrev pub invariant-loop-part : goal.invariant-loop-part
invariant-loop-part l = record {
  said : files_said l.forms l.epoch (map file_text l.parts) ≡ with_files (map file_made l.files.items) (files_said l.forms l.epoch (map file_text (drop l.part-index l.parts)));
  accepted : AreAccepted (map file_made l.files.items);
}
