use Rattle.std.proofs.Common.{◌≡◌, ◌+◌, ◌≤◌, drop, map}
use Rattle.load_books.specs.Contents.{place_of, file_text}
use Rattle.load_books.proofs.contents.find_place.Given as goal

abbrev pub invariant-loop-part : goal.invariant-loop-part
invariant-loop-part l = record {
  place : place_of 1 1 l.name (map file_text l.files) ≡ place_of l.file l.load l.name (map file_text (drop l.part-index l.files));
  file : l.file ≡ 1 + l.part-index;
  load : l.load ≤ l.file;
}
