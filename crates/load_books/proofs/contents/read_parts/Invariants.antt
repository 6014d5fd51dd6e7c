use Rattle.std.proofs.Common.{◌≡◌, ◌+◌, ◌<◌, ◌^◌, length}
use Rattle.std.specs.Prelude.{IfSome}
use Rattle.load_books.specs.Cuts.{parts_from}
use Rattle.load_books.specs.Contents.{no_parts, held_by, all_added}
use Rattle.load_books.proofs.ContentsLemmas.{left_behind}
use Rattle.load_books.proofs.contents.read_parts.Given as goal

abbrev pub invariant-parts : goal.invariant-parts
invariant-parts l = record {
  said : all_added no_parts (parts_from l.part) ≡ all_added (held_by l.parts) (parts_from l.next);
  room : IfSome l.next (λ p. p.number + 1 + length p.rest.now < 2 ^ 32);
}

abbrev pub decreases-parts : goal.decreases-parts
decreases-parts l = left_behind l.next
