use Rattle.std.proofs.Common.{◌≡◌, ◌+◌, ◌≤◌, length, take, drop}
use Rattle.load_books.specs.Cuts.{cut_of, with_front}
use Rattle.load_books.proofs.cuts.cut_front.Given as goal

abbrev pub invariant-lines : goal.invariant-lines
invariant-lines l = record {
  cut : cut_of l.number l.text ≡ with_front (take l.size l.text) (cut_of l.next l.rest);
  rest : l.rest ≡ drop l.size l.text;
  size : l.size + length l.rest ≡ length l.text;
  room : l.next + length l.rest ≤ l.number + length l.text;
}

abbrev pub decreases-lines : goal.decreases-lines
decreases-lines l = length l.rest
