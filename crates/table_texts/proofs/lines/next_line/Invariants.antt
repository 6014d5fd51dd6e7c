use Rattle.std.proofs.Common.{◌≡◌, ◌+◌, ◌≤◌, length}
use Rattle.table_texts.specs.Lines.{kept_of}
use Rattle.table_texts.proofs.lines.next_line.Given as goal

abbrev pub invariant-lines : goal.invariant-lines
invariant-lines l = record {
  kept : kept_of l.number l.text ≡ kept_of l.next l.rest;
  room : l.next + length l.rest ≤ l.number + length l.text;
  shorter : length l.rest ≤ length l.text;
}

abbrev pub decreases-lines : goal.decreases-lines
decreases-lines l = length l.rest
