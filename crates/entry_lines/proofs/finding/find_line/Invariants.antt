use Rattle.std.proofs.Common.{◌≡◌, ◌+◌, ◌≤◌, length}
use Rattle.table_texts.specs.Lines.{kept_of}
use Rattle.entry_lines.specs.Found.{line_saying}
use Rattle.entry_lines.proofs.finding.find_line.Given as goal

abbrev pub invariant-lines : goal.invariant-lines
invariant-lines l = record {
  said : line_saying l.sought (kept_of l.number l.text) ≡ line_saying l.sought (kept_of l.next l.rest);
  room : l.next + length l.rest ≤ l.number + length l.text;
}

abbrev pub decreases-lines : goal.decreases-lines
decreases-lines l = length l.rest
