use Rattle.std.proofs.Common.{◌≡◌, ◌+◌, ◌≤◌, length}
use Rattle.table_texts.specs.Lines.{kept_of}
use Rattle.entry_lines.specs.Found.{line_of_command}
use Rattle.entry_lines.proofs.commands.command_line.Given as goal

abbrev pub invariant-lines : goal.invariant-lines
invariant-lines l = record {
  said : line_of_command l.place (kept_of l.number l.text) ≡ line_of_command l.left (kept_of l.next l.rest);
  room : l.next + length l.rest ≤ l.number + length l.text;
}

abbrev pub decreases-lines : goal.decreases-lines
decreases-lines l = length l.rest
