use Rattle.std.proofs.Common.{sym}
use Rattle.entry_lines.proofs.FoundLemmas.{nothing_of}
use Rattle.entry_lines.proofs.entries.entry_line.Goals as goal

pub returns-in_default : goal.returns-in_default
returns-in_default c = sym (nothing_of c.args.kind c.args.entry _ c.in_default.ensures.line)
