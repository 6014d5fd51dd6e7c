use Rattle.std.proofs.Common.{length}
use Rattle.table_texts.proofs.entries.+read_entries.Given as goal

abbrev pub decreases-read_entries : goal.decreases-read_entries
decreases-read_entries l = length l.text.now
