use Rattle.std.proofs.Common.{length}
use Rattle.table_texts.proofs.fronts.+read_front.Given as goal

abbrev pub decreases-read_front : goal.decreases-read_front
decreases-read_front l = length l.fields.now
