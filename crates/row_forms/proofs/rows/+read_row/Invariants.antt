use Rattle.std.proofs.Common.{length}
use Rattle.row_forms.proofs.rows.+read_row.Given as goal

abbrev pub decreases-read_row : goal.decreases-read_row
decreases-read_row l = length l.fields.now
