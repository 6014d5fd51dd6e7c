use Rattle.std.proofs.Common.{length}
use Rattle.row_forms.proofs.rows.+show_row.Given as goal

abbrev pub decreases-show_row : goal.decreases-show_row
decreases-show_row l = length l.fields.now
