use Rattle.std.proofs.Common.{length}
use Rattle.row_forms.proofs.values.+read_steps.Given as goal

abbrev pub decreases-read_steps : goal.decreases-read_steps
decreases-read_steps l = length l.text.now
