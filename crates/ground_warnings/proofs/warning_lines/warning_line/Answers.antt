use Rattle.std.proofs.Common.{refl}
use Rattle.ground_warnings.specs.Lines.{line_of_warning}
use Rattle.ground_warnings.proofs.warning_lines.warning_line.Goals as goal

pub returns-in_default : goal.returns-in_default
unfolding line_of_warning
returns-in_default c = rw c.in_default.ensures.line refl
