use Rattle.std.proofs.Common.{sym}
use Rattle.log_lines.proofs.PartsLemmas.{reset_extra}
use Rattle.log_lines.proofs.reading.read_reset.Goals as goal

pub returns-in-Some : goal.returns-in-Some
returns-in-Some c = rw c.in-Some.is (sym (reset_extra c.in-Some.field-0.now))
