use Rattle.ground_checks.proofs.CheckedLemmas.{of_files}
use Rattle.ground_checks.proofs.book_checks.tell_files.Goals as goal

pub files-preserved : goal.files-preserved
files-preserved g c = of_files c.files.status c.in_ok-one.one c.earlier-status.result c.files.invariant c.in_ok-one.ensures c.earlier-status.ensures.done c.earlier-status.ensures.first
