use Rattle.std.proofs.Common.{◌≡◌, true}
use Rattle.ground_checks.specs.Checked.{is_of_files}
use Rattle.ground_checks.proofs.book_checks.tell_files.Given as goal

abbrev pub invariant-files : goal.invariant-files
invariant-files g l = is_of_files l.status ≡ true
