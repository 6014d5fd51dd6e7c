use Rattle.ground_checks.specs.Checked.{StaysTold}
use Rattle.ground_checks.proofs.file_order.tell_order.Given as goal

abbrev pub invariant-files : goal.invariant-files
invariant-files g l = StaysTold (g.O.Write.contents l.initial.out) (g.O.Write.contents l.out)
