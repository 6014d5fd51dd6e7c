use Rattle.ground_checks.specs.Checked.{StaysTold}
use Rattle.ground_checks.proofs.map_words.tell_regions.Given as goal

abbrev pub invariant-loop-region : goal.invariant-loop-region
invariant-loop-region g l = StaysTold (g.O.Write.contents l.initial.out) (g.O.Write.contents l.out)
