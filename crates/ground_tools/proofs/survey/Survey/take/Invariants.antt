use Rattle.std.proofs.Common.{◌-◌, ◌≤◌, ◌++◌, ℕ, List, length, take}
use Rattle.ground_tools.specs.Surveys.{Surveys}
use Rattle.ground_tools.proofs.survey.Survey.take.Given as goal

abbrev pub invariant-lines : goal.invariant-lines
invariant-lines l = record {
  surveys : (log : List ℕ) → Surveys l.fn.self log → Surveys l.self (log ++ take l.taken l.piece);
  taken : l.taken ≤ length l.piece;
}

abbrev pub decreases-lines : goal.decreases-lines
decreases-lines l = length l.piece - l.taken
