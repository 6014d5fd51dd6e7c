use Rattle.std.proofs.Common.{◌≡◌, ◌<◌, ◌^◌, Bool, true, List, take, Some}
use Rattle.std.specs.List.{list_all}
use Rattle.histories.specs.Masks.{bits_of}
use Rattle.lc_watch.specs.Outcomes.{kept_at}
use Rattle.lc_watch.specs.Expressions.{names_known, tripped_in, values_left}
use Rattle.lc_watch.specs.Actionpoints.{expression}
use Rattle.lc_watch.proofs.evaluation.evaluation.Given as goal

-- the words so far name watchpoints whose values were compared, and the values that they leave are the bits of the number
abbrev pub invariant-loop-word : goal.invariant-loop-word
invariant-loop-word l = record {
  small : l.stack < 2 ^ l.word-index;
  known : list_all (names_known (kept_at l.outcomes)) (take l.word-index (expression l.row)) ≡ true;
  stack : (values : List Bool) → values_left (tripped_in (kept_at l.outcomes)) (take l.word-index (expression l.row)) ≡ Some values → l.stack ≡ bits_of values;
}
