use Rattle.std.proofs.Common.{◌≡◌, ◌+◌, ◌≤◌, length}
use Rattle.row_forms.specs.Words.{words}
use Rattle.timed_plans.specs.Times.{in_front, dated_words}
use Rattle.timed_plans.proofs.dated.put_dated.Given as goal

abbrev pub invariant-words : goal.invariant-words
invariant-words l = record {
  said : dated_words l.epoch 2 (words l.line) ≡ in_front (words l.out.items) (dated_words l.epoch l.number (words l.rest));
  room : l.number + length l.rest ≤ 2 + length l.line;
}

abbrev pub decreases-words : goal.decreases-words
decreases-words l = length l.rest
