use Rattle.std.proofs.Common.{◌≡◌, ◌≤◌, ℕ, Bool, take, Some}
use Rattle.lc_watch.specs.Expressions.{values_left}
use Rattle.lc_watch.proofs.Leaving.{count_of}
use Rattle.lc_watch.proofs.expressions.leaves_one.Given as goal

-- the words so far leave as many values, whatever those of the watchpoints are
abbrev pub invariant-loop-word : goal.invariant-loop-word
invariant-loop-word l = record {
  few : l.count ≤ l.word-index;
  counted : (value : ℕ → Bool) → count_of (values_left value (take l.word-index l.words)) ≡ Some l.count;
}
