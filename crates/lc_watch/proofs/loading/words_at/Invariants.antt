use Rattle.std.proofs.Common.{◌≡◌, length, take, map}
use Rattle.std.specs.List.{range_with_len}
use Rattle.lc_watch.specs.Expressions.{word_at}
use Rattle.lc_watch.proofs.loading.words_at.Given as goal

-- the words so far are those of the payload
abbrev pub invariant-loop-k : goal.invariant-loop-k
invariant-loop-k l = record {
  whole : length l.words ≡ 16;
  read : take l.k l.words ≡ map (word_at l.payload l.from) (range_with_len 0 l.k);
}
