use Rattle.std.proofs.Common.{◌≡◌, length, take}
use Rattle.scenario.proofs.WordsLemmas.{IsRead}
use Rattle.scenario.proofs.words.short_hex.Given as goal

abbrev pub invariant-pairs : goal.invariant-pairs
invariant-pairs l = record {
  length : length l.places ≡ 256;
  read : IsRead l.word (take l.i l.places) l.i l.bits;
}
