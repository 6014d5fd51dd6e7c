use Rattle.std.proofs.Common.{◌≡◌, ◌*◌, length, take, Some}
use Rattle.scenario.specs.Words.{hex}
use Rattle.scenario.proofs.words.long_hex.Given as goal

abbrev pub invariant-eights : goal.invariant-eights
invariant-eights l = record {
  size : length l.places ≡ 256;
  read : hex (take (16 * l.k) l.word) ≡ Some (take (8 * l.k) l.places);
}
