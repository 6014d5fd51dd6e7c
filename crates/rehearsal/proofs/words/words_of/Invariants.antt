use Rattle.std.proofs.Common.{◌≡◌, map, take}
use Rattle.rehearsal.proofs.words.words_of.Given as goal

-- the texts so far
abbrev pub invariant-texts : goal.invariant-texts
invariant-texts l = l.words ≡ map (λ text. text.now) (take l.text-index l.texts)
