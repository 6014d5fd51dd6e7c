use Rattle.std.proofs.Common.{◌≡◌, ◌∷◌, codes, map, take}
use Rattle.rehearsal.proofs.words.with_name.Given as goal

-- the name and the words so far
abbrev pub invariant-places : goal.invariant-places
invariant-places l = map (λ text. text.now) l.texts.items ≡ codes "vigil" ∷ take l.place l.words
