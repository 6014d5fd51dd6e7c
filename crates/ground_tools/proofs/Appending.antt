-- Lemmas on bytes that are appended.
use Rattle.std.proofs.Common.{ℕ, List, [], ◌++◌, ap, sym, ◌∙◌, append_assoc, append-nil}
use Rattle.ground_tools.specs.Appended.{Appends}

pub appends_none : (xs : List ℕ) → Appends xs xs
appends_none xs = ([], sym (append-nil xs))

pub appends_on : (xs ys zs : List ℕ) → Appends xs ys → Appends ys zs → Appends xs zs
appends_on xs ys zs one two = (one.0 ++ two.0, two.1 ∙ ap (λ (ws : List ℕ). ws ++ two.0) one.1 ∙ append_assoc xs one.0 two.0)
