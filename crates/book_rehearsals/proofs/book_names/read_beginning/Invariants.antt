use Rattle.std.proofs.Common.{◌≡◌, ◌++◌, ℕ, List, Some}
use Rattle.book_rehearsals.proofs.book_names.read_beginning.Given as goal

abbrev pub invariant-pieces : goal.invariant-pieces
invariant-pieces g l = (whole : List ℕ) → g.F.Read.remaining l.fn.text ≡ Some whole → (rest : List ℕ) × (g.F.Read.remaining l.text ≡ Some rest) × (whole ≡ l.front.items ++ rest)
