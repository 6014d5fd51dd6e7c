-- How many LFs there are in two lists of bytes.
use Rattle.std.proofs.Common.{◌≡◌, ℕ, ◌+◌, List, ◌++◌, cond}
use Rattle.std.specs.Prelude.{◌==◌}
use Rattle.std.proofs.lemmas.List.Sums.{sum_by-append}
use Rattle.fsw_outside.specs.Tally.{line_ends}

pub ends_both : (xs ys : List ℕ) → line_ends (xs ++ ys) ≡ line_ends xs + line_ends ys
ends_both xs ys = sum_by-append (λ b. cond (b == 10) 1 0) xs ys
