use Rattle.std.proofs.Common.{◌≡◌, ℕ, List, ◌++◌}
use Rattle.ground_checks.proofs.read_faults.clear_more.Given as goal

-- entries were added
abbrev pub invariant-entries : goal.invariant-entries
invariant-entries l = (more : List ℕ) × (l.entries.items ≡ l.fn.entries.items ++ more)
