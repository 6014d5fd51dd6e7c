use Rattle.std.proofs.Common.{ℕ, List, [], replicate, ap, ◌∙◌, arith}
use Rattle.crew_board.proofs.Rows.{none_drew}
use Rattle.crew_board.proofs.work.forget_draws.Goals as goal

pub returns-clause-draws : goal.returns-clause-draws
returns-clause-draws g c =
    let inv = c.loop-row.invariant in
    none_drew c.loop-row.rows (λ k d h. inv.none k d (omega arith)) ∙ ap (λ (n : ℕ). replicate {A = List ℕ} n []) inv.len
