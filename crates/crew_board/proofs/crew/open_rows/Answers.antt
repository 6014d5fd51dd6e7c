use Rattle.std.proofs.Common.{◌≡◌, ℕ, List, [], length, replicate, ap, ◌∙◌, arith}
use Rattle.crew_board.proofs.Rows.{none_drew}
use Rattle.crew_board.proofs.crew.open_rows.Goals as goal

pub returns-clause-none : goal.returns-clause-none
returns-clause-none g c =
    let inv = c.loop-worker.invariant in
    let count : length c.loop-worker.rows.items ≡ c.args.workers = (let a = c.loop-worker.rows.ok.0 in let b = inv.len in omega arith) in
    none_drew c.loop-worker.rows.items inv.none ∙ ap (λ (n : ℕ). replicate {A = List ℕ} n []) count
