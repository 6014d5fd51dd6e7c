use Rattle.std.proofs.Common.{refl, sym, ◌∙◌, arith}
use Rattle.std.proofs.lemmas.Bool.{false≢true}
use Rattle.app_suite.proofs.jobs.wake_all.Goals as goal

pub returns-then-watched-clause-left : goal.returns-then-watched-clause-left
returns-then-watched-clause-left g c =
    let done = c.run_busy.ensures.left in
    record {
      hs = λ left at. done 0 (omega arith) _ left refl at;
      cs = λ left at. done 1 (omega arith) _ left refl at;
      sc = λ left at. done 2 (omega arith) _ left refl at;
      mm = λ left at. done 3 (omega arith) _ left refl at;
      md = λ left at. done 4 (omega arith) _ left refl at;
      lc = λ watched left at. done 5 (omega arith) _ left refl at;
    }

pub returns-else-watched-clause-left : goal.returns-else-watched-clause-left
returns-else-watched-clause-left g c =
    let done = c.run_busy-else-watched.ensures.left in
    record {
      hs = λ left at. done 0 (omega arith) _ left refl at;
      cs = λ left at. done 1 (omega arith) _ left refl at;
      sc = λ left at. done 2 (omega arith) _ left refl at;
      mm = λ left at. done 3 (omega arith) _ left refl at;
      md = λ left at. done 4 (omega arith) _ left refl at;
      lc = λ watched. absurd (false≢true (sym c.if-watched.false ∙ watched));
    }
