use Rattle.std.proofs.Common.{ℕ, ◌<◌, List, ◌++◌, ◌∷◌, [], length, get_or, sym, ap, ◌∙◌, subst, arith, All}
use Rattle.std.proofs.lemmas.List.{get_or-take, get_or_default, length-take, take_more}
use Rattle.crew_board.proofs.Drawing.{left_out_differs}
use Rattle.crew_board.proofs.work.perform_all.Goals as goal

pub perform-requires-clause-job : goal.perform-requires-clause-job
perform-requires-clause-job g c = λ _ _. c.requires.chosen.1 c.loop-job.job-index 0 (omega arith)

pub perform-requires-clause-new : goal.perform-requires-clause-new
perform-requires-clause-new g c = λ _ _.
    let chosen = c.args.chosen.now in
    let i : ℕ = c.loop-job.job-index in
    let inside : i < length chosen = omega arith in
    subst (All (λ earlier. earlier < get_or chosen i 0)) (sym c.loop-job.invariant.drawn)
    (λ k d h.
    (let len = length-take i chosen in
    let is = get_or-take i chosen k d (omega arith) in
    let plain = get_or_default chosen k d 0 (omega arith) in
    let r = c.requires.chosen.0 k i (omega arith) inside in omega arith))

pub loop-job-preserved : goal.loop-job-preserved
loop-job-preserved g c =
    let inv = c.loop-job.invariant in
    let chosen = c.args.chosen.now in
    let i : ℕ = c.loop-job.job-index in
    let inside : i < length chosen = omega arith in
    record {
      worked = c.perform.ensures.worked;
      drawn = c.perform.ensures.drawn ∙ ap (λ (l : List ℕ). l ++ get_or chosen i 0 ∷ []) inv.drawn ∙ sym (take_more chosen i 0 inside);
      others = λ job s none. c.perform.ensures.others job s (left_out_differs chosen job i none inside) ∙ inv.others job s none;
    }
