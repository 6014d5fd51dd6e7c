use Rattle.std.proofs.Common.{ℕ, get_or, refl, ◌∙◌, arith}
use Rattle.crew_board.specs.Rows.{draws_of}
use Rattle.crew_board.proofs.Rows.{shared_left}
use Rattle.crew_board.proofs.Times.{found_in, stands}
use Rattle.crew_board.proofs.run.run_together.Goals as goal

pub returns-in-Shared-clause-done : goal.returns-in-Shared-clause-done
returns-in-Shared-clause-done g c = λ k h.
    let shared = c.in-Shared.ensures.shared refl in
    let chosen = c.args.chosen.now in
    let job : ℕ = get_or chosen k 0 in
    let here = stands job chosen k h refl in
    let once = shared.once job in
    c.collect_results.ensures.done job (found_in job (draws_of c.share_jobs.new.rows) (omega arith))

pub returns-in-Shared-clause-others : goal.returns-in-Shared-clause-others
returns-in-Shared-clause-others g c = λ job s none.
    let shared = c.in-Shared.ensures.shared refl in
    c.collect_results.ensures.others job s (shared.once job ∙ none) ∙ c.share_jobs.ensures.others job s none

pub returns-in-Alone-clause-others : goal.returns-in-Alone-clause-others
returns-in-Alone-clause-others g c = λ job s none. c.work_alone.ensures.others job s none ∙ c.share_jobs.ensures.others job s none

pub returns-in-Shared-clause-draws : goal.returns-in-Shared-clause-draws
returns-in-Shared-clause-draws g c =
    shared_left g.T.Task.leaves c.args.tasks.now c.args.chosen.now c.share_jobs.new.rows c.collect_results.new.rows _ (c.in-Shared.ensures.shared refl) c.collect_results.ensures.draws c.share_jobs.ensures.len
