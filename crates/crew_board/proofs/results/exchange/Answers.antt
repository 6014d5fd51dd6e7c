use Rattle.std.proofs.Common.{ℕ, ◌<◌, length, get_or, refl, ◌∙◌, arith, length-set}
use Rattle.std.proofs.lemmas.List.{get_or-set_other, get_or_default}
use Rattle.crew_board.proofs.Drawing.{left_out_differs}
use Rattle.crew_board.proofs.Exchanges.{exchanged_more}
use Rattle.crew_board.proofs.results.exchange.Goals as goal

pub loop-job-preserved : goal.loop-job-preserved
loop-job-preserved g c =
    let inv = c.loop-job.invariant in
    let results = c.loop-job.results in
    let from = c.loop-job.from in
    let jobs = c.args.jobs.now in
    let i : ℕ = c.loop-job.job-index in
    let at : ℕ = get_or jobs i 0 in
    let test : i < length jobs = omega arith in
    let is_job = c.requires.draws.1 i 0 test in
    let in_results : at < length results = (let len = inv.results in omega arith) in
    let in_from : at < length from = (let len = inv.from in omega arith) in
    let new = c.swap.new in
    let is = c.swap.ensures.x_after ∙ get_or_default from at c.index-from-at.result new.x in_from in
    record {
      results = length-set results at new.x ∙ inv.results;
      from = length-set from at new.y ∙ inv.from;
      exchanged = exchanged_more g.T.Task.leaves c.args.tasks.now c.args.results.now results from jobs i at new.x new.y c.requires.draws.0 test refl in_results is inv.exchanged;
      others = λ job s none. get_or-set_other results at job new.x s (left_out_differs jobs job i none test) ∙ inv.others job s none;
    }
