use Rattle.std.proofs.Common.{◌<◌, List, length, get_or, ap, ◌∙◌, arith}
use Rattle.crew_board.specs.Rows.{first_scratches}
use Rattle.crew_board.proofs.Rows.{first_taken, first_with_idle, shared_with_idle}
use Rattle.crew_board.proofs.claim.share_jobs.Goals as goal

pub returns-clause-shared : goal.returns-clause-shared
returns-clause-shared g c = λ is.
    let idle = c.forget_draws.ensures in
    shared_with_idle g.T.Task.leaves c.args.tasks.now c.args.chosen.now c.draw_together.new.rows c.forget_draws.new.rows _ (c.draw_together.ensures.shared is) idle.worked idle.draws

pub returns-clause-others : goal.returns-clause-others
returns-clause-others g c = λ job s none.
    let at = λ (l : List g.row.S.Denot). get_or l job s in
    let active : 0 < length c.draw_together.new.rows = (let len = c.draw_together.ensures.len in let used = c.requires.used in let parts = c.split_at_mut-active.ensures in omega arith) in
    ap at (first_with_idle c.draw_together.new.rows c.forget_draws.new.rows active) ∙ c.draw_together.ensures.others job s none
    ∙ ap at (ap first_scratches c.split_at_mut-active.ensures.front ∙ first_taken c.args.used c.args.rows.now c.requires.used.0)
