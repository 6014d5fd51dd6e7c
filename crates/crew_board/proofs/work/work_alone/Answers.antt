use Rattle.std.proofs.Common.{List, get_or, sym, ap, ◌∙◌, subst}
use Rattle.crew_board.specs.Work.{AreDone}
use Rattle.crew_board.proofs.Rows.{first_of, first_written}
use Rattle.crew_board.proofs.work.work_alone.Goals as goal

pub returns-clause-done : goal.returns-clause-done
returns-clause-done g c =
    let rows = c.args.rows.now in
    let row = c.perform_all.new.row in
    let call = c.perform_all.ensures in
    let tasks = c.args.tasks.now in
    subst (λ (l : List g.row.S.Denot). AreDone g.T.Task.leaves tasks l c.args.chosen.now) (sym (c.forget_draws.ensures.scratches ∙ first_written rows row c.requires.some_rows))
    (subst (AreDone g.T.Task.leaves tasks row.scratches.items) call.drawn call.worked.done)

pub returns-clause-others : goal.returns-clause-others
returns-clause-others g c = λ job s none.
    let rows = c.args.rows.now in
    let some_ = c.requires.some_rows in
    ap (λ (l : List g.row.S.Denot). get_or l job s) (c.forget_draws.ensures.scratches ∙ first_written rows c.perform_all.new.row some_) ∙ c.perform_all.ensures.others job s none
    ∙ sym (ap (λ (l : List g.row.S.Denot). get_or l job s) (first_of rows c.index-rows-0.result some_))
