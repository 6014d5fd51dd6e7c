use Rattle.std.proofs.Common.{List, [], ◌∷◌, get_or, sym, ap, ◌∙◌, subst}
use Rattle.crew_board.specs.declared.row.Row.{Row}
use Rattle.crew_board.specs.Rows.{first_scratches}
use Rattle.crew_board.specs.Work.{AreDone}
use Rattle.crew_board.proofs.Rows.{one_shared, shared_with_idle}
use Rattle.crew_board.proofs.claim.draw_alone.Goals as goal

pub returns-clause-shared : goal.returns-clause-shared
returns-clause-shared g c =
    let row = c.perform_all.new.row in
    let idle = c.forget_draws.ensures in
    let call = c.perform_all.ensures in
    let chosen = c.args.chosen.now in
    shared_with_idle g.T.Task.leaves c.args.tasks.now chosen (row ∷ []) c.forget_draws.new.rows _ (one_shared g.T.Task.leaves c.args.tasks.now chosen row call.worked call.drawn) idle.worked idle.draws

pub returns-clause-done : goal.returns-clause-done
returns-clause-done g c =
    let call = c.perform_all.ensures in
    subst (AreDone g.T.Task.leaves c.args.tasks.now c.perform_all.new.row.scratches.items) call.drawn call.worked.done

pub returns-clause-others : goal.returns-clause-others
returns-clause-others g c = λ job s none.
    c.perform_all.ensures.others job s none ∙ ap (λ (rows : List (Row g.row.S.Denot)). get_or (first_scratches rows) job s) (sym c.in-Some.ensures.cases.0)
