use Rattle.std.proofs.Common.{◌≡◌, ℕ, ◌<◌, List, length, get_or, sym, ap, ◌∙◌, subst, arith}
use Rattle.crew_board.specs.declared.row.Row.{Row}
use Rattle.std.proofs.lemmas.List.{length-map}
use Rattle.crew_board.specs.Seen.{Seen}
use Rattle.crew_board.specs.Work.{AreDone, AreDraws}
use Rattle.crew_board.specs.Rows.{draws_of, first_scratches}
use Rattle.crew_board.specs.Ways.{AreLeftOf}
use Rattle.crew_board.proofs.Rows.{first_fits, were_first, written_over}
use Rattle.crew_board.proofs.Times.{rises_few}
use Rattle.crew_board.proofs.crew.Crew.run_chosen.Goals as goal

pub run_jobs-way-requires-clause-chosen : goal.run_jobs-way-requires-clause-chosen
run_jobs-way-requires-clause-chosen g c = λ _ _.
    let chosen = c.args.chosen.now in
    let draws = c.requires.chosen in
    let jobs = ap (λ (v : Seen g.row.S.Denot). v.jobs) c.self.view_is in
    let few = c.self.invariant.3 in
    let length_ = rises_few chosen c.args.self.now.jobs draws.0 (λ k d h. draws.1 k d h) in
    (omega arith, subst (λ (n : ℕ). AreDraws n chosen) (sym c.requires.tasks) draws)

pub returns-clause-results : goal.returns-clause-results
returns-clause-results g c =
    let tasks = c.args.tasks.now in
    let jobs : ℕ = c.args.self.now.jobs in
    let new = c.run_jobs-way.new.rows in
    let old = c.self.inside.rows in
    let call = c.run_jobs-way.ensures in
    let is : length tasks ≡ jobs = c.requires.tasks in
    let len : length new ≡ old.len = (let a = call.len in let b = c.as_mut_slice.ensures.len in omega arith) in
    let some_ : 0 < length new = (let w = c.self.invariant.0 in omega arith) in
    subst
    (λ (rows : List (Row g.row.S.Denot)). (length (first_scratches rows) ≡ jobs) × AreDone g.T.Task.leaves tasks (first_scratches rows) c.args.chosen.now)
    (sym (written_over old.items new old.len len)) (first_fits (length tasks) new some_ call.fits ∙ is, call.done)

pub returns-clause-draws : goal.returns-clause-draws
returns-clause-draws g c =
    let new = c.run_jobs-way.new.rows in
    let old = c.self.inside.rows in
    let call = c.run_jobs-way.ensures in
    let jobs : ℕ = c.args.self.now.jobs in
    let workers : ℕ = length c.args.self.now.drawn in
    let len : length new ≡ old.len = (let a = call.len in let b = c.as_mut_slice.ensures.len in omega arith) in
    let count : length c.as_mut_slice.result.now ≡ workers =
    ap (λ (rows : List (Row g.row.S.Denot)). length rows) c.as_mut_slice.ensures.value ∙ sym (length-map old.items (λ (row : Row g.row.S.Denot). row.drawn.items)) ∙ ap (λ (v : Seen g.row.S.Denot). length v.drawn) c.self.view_is in
    let way = c.run_jobs-way.result in
    let chosen = c.args.chosen.now in
    let left = subst (λ (n : ℕ). AreLeftOf way n chosen workers (draws_of new)) c.requires.tasks (subst (λ (n : ℕ). AreLeftOf way (length c.args.tasks.now) chosen n (draws_of new)) count call.draws) in
    subst (λ (rows : List (Row g.row.S.Denot)). AreLeftOf c.run_jobs-way.result jobs c.args.chosen.now workers (draws_of rows)) (sym (written_over old.items new old.len len)) left

pub returns-clause-others : goal.returns-clause-others
returns-clause-others g c = λ ran job s none.
    let new = c.run_jobs-way.new.rows in
    let old = c.self.inside.rows in
    let call = c.run_jobs-way.ensures in
    let len : length new ≡ old.len = (let a = call.len in let b = c.as_mut_slice.ensures.len in omega arith) in
    let at = λ (l : List g.row.S.Denot). get_or l job s in
    ap (λ (rows : List (Row g.row.S.Denot)). at (first_scratches rows)) (written_over old.items new old.len len) ∙ call.others job s none
    ∙ ap (λ (rows : List (Row g.row.S.Denot)). at (first_scratches rows)) c.as_mut_slice.ensures.value
    ∙ ap at (were_first c.self.inside.ran (first_scratches old.items) c.args.self.now.results (ap (λ (v : Seen g.row.S.Denot). v.results) c.self.view_is) ran)
