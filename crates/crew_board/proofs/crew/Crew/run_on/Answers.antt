use Rattle.std.proofs.Common.{◌≡◌, ℕ, ◌<◌, List, length, sym, ap, ◌∙◌, subst, arith}
use Rattle.crew_board.specs.declared.row.Row.{Row}
use Rattle.std.proofs.lemmas.List.{length-map}
use Rattle.crew_board.specs.Seen.{Seen}
use Rattle.crew_board.specs.Work.{AreDraws, AreInOrder, IsRight}
use Rattle.crew_board.specs.Rows.{draws_of, first_scratches}
use Rattle.crew_board.specs.Ways.{AreLeft, AreLeftOf}
use Rattle.crew_board.proofs.Rows.{all_left, first_fits, in_order_rises, written_over}
use Rattle.crew_board.proofs.crew.Crew.run_on.Goals as goal

pub run_jobs-way-requires-clause-chosen : goal.run_jobs-way-requires-clause-chosen
run_jobs-way-requires-clause-chosen g c = λ _ _.
    let all = c.as_slice.result.now in
    let jobs = ap (λ (v : Seen g.row.S.Denot). v.jobs) c.self.view_is in
    let order = subst (λ (n : ℕ). AreInOrder n all) jobs (subst (AreInOrder c.self.inside.jobs) (sym c.as_slice.ensures.value) c.self.invariant.5) in
    let few = c.self.invariant.3 in
    let len = order.0 in
    (omega arith, subst (λ (n : ℕ). AreDraws n all) (sym c.requires.tasks) (in_order_rises c.args.self.now.jobs all order))

pub returns-clause-results : goal.returns-clause-results
returns-clause-results g c =
    let tasks = c.args.tasks.now in
    let jobs : ℕ = c.args.self.now.jobs in
    let new = c.run_jobs-way.new.rows in
    let old = c.self.inside.rows in
    let call = c.run_jobs-way.ensures in
    let is : length tasks ≡ jobs = c.requires.tasks in
    let len : length new ≡ old.len = (let a = call.len in let b = c.as_mut_slice.ensures.len in omega arith) in
    let some_ : 0 < length new = (let w = c.self.invariant.0 in omega arith) in
    let all = c.as_slice.result.now in
    let order = subst (λ (n : ℕ). AreInOrder n all) (ap (λ (v : Seen g.row.S.Denot). v.jobs) c.self.view_is) (subst (AreInOrder c.self.inside.jobs) (sym c.as_slice.ensures.value) c.self.invariant.5) in
    let done = λ (job : ℕ) (h : job < jobs). subst (λ (n : ℕ). IsRight g.T.Task.leaves tasks (first_scratches new) n) (order.1 job h) (call.done job (let all = order.0 in omega arith)) in
    subst
    (λ (rows : List (Row g.row.S.Denot)). (length (first_scratches rows) ≡ jobs) × ((job : ℕ) → job < jobs → IsRight g.T.Task.leaves tasks (first_scratches rows) job))
    (sym (written_over old.items new old.len len)) (first_fits (length tasks) new some_ call.fits ∙ is, done)

pub returns-clause-draws : goal.returns-clause-draws
returns-clause-draws g c =
    let new = c.run_jobs-way.new.rows in
    let old = c.self.inside.rows in
    let call = c.run_jobs-way.ensures in
    let jobs : ℕ = c.args.self.now.jobs in
    let workers : ℕ = length c.args.self.now.drawn in
    let len : length new ≡ old.len = (let a = call.len in let b = c.as_mut_slice.ensures.len in omega arith) in
    let all = c.as_slice.result.now in
    let order = subst (λ (n : ℕ). AreInOrder n all) (ap (λ (v : Seen g.row.S.Denot). v.jobs) c.self.view_is) (subst (AreInOrder c.self.inside.jobs) (sym c.as_slice.ensures.value) c.self.invariant.5) in
    let count : length c.as_mut_slice.result.now ≡ workers =
    ap (λ (rows : List (Row g.row.S.Denot)). length rows) c.as_mut_slice.ensures.value ∙ sym (length-map old.items (λ (row : Row g.row.S.Denot). row.drawn.items)) ∙ ap (λ (v : Seen g.row.S.Denot). length v.drawn) c.self.view_is in
    let way = c.run_jobs-way.result in
    let left = all_left way jobs all workers (draws_of new) order
    (subst (λ (n : ℕ). AreLeftOf way n all workers (draws_of new)) c.requires.tasks (subst (λ (n : ℕ). AreLeftOf way (length c.args.tasks.now) all n (draws_of new)) count call.draws)) in
    subst (λ (rows : List (Row g.row.S.Denot)). AreLeft c.run_jobs-way.result jobs workers (draws_of rows)) (sym (written_over old.items new old.len len)) left
