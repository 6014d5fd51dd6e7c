use Rattle.std.proofs.Common.{◌≡◌, ◌<◌, length, get_or, set, sym, ◌∙◌, subst, arith}
use Rattle.std.proofs.lemmas.List.{get_or_read}
use Rattle.std.proofs.lemmas.List.Elements.{All-push}
use Rattle.crew_board.specs.Work.{AreDone, AreDraws}
use Rattle.crew_board.proofs.Times.{rises_few, rises_push}
use Rattle.crew_board.proofs.Exchanges.{done_more}
use Rattle.crew_board.proofs.work.perform.Goals as goal

pub push_reserved-requires : goal.push_reserved-requires
push_reserved-requires g c =
    let worked = c.requires.worked in
    let few = rises_few c.args.row.now.drawn.items c.args.job worked.draws.0 c.requires.new in
    let len = c.args.row.now.drawn.ok.0 in
    let room = worked.fits.room in
    let job = c.requires.job in
    omega arith

pub returns-clause-worked : goal.returns-clause-worked
returns-clause-worked g c =
    let worked = c.requires.worked in
    let tasks = c.args.tasks.now in
    let row = c.args.row.now in
    let items = c.push_reserved.ensures.items in
    let inside : c.args.job < length row.scratches.items = (let len = row.scratches.ok.0 in let fits = worked.fits.scratches in let job = c.requires.job in omega arith) in
    let left = λ (t : g.row.T.Denot) (is : get_or tasks c.args.job t ≡ t).
    subst (λ (u : g.row.T.Denot). g.T.Task.leaves u c.perform.new.scratch) (get_or_read tasks c.args.job c.index-tasks-at.result c.requires.job c.index-tasks-at.is t ∙ is) c.perform.ensures in
    record {
      fits = record { scratches = worked.fits.scratches; room = (let room = worked.fits.room in let kept = c.push_reserved.ensures.capacity in omega arith) };
      draws = subst (AreDraws (length tasks)) (sym items)
          (rises_push row.drawn.items c.args.job worked.draws.0 c.requires.new, All-push (λ job. job < length tasks) row.drawn.items c.args.job worked.draws.1 c.requires.job);
      done = subst (AreDone g.T.Task.leaves tasks (set row.scratches.items c.args.job c.perform.new.scratch)) (sym items)
          (done_more g.T.Task.leaves tasks row.scratches.items row.drawn.items c.args.job c.perform.new.scratch inside c.requires.new left worked.done);
    }
