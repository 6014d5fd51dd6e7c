use Rattle.std.proofs.Common.{◌<◌, length, ap, ◌∙◌, arith}
use Rattle.crew_board.specs.Seen.{Seen}
use Rattle.crew_board.specs.Rows.{first_scratches}
use Rattle.crew_board.proofs.Rows.{first_fits, ran_all}
use Rattle.crew_board.proofs.crew.Crew.has_run.Goals as goal

pub returns : goal.returns
returns g c = λ ran.
    let rows = c.self.inside.rows in
    let jobs = ap (λ (v : Seen g.row.S.Denot). v.jobs) c.self.view_is in
    let some_ : 0 < length rows.items = (let few = c.self.invariant.0 in let len = rows.ok.0 in omega arith) in
    ran_all c.self.inside.ran (first_scratches rows.items) c.args.self.now.results c.args.self.now.jobs (ap (λ (v : Seen g.row.S.Denot). v.results) c.self.view_is) ran
    (first_fits c.self.inside.jobs rows.items some_ c.self.invariant.4 ∙ jobs)
