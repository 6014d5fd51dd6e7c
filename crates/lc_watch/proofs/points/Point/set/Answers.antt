use Rattle.lc_watch.proofs.Rows.{point_set}
use Rattle.lc_watch.proofs.points.Point.set.Goals as goal

pub returns : goal.returns
returns c = λ start n evaluations settings stood. point_set start n evaluations settings c.args.self stood c.args.on
