use Rattle.std.proofs.Common.{refl}
use Rattle.lc_watch.specs.Firing.{starts_active}
use Rattle.lc_watch.proofs.Rows.{point_begun}
use Rattle.lc_watch.proofs.points.Point.begun.Goals as goal

pub returns : goal.returns
returns c = point_begun (starts_active c.args.row.now) c.args.row.now.failures _ refl refl
