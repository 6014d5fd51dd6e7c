use Rattle.std.proofs.Common.{arith}
use Rattle.hs_monitors.proofs.Passing.{least_more}
use Rattle.hs_monitors.proofs.kept.least_of.Goals as goal

pub loop-place-preserved : goal.loop-place-preserved
loop-place-preserved c =
    let e = c.least_with-least.ensures in
    record {
      some = e.some;
      each = least_more c.args.watched.now c.loop-place.place c.loop-place.least c.least_with-least.result c.loop-place.invariant.each e.before e.here;
    }

pub returns-clause-least : goal.returns-clause-least
returns-clause-least c = λ k within. c.loop-place.invariant.each k (omega arith)
