use Rattle.table_warnings.specs.Warned.{unwatched_at}
use Rattle.table_warnings.proofs.RangeLemmas.{place_behind}
use Rattle.table_warnings.proofs.finding.warn_unwatched.Goals as goal

pub loop-place-preserved : goal.loop-place-preserved
loop-place-preserved c = place_behind (unwatched_at c.args.payload.now) c.loop-place.place c.unwatched_at.result c.args.warnings.now.items c.loop-place.warnings.items _ c.unwatched_at.ensures c.loop-place.invariant c.in_ok-add_warning.ensures
