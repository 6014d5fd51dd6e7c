use Rattle.table_warnings.specs.Ranges.{split_at}
use Rattle.table_warnings.proofs.RangeLemmas.{place_more}
use Rattle.table_warnings.proofs.ranges.find_in_checksums.Goals as goal

pub loop-place-preserved : goal.loop-place-preserved
loop-place-preserved c = place_more (split_at c.args.map.now c.args.payload.now) c.loop-place.place c.split_at.result c.loop-place.warnings.items _ c.split_at.ensures c.loop-place.invariant c.in_ok-add_warning.ensures
