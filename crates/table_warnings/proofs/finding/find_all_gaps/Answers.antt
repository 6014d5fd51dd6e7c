use Rattle.table_warnings.specs.Warned.{gap_at}
use Rattle.table_warnings.proofs.RangeLemmas.{place_more}
use Rattle.table_warnings.proofs.finding.find_all_gaps.Goals as goal

pub loop-place-preserved : goal.loop-place-preserved
loop-place-preserved c = place_more (gap_at c.args.kind c.args.payload.now) c.loop-place.place c.gap_at.result c.loop-place.warnings.items _ c.gap_at.ensures c.loop-place.invariant c.in_ok-add_warning.ensures
