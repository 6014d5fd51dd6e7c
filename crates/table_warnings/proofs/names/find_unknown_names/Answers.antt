use Rattle.table_warnings.specs.Names.{unknown_at}
use Rattle.table_warnings.proofs.RangeLemmas.{place_more}
use Rattle.table_warnings.proofs.names.find_unknown_names.Goals as goal

pub loop-place-preserved : goal.loop-place-preserved
loop-place-preserved c = place_more (unknown_at c.args.kind c.args.known.now c.args.payload.now) c.loop-place.place c.unknown_at.result c.loop-place.warnings.items _ c.unknown_at.ensures c.loop-place.invariant c.in_ok-add_warning.ensures
