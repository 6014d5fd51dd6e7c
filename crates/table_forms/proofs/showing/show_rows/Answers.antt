use Rattle.std.proofs.Common.{arith}
use Rattle.table_texts.proofs.LayoutLemmas.{layout_is}
use Rattle.table_forms.proofs.showing.show_rows.Goals as goal

pub show_entries-requires-clause-places : goal.show_entries-requires-clause-places
show_entries-requires-clause-places c = let few = (layout_is _ c.requires.layout).few in omega (arith, few)
