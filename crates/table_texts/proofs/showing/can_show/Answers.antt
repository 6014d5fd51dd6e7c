use Rattle.std.proofs.Common.{arith}
use Rattle.std.proofs.lemmas.Bool.Decides.{nat_tests}
use Rattle.table_texts.proofs.LayoutLemmas.{layout_is, area_of}
use Rattle.table_texts.proofs.showing.can_show.Goals as goal

pub overflow_sub-size : goal.overflow_sub-size
overflow_sub-size c = (area_of c.args.layout.now (layout_is _ c.requires.layout) (grind (arith, nat_tests))).room

pub packet_at-requires : goal.packet_at-requires
packet_at-requires c = let is = layout_is _ c.requires.layout in omega (arith, is.small)
