use Rattle.std.proofs.Common.{arith, ◌-◌}
use Rattle.table_texts.proofs.LayoutLemmas.{layout_is, gap_room}
use Rattle.table_texts.proofs.entries.end_entries.Goals as goal

pub overflow_mul-layout : goal.overflow_mul-layout
overflow_mul-layout c =
    let is = layout_is _ c.requires.layout in
    omega (arith, gap_room (c.args.layout.now.count - c.args.place) c.args.layout.now.count c.args.layout.now.size (omega arith) is.few is.small)
