use Rattle.std.proofs.Common.{arith, ◌-◌}
use Rattle.table_texts.proofs.LayoutLemmas.{layout_is, gap_room}
use Rattle.table_texts.proofs.entries.read_placed.Goals as goal

pub overflow_mul-entry : goal.overflow_mul-entry
overflow_mul-entry c =
    let is = layout_is _ c.requires.layout in
    omega (arith, gap_room (c.args.entry - 1 - c.args.place) c.args.form.now.layout.count c.args.form.now.layout.size (omega arith) is.few is.small)
