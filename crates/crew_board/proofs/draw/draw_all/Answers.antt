use Rattle.std.proofs.Common.{arith}
use Rattle.crew_board.specs.declared.row.Row.{Row}
use Rattle.crew_board.proofs.Rows.{chunk_stays, some_row}
use Rattle.crew_board.proofs.draw.draw_all.Goals as goal

pub returns-clause-others : goal.returns-clause-others
returns-clause-others g c =
    let rows = c.args.rows.now in
    let some_ = c.requires.some_rows in
    let d : Row g.row.S.Denot = some_row rows some_ in
    let b = (c.for_each_chunk_mut.ensures.by_index 0 d some_).1 in
    chunk_stays c.args.chosen.now rows c.for_each_chunk_mut.new.s b.argument.now b.after_call.now d b.start b.offset b.start_plus_offset b.argument_is b.call.0 b.new_element
    (let len = c.for_each_chunk_mut.auto.s in omega arith) b.call.1.1.1
