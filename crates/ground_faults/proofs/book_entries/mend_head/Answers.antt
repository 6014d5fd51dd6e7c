use Rattle.std.proofs.Common.{◌≤◌, length, sym, arith}
use Rattle.std.proofs.lemmas.List.{length-take-le}
use Rattle.ground_faults.proofs.book_entries.mend_head.Goals as goal

pub slice_bounds-copy_from_slice-end-3 : goal.slice_bounds-copy_from_slice-end-3
slice_bounds-copy_from_slice-end-3 c =
    let long : 22 ≤ length c.fill.new.self = omega (arith, c.if-line.false, c.fill.ensures.len) in
    sym (length-take-le 22 c.fill.new.self long)
