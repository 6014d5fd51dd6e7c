use Rattle.std.proofs.Common.{◌≡◌, ℕ, true, ap, arith}
use Rattle.atomic_table.specs.Table.{Me}
use Rattle.crew_board.specs.declared.board.View.{View}
use Rattle.crew_board.proofs.Steps.{splits}
use Rattle.crew_board.proofs.seats.deal.Goals as goal

pub split_seat-requires : goal.split_seat-requires
split_seat-requires g c =
    let inv = c.loop-row.invariant in
    let word = c.args.word.now in
    let board = c.requires.board.1 in
    let first = c.loop-row.first in
    let mark : first.me.0.first ≡ true = ap (λ (m : Me ℕ View). m.0.first) inv.me in
    let split : first.me.0.split ≡ c.loop-row.row-index = ap (λ (m : Me ℕ View). m.0.split) inv.me in
    let few = c.requires.few.1 in
    let len = inv.len in
    let test = c.loop-row-test.true in
    (inv.table, omega arith, splits word.key first.id first.me.0 mark (omega arith))
