use Rattle.std.proofs.Common.{◌≡◌, ℕ, sym, ap, ◌∙◌, arith}
use Rattle.std.proofs.lemmas.Option.{same_Some}
use Rattle.atomic_table.specs.Table.{Me}
use Rattle.atomic_table.specs.declared.shared.Seat.{Seat}
use Rattle.crew_board.specs.declared.board.View.{View}
use Rattle.crew_board.proofs.Steps.{joins_one}
use Rattle.crew_board.proofs.seats.collect_one.Goals as goal

pub join_seat-requires : goal.join_seat-requires
join_seat-requires g c =
    let ended = c.requires.ended in
    let held = ended.seat in
    let word = c.args.word.now in
    let first = c.args.first.now in
    let board = c.requires.board in
    let same : c.in-Some.seat ≡ held.seat = same_Some c.in-Some.seat held.seat (sym c.in-Some.is ∙ c.take.ensures.value ∙ held.is) in
    let me_is = ap (λ (s : Seat ℕ View). s.me) same ∙ held.me in
    let words = board.1 in (
      board.2,
      ap (λ (s : Seat ℕ View). s.table_id) same ∙ held.table,
      ap (λ (m : Me ℕ View). m.1) me_is,
      omega arith,
      joins_one word.key first.id c.in-Some.seat.id first.me.0 ended.list c.in-Some.seat.me me_is c.requires.first,
    )
