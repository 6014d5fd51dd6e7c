use Rattle.std.proofs.Common.{◌≡◌, ◌≢◌, true, refl, sym, ap, ◌∙◌, subst, set, List, arith}
use Rattle.sc_tables.specs.Commands.{commands_in}
use Rattle.sc_sequences.specs.Sequences.{Sequence, waiting}
use Rattle.sc_sequences.specs.Histories.{begun_at, at_start}
use Rattle.sc_sequences.specs.State.{CursorsStand}
use Rattle.sc_sequences.specs.declared.cursors.Cursor.{Cursor}
use Rattle.sc_sequences.proofs.Beginning.{begins_waiting, begins_started}
use Rattle.sc_sequences.proofs.duty.begin.Goals as goal

pub returns-then-len-gt0 : goal.returns-then-len-gt0
returns-then-len-gt0 c =
    let tables = c.args.tables.now in
    let first : Sequence = record (waiting (commands_in tables 2)) { enabled = true } in
    let apart : c.len.result ≢ 0 = omega arith in
    subst (λ (cursors : List Cursor). CursorsStand tables (at_start (begun_at c.args.now tables)).all cursors) (sym (c.set.ensures ∙ ap (λ (cursors : List Cursor). set cursors 2 c.cursor_at.result) c.waiting-cursors.ensures))
    (begins_started tables c.args.now c.len.result c.cursor_at.result c.len.ensures.tables.whole c.len.ensures.count apart (c.cursor_at.ensures.stands first refl refl))

pub returns : goal.returns
returns c =
    let tables = c.args.tables.now in
    subst (λ (cursors : List Cursor). CursorsStand tables (at_start (begun_at c.args.now tables)).all cursors) (sym c.waiting-cursors.ensures)
    (begins_waiting tables c.args.now c.len.result c.len.ensures.tables.whole c.len.ensures.count (let none : c.len.result ≡ 0 = omega arith in none))
