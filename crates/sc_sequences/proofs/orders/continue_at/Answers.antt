use Rattle.std.proofs.Common.{◌∙◌, ap, sym, subst, drop, set, List}
use Rattle.sc_tables.specs.Commands.{commands_in}
use Rattle.sc_sequences.specs.Sequences.{going_on, at_place}
use Rattle.sc_sequences.specs.State.{CursorsStand}
use Rattle.sc_sequences.specs.declared.cursors.Cursor.{Cursor}
use Rattle.sc_sequences.proofs.Changes.{set_stands}
use Rattle.sc_sequences.proofs.orders.continue_at.Goals as goal

pub returns : goal.returns
returns c = λ all stood.
    let tables = c.args.tables.now in
    let place = c.args.place in
    let s = at_place all place in
    let here = stood.each place c.requires.place in
    let new = going_on place c.args.now (drop c.args.at (commands_in tables place)) s in
    subst (λ (cursors : List Cursor). CursorsStand tables (set all place new) cursors) (sym c.set.ensures)
    (set_stands tables all c.args.cursors.now place new c.cursor_at.result c.requires.place stood
    (c.cursor_at.ensures.stands s here.loaded (sym here.enabled ∙ ap (λ (k : Cursor). k.enabled) (sym c.get-cursor.ensures.cursor))))
