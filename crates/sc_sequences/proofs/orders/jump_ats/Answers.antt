use Rattle.std.proofs.Common.{◌≡◌, ◌<◌, ◌∙◌, Some, ap, sym, subst, drop, set, List, arith}
use Rattle.sc_tables.specs.Commands.{TimedCommand, commands_in}
use Rattle.sc_sequences.specs.Sequences.{going_on, at_place, from_time, running_ats}
use Rattle.sc_sequences.specs.Orders.{jumped}
use Rattle.sc_sequences.specs.Cursors.{cursor_in}
use Rattle.sc_sequences.specs.State.{CursorsStand}
use Rattle.sc_sequences.specs.declared.cursors.Cursor.{Cursor}
use Rattle.sc_sequences.proofs.Changes.{placed_stands, unplaced_stands}
use Rattle.sc_sequences.proofs.Refusing.{running_runs, left_running}
use Rattle.sc_sequences.proofs.orders.jump_ats.Goals as goal

pub returns-in_default : goal.returns-in_default
returns-in_default c = λ all stood.
    unplaced_stands c.args.tables.now all c.args.cursors.now (running_ats all) (λ place. jumped c.args.now c.args.time place) (sym (c.running_ats.ensures.place c.args.tables.now all stood) ∙ c.in_default.is) stood

pub returns : goal.returns
returns c = λ all stood.
    let tables = c.args.tables.now in
    let place = c.in-Some.place in
    let s = at_place all place in
    let found : running_ats all ≡ Some place = sym (c.running_ats.ensures.place tables all stood) ∙ c.in-Some.is in
    let inside : place < 66 = (let two = c.in-Some.ensures.within in omega arith) in
    let left = left_running (commands_in tables place) s (cursor_in c.args.cursors.now place) (stood.each place inside) (running_runs all place found) in
    let is = c.first_from-at.ensures.left ∙ ap (λ (k : Cursor). from_time c.args.time (drop k.at (commands_in tables place))) c.get.ensures.cursor ∙ ap (from_time c.args.time) left in
    placed_stands tables all c.continue_at.new.cursors (running_ats all) place (λ p. jumped c.args.now c.args.time p) found
    (subst (λ (commands : List TimedCommand). CursorsStand tables (set all place (going_on place c.args.now commands s)) c.continue_at.new.cursors) is (c.continue_at.ensures all stood))
