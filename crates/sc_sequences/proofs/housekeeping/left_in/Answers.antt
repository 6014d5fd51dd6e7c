use Rattle.std.proofs.Common.{◌<◌, ◌-◌, ◌∙◌, ap, sym, arith}
use Rattle.sc_sequences.specs.Housekeeping.{left_in}
use Rattle.sc_sequences.specs.declared.cursors.Cursor.{Cursor}
use Rattle.sc_sequences.proofs.Showing.{left_is_shown}
use Rattle.sc_sequences.proofs.housekeeping.left_in.Goals as goal

pub returns-in-None : goal.returns-in-None
returns-in-None c = λ all stood. sym (ap (left_in all) (sym (c.running_ats.ensures.place c.args.tables.now all stood) ∙ c.in-None.is))

pub returns-in-Some : goal.returns-in-Some
returns-in-Some c = λ all stood.
    let tables = c.args.tables.now in
    let place = c.in-Some.place in
    let inside : place < 66 = (let two = c.in-Some.ensures.within in omega arith) in
    c.saturating_sub.ensures ∙ ap (λ (k : Cursor). c.len.result - k.at) c.get.ensures.cursor
    ∙ left_is_shown tables all c.args.cursors.now place c.len.result stood inside (sym (c.running_ats.ensures.place tables all stood) ∙ c.in-Some.is) c.len.ensures.count
