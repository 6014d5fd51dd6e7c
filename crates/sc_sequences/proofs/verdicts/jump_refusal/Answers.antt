use Rattle.std.proofs.Common.{◌≡◌, ◌∙◌, ◌<◌, drop, Some, true, false, sym, ap, arith}
use Rattle.sc_sequences.specs.Sequences.{has_some, from_time, running_ats}
use Rattle.sc_tables.specs.Commands.{commands_in}
use Rattle.sc_sequences.specs.declared.cursors.Cursor.{Cursor}
use Rattle.sc_sequences.specs.Verdicts.{jump_refusal}
use Rattle.sc_sequences.proofs.Refusing.{running_runs, left_remains, jump_by}
use Rattle.sc_sequences.proofs.verdicts.jump_refusal.Goals as goal

pub returns-in_default : goal.returns-in_default
returns-in_default c = λ all stood. sym (ap (jump_refusal c.args.time all) (sym (c.running_ats.ensures.place c.args.tables.now all stood) ∙ c.in_default.is))

pub returns-then-not-remains_from : goal.returns-then-not-remains_from
returns-then-not-remains_from c = λ all stood.
    let tables = c.args.tables.now in
    let place = c.in-Some.place in
    let found : running_ats all ≡ Some place = sym (c.running_ats.ensures.place tables all stood) ∙ c.in-Some.is in
    let inside : place < 66 = (let two = c.in-Some.ensures.within in omega arith) in
    let is = sym c.if-not-remains_from.true ∙ c.remains_from.ensures ∙ ap (λ (k : Cursor). has_some (from_time c.args.time (drop k.at (commands_in tables place)))) c.get.ensures.cursor in
    sym (jump_by c.args.time place all false found (left_remains tables all c.args.cursors.now stood place inside c.args.time false (running_runs all place found) is))

pub returns : goal.returns
returns c = λ all stood.
    let tables = c.args.tables.now in
    let place = c.in-Some.place in
    let found : running_ats all ≡ Some place = sym (c.running_ats.ensures.place tables all stood) ∙ c.in-Some.is in
    let inside : place < 66 = (let two = c.in-Some.ensures.within in omega arith) in
    let is = sym c.if-not-remains_from.false ∙ c.remains_from.ensures ∙ ap (λ (k : Cursor). has_some (from_time c.args.time (drop k.at (commands_in tables place)))) c.get.ensures.cursor in
    sym (jump_by c.args.time place all true found (left_remains tables all c.args.cursors.now stood place inside c.args.time true (running_runs all place found) is))
