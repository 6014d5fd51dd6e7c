use Rattle.std.proofs.Common.{◌∙◌, ◌<◌, true, false, sym, ap, refl, arith}
use Rattle.sc_sequences.specs.Sequences.{has_some, from_time, at_place, other_ats}
use Rattle.sc_sequences.specs.Verdicts.{switch_refusal}
use Rattle.sc_sequences.proofs.Refusing.{is_there, not_there, remains_is, switch_by}
use Rattle.sc_sequences.proofs.verdicts.switch_refusal.Goals as goal

pub returns-in_default : goal.returns-in_default
returns-in_default c = λ all stood. sym (ap (switch_refusal c.args.now all) (sym (c.running_ats.ensures.place c.args.tables.now all stood) ∙ c.in_default.is))

pub returns-then-len-eq0 : goal.returns-then-len-eq0
returns-then-len-eq0 c = λ all stood.
    let tables = c.args.tables.now in
    let place = c.in-Some.place in
    let inside : other_ats place < 66 = (let two = c.in-Some.ensures.within in omega arith) in
    sym (switch_by c.args.now place all false (has_some (from_time c.args.now (at_place all (other_ats place)).loaded)) (sym (c.running_ats.ensures.place tables all stood) ∙ c.in-Some.is)
    (not_there tables all c.args.cursors.now stood (other_ats place) inside c.len.result c.len.ensures.count c.if-len-eq0.true) refl)

pub returns-then-not-remains_from : goal.returns-then-not-remains_from
returns-then-not-remains_from c = λ all stood.
    let tables = c.args.tables.now in
    let place = c.in-Some.place in
    let inside : other_ats place < 66 = (let two = c.in-Some.ensures.within in omega arith) in
    sym (switch_by c.args.now place all true false (sym (c.running_ats.ensures.place tables all stood) ∙ c.in-Some.is)
    (is_there tables all c.args.cursors.now stood (other_ats place) inside c.len.result c.len.ensures.count c.if-len-eq0.false)
    (remains_is tables all c.args.cursors.now stood (other_ats place) inside c.args.now false (sym c.if-not-remains_from.true ∙ c.remains_from.ensures)))

pub returns : goal.returns
returns c = λ all stood.
    let tables = c.args.tables.now in
    let place = c.in-Some.place in
    let inside : other_ats place < 66 = (let two = c.in-Some.ensures.within in omega arith) in
    sym (switch_by c.args.now place all true true (sym (c.running_ats.ensures.place tables all stood) ∙ c.in-Some.is)
    (is_there tables all c.args.cursors.now stood (other_ats place) inside c.len.result c.len.ensures.count c.if-len-eq0.false)
    (remains_is tables all c.args.cursors.now stood (other_ats place) inside c.args.now true (sym c.if-not-remains_from.false ∙ c.remains_from.ensures)))
