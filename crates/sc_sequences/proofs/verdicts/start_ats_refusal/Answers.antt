use Rattle.std.proofs.Common.{◌∙◌, ◌<◌, true, false, sym, ap, refl, arith}
use Rattle.std.specs.Prelude.{is_some}
use Rattle.sc_sequences.specs.Sequences.{has_some, from_time, at_place}
use Rattle.sc_sequences.proofs.Refusing.{is_there, remains_is, start_ats_by}
use Rattle.sc_sequences.proofs.verdicts.start_ats_refusal.Goals as goal

pub returns-then-is_some : goal.returns-then-is_some
returns-then-is_some c = λ all stood.
    let tables = c.args.tables.now in
    let place = c.in-Some.place in
    let inside : place < 66 = (let two = c.in-Some.ensures.within in omega arith) in
    sym (start_ats_by c.args.now c.args.number place all true (has_some (from_time c.args.now (at_place all place).loaded)) (sym c.ats_place.ensures.place ∙ c.in-Some.is)
    (is_there tables all c.args.cursors.now stood place inside c.len.result c.len.ensures.count c.if-len-eq0.false)
    (sym (ap is_some (c.running_ats.ensures.place tables all stood)) ∙ sym c.is_some.ensures ∙ c.if-is_some.true) refl)

pub returns-then-not-remains_from : goal.returns-then-not-remains_from
returns-then-not-remains_from c = λ all stood.
    let tables = c.args.tables.now in
    let place = c.in-Some.place in
    let inside : place < 66 = (let two = c.in-Some.ensures.within in omega arith) in
    sym (start_ats_by c.args.now c.args.number place all false false (sym c.ats_place.ensures.place ∙ c.in-Some.is)
    (is_there tables all c.args.cursors.now stood place inside c.len.result c.len.ensures.count c.if-len-eq0.false)
    (sym (ap is_some (c.running_ats.ensures.place tables all stood)) ∙ sym c.is_some.ensures ∙ c.if-is_some.false)
    (remains_is tables all c.args.cursors.now stood place inside c.args.now false (sym c.if-not-remains_from.true ∙ c.remains_from.ensures)))

pub returns : goal.returns
returns c = λ all stood.
    let tables = c.args.tables.now in
    let place = c.in-Some.place in
    let inside : place < 66 = (let two = c.in-Some.ensures.within in omega arith) in
    sym (start_ats_by c.args.now c.args.number place all false true (sym c.ats_place.ensures.place ∙ c.in-Some.is)
    (is_there tables all c.args.cursors.now stood place inside c.len.result c.len.ensures.count c.if-len-eq0.false)
    (sym (ap is_some (c.running_ats.ensures.place tables all stood)) ∙ sym c.is_some.ensures ∙ c.if-is_some.false)
    (remains_is tables all c.args.cursors.now stood place inside c.args.now true (sym c.if-not-remains_from.false ∙ c.remains_from.ensures)))
