use Rattle.std.proofs.Common.{refl, sym}
use Rattle.std.proofs.lemmas.List.{take-append-drop}
use Rattle.scenario.specs.declared.item.Item.TheVariants as answers
use Rattle.scenario.specs.Standing.{is_finished}
use Rattle.timed_plans.proofs.CheckLemmas.{feeding_looked, feeding_fed, feeding_closed, empty_rest, answer_last}
use Rattle.shown_plans.proofs.check.read_to_end.Goals as goal

pub items-preserved-in-Header : goal.items-preserved-in-Header
items-preserved-in-Header c =
    let f = c.items.invariant in
    feeding_looked c.items.reader c.next.new.self c.items.rest.now c.args.text.now f _ c.next.ensures.finished (c.in-Header.ensures.header refl (record { bytes = f.front; closed = is_finished c.items.reader }) f.gave f.stands)

pub items-preserved-in-Frame : goal.items-preserved-in-Frame
items-preserved-in-Frame c =
    let f = c.items.invariant in
    feeding_looked c.items.reader c.next.new.self c.items.rest.now c.args.text.now f _ c.next.ensures.finished (c.in-Frame.ensures.frame refl (record { bytes = f.front; closed = is_finished c.items.reader }) f.gave f.stands)

pub items-preserved-then-is_empty : goal.items-preserved-then-is_empty
items-preserved-then-is_empty c =
    let f = c.items.invariant in
    let m = c.in-More.ensures.last tt (record { bytes = f.front; closed = is_finished c.items.reader }) f.gave f.stands in
    let looked = feeding_looked c.items.reader c.next.new.self c.items.rest.now c.args.text.now f f.gave c.next.ensures.finished m.0 in
    feeding_closed c.next.new.self c.finish.new.self c.items.rest.now c.args.text.now looked c.finish.ensures.finished (empty_rest c.items.rest.now c.is_empty.result c.is_empty.ensures c.if-is_empty.true) c.finish.ensures.stands

pub items-preserved : goal.items-preserved
items-preserved c =
    let f = c.items.invariant in
    let m = c.in-More.ensures.last tt (record { bytes = f.front; closed = is_finished c.items.reader }) f.gave f.stands in
    let looked = feeding_looked c.items.reader c.next.new.self c.items.rest.now c.args.text.now f f.gave c.next.ensures.finished m.0 in
    feeding_fed c.next.new.self c.feed-taken.new.self c.items.rest.now c.behind-rest.result.now c.args.text.now c.feed-taken.result looked (c.in-More.ensures.unclosed refl) c.feed-taken.ensures.finished c.feed-taken.ensures.taken c.behind-rest.ensures c.feed-taken.ensures.stands (take-append-drop c.feed-taken.result c.items.rest.now)

pub returns-in-End : goal.returns-in-End
returns-in-End c =
    let f = c.items.invariant in
    let m = c.in-End.ensures.last tt (record { bytes = f.front; closed = is_finished c.items.reader }) f.gave f.stands in
    sym (answer_last answers.End f.front c.items.rest.now c.args.text.now (is_finished c.items.reader) f.parts f.ended m.2 tt)

pub returns-in-Bad : goal.returns-in-Bad
returns-in-Bad c =
    let f = c.items.invariant in
    let m = c.in-Bad.ensures.last tt (record { bytes = f.front; closed = is_finished c.items.reader }) f.gave f.stands in
    let last = answer_last (answers.Bad c.in-Bad.line c.in-Bad.reason) f.front c.items.rest.now c.args.text.now (is_finished c.items.reader) f.parts f.ended m.2 tt in
    (c.in-Bad.line, c.in-Bad.reason, sym last, c.fault_numbered.ensures)
