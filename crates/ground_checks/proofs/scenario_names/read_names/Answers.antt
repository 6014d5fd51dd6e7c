use Rattle.std.proofs.Common.{refl}
use Rattle.std.proofs.lemmas.List.{take-append-drop}
use Rattle.scenario.specs.Standing.{is_finished}
use Rattle.timed_plans.proofs.CheckLemmas.{feeding_looked, feeding_fed, feeding_closed, empty_rest}
use Rattle.ground_checks.proofs.scenario_names.read_names.Goals as goal

pub items-preserved-in-Header : goal.items-preserved-in-Header
items-preserved-in-Header c =
    let f = c.items.invariant in
    feeding_looked c.items.reader c.next.new.self c.items.rest.now c.args.text.now f _ c.next.ensures.finished (c.in-Header.ensures.header refl (record { bytes = f.front; closed = is_finished c.items.reader }) f.gave f.stands)

pub items-preserved-in-Continue-1 : goal.items-preserved-in-Continue-1
items-preserved-in-Continue-1 c =
    let f = c.items.invariant in
    feeding_looked c.items.reader c.next.new.self c.items.rest.now c.args.text.now f _ c.next.ensures.finished (c.in-Frame.ensures.frame refl (record { bytes = f.front; closed = is_finished c.items.reader }) f.gave f.stands)

pub items-preserved-then-is_empty : goal.items-preserved-then-is_empty
items-preserved-then-is_empty c =
    let f = c.items.invariant in
    let m = c.in-More.ensures.last tt (record { bytes = f.front; closed = is_finished c.items.reader }) f.gave f.stands in
    let looked = feeding_looked c.items.reader c.next.new.self c.items.rest.now c.args.text.now f f.gave c.next.ensures.finished m.0 in
    feeding_closed c.next.new.self c.finish.new.self c.items.rest.now c.args.text.now looked c.finish.ensures.finished (empty_rest c.items.rest.now c.is_empty.result c.is_empty.ensures c.if-is_empty.true) c.finish.ensures.stands

pub items-preserved : goal.items-preserved
items-preserved c =
    let f = c.items.invariant in
    let m = c.in-More.ensures.last tt (record { bytes = f.front; closed = is_finished c.items.reader }) f.gave f.stands in
    let looked = feeding_looked c.items.reader c.next.new.self c.items.rest.now c.args.text.now f f.gave c.next.ensures.finished m.0 in
    feeding_fed c.next.new.self c.feed-taken.new.self c.items.rest.now c.behind-rest.result.now c.args.text.now c.feed-taken.result looked (c.in-More.ensures.unclosed refl) c.feed-taken.ensures.finished c.feed-taken.ensures.taken c.behind-rest.ensures c.feed-taken.ensures.stands (take-append-drop c.feed-taken.result c.items.rest.now)
