use Rattle.std.proofs.Common.{refl}
use Rattle.scenario.specs.Standing.{is_finished}
use Rattle.timed_plans.proofs.CheckLemmas.{empty_rest}
use Rattle.ground_faults.proofs.HeaderMapLemmas.{heading_looked, heading_fed, heading_closed, no_header, has_given, no_map}
use Rattle.ground_faults.proofs.header_maps.read_header.Goals as goal

pub returns-in-Header : goal.returns-in-Header
returns-in-Header c =
    let h = c.items.invariant in record {
      given = has_given c.items.reader c.next.new.self c.items.rest.now c.args.text.now h _ (c.in-Header.ensures.header refl (record { bytes = h.front; closed = is_finished c.items.reader }) h.gave h.stands);
      none = tt;
    }

pub items-preserved-in-Frame : goal.items-preserved-in-Frame
items-preserved-in-Frame c =
    let h = c.items.invariant in
    heading_looked c.items.reader c.next.new.self c.items.rest.now c.args.text.now h _ (no_header h.gave _ h.none) c.next.ensures.finished (c.in-Frame.ensures.frame refl (record { bytes = h.front; closed = is_finished c.items.reader }) h.gave h.stands)

pub items-preserved-then-is_empty : goal.items-preserved-then-is_empty
items-preserved-then-is_empty c =
    let h = c.items.invariant in
    let m = c.in-More.ensures.last tt (record { bytes = h.front; closed = is_finished c.items.reader }) h.gave h.stands in
    let looked = heading_looked c.items.reader c.next.new.self c.items.rest.now c.args.text.now h h.gave h.none c.next.ensures.finished m.0 in
    heading_closed c.next.new.self c.finish.new.self c.items.rest.now c.args.text.now looked c.finish.ensures.finished (empty_rest c.items.rest.now c.is_empty.result c.is_empty.ensures c.if-is_empty.true) c.finish.ensures.stands

pub items-preserved : goal.items-preserved
items-preserved c =
    let h = c.items.invariant in
    let m = c.in-More.ensures.last tt (record { bytes = h.front; closed = is_finished c.items.reader }) h.gave h.stands in
    let looked = heading_looked c.items.reader c.next.new.self c.items.rest.now c.args.text.now h h.gave h.none c.next.ensures.finished m.0 in
    heading_fed c.next.new.self c.feed-taken.new.self c.items.rest.now c.behind-rest.result.now c.args.text.now c.feed-taken.result looked (c.in-More.ensures.unclosed refl) c.feed-taken.ensures.finished c.behind-rest.ensures c.feed-taken.ensures.stands

pub returns-in-End-clause-none : goal.returns-in-End-clause-none
returns-in-End-clause-none c =
    let h = c.items.invariant in
    let m = c.in-End.ensures.last tt (record { bytes = h.front; closed = is_finished c.items.reader }) h.gave h.stands in
    no_map c.items.reader c.items.rest.now c.args.text.now h _ m.1 m.2 (λ e. cc)

pub returns-in-Bad-clause-none : goal.returns-in-Bad-clause-none
returns-in-Bad-clause-none c =
    let h = c.items.invariant in
    let m = c.in-Bad.ensures.last tt (record { bytes = h.front; closed = is_finished c.items.reader }) h.gave h.stands in
    no_map c.items.reader c.items.rest.now c.args.text.now h _ m.1 m.2 (λ e. cc)
