use Rattle.std.proofs.Common.{take, sym, ◌∙◌, refl, arith}
use Rattle.scenario.specs.Standing.{fed}
use Rattle.rehearsal.proofs.TextFacts.{ended_is}
use Rattle.rehearsal.proofs.Pieces.{held, few_read, fed_on_again, fed_none, none_left, less_after, left_after}
use Rattle.rehearsal.proofs.text.next_by_lines.Goals as goal

pub items-init : goal.items-init
items-init c = record { fed = λ text gave h. (text, h, fed_none text c.args.feed.now.pending); less = omega arith }

pub items-smaller : goal.items-smaller
items-smaller c = less_after c.items.reader c.next.new.self c.give.new.reader c.items.feed c.give.new.self c.next.ensures.left c.give.ensures.less

pub items-preserved : goal.items-preserved
items-preserved c = record {
  fed = λ text gave h.
      let i = c.items.invariant.fed text gave h in
      let m = c.in-More.ensures.last tt i.0 gave i.1.stands in
      let is_open = i.1.closed ∙ sym (ended_is c.items.reader c.items.feed i.0 gave i.1) ∙ sym c.next.ensures.finished ∙ c.in-More.ensures.unclosed refl in
      let a = c.give.ensures.holds i.0 gave (held c.items.reader c.next.new.self c.items.feed i.0 gave gave i.1 m.0) is_open in
      (fed i.0 (take a.0 c.items.feed.pending), a.1, fed_on_again text i.0 c.args.feed.now.pending c.items.feed.pending c.give.new.self.pending a.0 a.2 i.2);
  less = omega (arith, less_after c.items.reader c.next.new.self c.give.new.reader c.items.feed c.give.new.self c.next.ensures.left c.give.ensures.less, c.items.invariant.less);
}

pub returns-then-is_empty-clause-gives : goal.returns-then-is_empty-clause-gives
returns-then-is_empty-clause-gives c = λ text gave h.
    let i = c.items.invariant.fed text gave h in
    let m = c.in-More.ensures.last tt i.0 gave i.1.stands in
    let is_open = i.1.closed ∙ sym (ended_is c.items.reader c.items.feed i.0 gave i.1) ∙ sym c.next.ensures.finished ∙ c.in-More.ensures.unclosed refl in
    let none = none_left c.items.feed.pending c.pending.result.now c.is_empty.result c.pending.ensures c.is_empty.ensures c.if-is_empty.true in
    (i.0, (held c.items.reader c.next.new.self c.items.feed i.0 gave gave i.1 m.0, m.1, m.2, is_open, none), i.2)

pub returns-then-is_empty-clause-dry : goal.returns-then-is_empty-clause-dry
returns-then-is_empty-clause-dry c = λ _.
    let s = c.requires.holds in
    let i = c.items.invariant.fed s.0 s.1 s.2 in
    let m = c.in-More.ensures.last tt i.0 s.1 i.1.stands in
    let none = none_left c.items.feed.pending c.pending.result.now c.is_empty.result c.pending.ensures c.is_empty.ensures c.if-is_empty.true in
    let unclosed = sym (ended_is c.items.reader c.items.feed i.0 s.1 i.1) ∙ sym c.next.ensures.finished ∙ c.in-More.ensures.unclosed refl in
    (none, unclosed, few_read c.items.reader c.items.feed i.0 s.1 i.1 none (i.1.closed ∙ unclosed) m.2)

pub returns-in-Header-clause-gives : goal.returns-in-Header-clause-gives
returns-in-Header-clause-gives c = λ text gave h.
    let i = c.items.invariant.fed text gave h in
    (i.0, (held c.items.reader c.next.new.self c.items.feed i.0 gave _ i.1 (c.in-Header.ensures.header refl i.0 gave i.1.stands), c.in-Header.ensures.stop tt i.0 gave i.1.stands), i.2)

pub returns-in-Frame-clause-gives : goal.returns-in-Frame-clause-gives
returns-in-Frame-clause-gives c = λ text gave h.
    let i = c.items.invariant.fed text gave h in
    (i.0, (held c.items.reader c.next.new.self c.items.feed i.0 gave _ i.1 (c.in-Frame.ensures.frame refl i.0 gave i.1.stands), c.in-Frame.ensures.stop tt i.0 gave i.1.stands), i.2)

pub returns-in-End-clause-gives : goal.returns-in-End-clause-gives
returns-in-End-clause-gives c = λ text gave h.
    let i = c.items.invariant.fed text gave h in
    let m = c.in-End.ensures.last tt i.0 gave i.1.stands in
    (i.0, (held c.items.reader c.next.new.self c.items.feed i.0 gave gave i.1 m.0, m.1, m.2), i.2)

pub returns-in-Bad-clause-gives : goal.returns-in-Bad-clause-gives
returns-in-Bad-clause-gives c = λ text gave h.
    let i = c.items.invariant.fed text gave h in
    let m = c.in-Bad.ensures.last tt i.0 gave i.1.stands in
    (i.0, (held c.items.reader c.next.new.self c.items.feed i.0 gave gave i.1 m.0, m.1, m.2, λ at why bad. c.in-Bad.ensures.bad at why i.0 gave tt i.1.stands bad), i.2)

pub returns-in-Header-clause-less : goal.returns-in-Header-clause-less
returns-in-Header-clause-less c = left_after c.args.reader.now c.items.reader c.next.new.self c.args.feed.now c.items.feed c.next.ensures.left c.items.invariant.less

pub returns-in-Frame-clause-less : goal.returns-in-Frame-clause-less
returns-in-Frame-clause-less c = left_after c.args.reader.now c.items.reader c.next.new.self c.args.feed.now c.items.feed c.next.ensures.left c.items.invariant.less

pub returns-in-End-clause-less : goal.returns-in-End-clause-less
returns-in-End-clause-less c = left_after c.args.reader.now c.items.reader c.next.new.self c.args.feed.now c.items.feed c.next.ensures.left c.items.invariant.less

pub returns-in-Bad-clause-less : goal.returns-in-Bad-clause-less
returns-in-Bad-clause-less c = left_after c.args.reader.now c.items.reader c.next.new.self c.args.feed.now c.items.feed c.next.ensures.left c.items.invariant.less

pub returns-then-is_empty-clause-less : goal.returns-then-is_empty-clause-less
returns-then-is_empty-clause-less c = left_after c.args.reader.now c.items.reader c.next.new.self c.args.feed.now c.items.feed c.next.ensures.left c.items.invariant.less
