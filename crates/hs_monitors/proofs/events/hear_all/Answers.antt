use Rattle.std.proofs.Common.{◌∙◌, sym, refl, arith}
use Rattle.hs_actions.proofs.Series.{performs_none, performs_begin, performs_front}
use Rattle.hs_monitors.specs.Events.{event_attempts}
use Rattle.hs_monitors.proofs.Performing.{nothing_heard}
use Rattle.hs_monitors.proofs.events.hear_all.Goals as goal

pub loop-packet-init : goal.loop-packet-init
loop-packet-init c = record {
  few = omega arith;
  room = refl;
  counted = λ before. before;
  performs = λ stood. performs_begin c.args.tables.now.acts c.args.now (λ k. event_attempts k c.args.tables.now.events) c.args.events.now c.args.actions.now c.args.out.now;
}

pub loop-packet-preserved : goal.loop-packet-preserved
loop-packet-preserved c =
    let held = c.loop-packet.invariant in
    record {
      few = omega arith;
      room = c.hear.ensures.room ∙ held.room;
      counted = λ before. c.hear.ensures.counted (held.counted before);
      performs = λ stood.
          performs_front c.args.tables.now.acts c.args.now (λ k. event_attempts k c.args.tables.now.events) c.args.events.now c.loop-packet.packet-index c.packet-item.result c.args.actions.now c.loop-packet.actions c.hear.new.actions
          c.args.out.now c.loop-packet.out c.hear.new.out c.loop-packet-test.true c.packet-item.is (held.performs stood) (c.hear.ensures.performs stood);
    }

pub returns-then-not-has_entries-clause-performs : goal.returns-then-not-has_entries-clause-performs
returns-then-not-has_entries-clause-performs c = λ stood.
    performs_none c.args.tables.now.acts c.args.now _ c.args.actions.now c.args.out.now
    (λ k. nothing_heard k c.args.tables.now.events c.args.events.now (sym c.has_entries.ensures ∙ c.if-not-has_entries.true))
