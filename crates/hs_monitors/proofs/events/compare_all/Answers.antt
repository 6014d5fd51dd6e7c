use Rattle.std.proofs.Common.{◌≡◌, ◌≢◌, ℕ, ◌<◌, ◌∙◌, length, take, get_or, refl, sym, ap, arith}
use Rattle.std.specs.Prelude.{◌==◌}
use Rattle.std.specs.List.{flat_map}
use Rattle.std.proofs.lemmas.Bool.{eqb-false}
use Rattle.std.proofs.lemmas.List.{get_or_default}
use Rattle.hs_tables.specs.Events.{blank_row}
use Rattle.hs_actions.proofs.Series.{performs_none, performs_front, performs_same}
use Rattle.hs_monitors.specs.Heads.{head_of, slot_stretch}
use Rattle.hs_monitors.specs.Events.{row_at, event_sender, event_attempt}
use Rattle.hs_monitors.specs.declared.heads.Stretch.{Stretch}
use Rattle.hs_monitors.proofs.Listening.{unheard_at, unheard_before, unheard_behind}
use Rattle.hs_monitors.proofs.Performing.{event_long}
use Rattle.hs_monitors.proofs.events.compare_all.Goals as goal

pub sender_head-head-requires : goal.sender_head-head-requires
sender_head-head-requires c = event_long c.args.packet.now c.requires.message

pub loop-place-init : goal.loop-place-init
loop-place-init c = record {
  few = omega arith;
  room = refl;
  counted = λ before. before;
  performs = λ stood. performs_none c.args.tables.now.acts c.args.now (λ k. flat_map (event_attempt k c.args.packet.now) (take c.min-start.result c.args.tables.now.events)) c.args.actions.now c.args.out.now (λ k.
      let stretch_is = c.stretch-stretch.ensures ∙ ap (slot_stretch c.args.senders.now) c.sender_head-head.ensures in
      let from : c.stretch-stretch.result.from ≡ (slot_stretch c.args.senders.now (head_of (event_sender c.args.packet.now))).from = ap (λ (s : Stretch). s.from) stretch_is in
      unheard_before c.args.tables.now.events c.args.senders.now c.args.packet.now stood k c.min-start.result (omega arith) (omega arith) (omega (arith, from)));
}

pub loop-place-preserved-then-not-has : goal.loop-place-preserved-then-not-has
loop-place-preserved-then-not-has c =
    let held = c.loop-place.invariant in
    let rows = c.args.tables.now.events in
    let senders = c.args.senders.now in
    let place = c.loop-place.place in
    let within : place < length rows = omega arith in
    record {
      few = omega arith;
      room = held.room;
      counted = held.counted;
      performs = λ stood.
          let attempts = λ (k : ℕ). event_attempt k c.args.packet.now in
          let apart : get_or senders.heads place 0 ≢ head_of (event_sender c.args.packet.now) =
          eqb-false (get_or senders.heads place 0) (head_of (event_sender c.args.packet.now)) (sym (c.has.ensures ∙ ap (λ (h : ℕ). get_or senders.heads place 0 == h) c.sender_head-head.ensures) ∙ c.if-not-has.true)
          in
          performs_front c.args.tables.now.acts c.args.now attempts rows place (row_at rows place) c.args.actions.now c.loop-place.actions c.loop-place.actions
          c.args.out.now c.loop-place.out c.loop-place.out within (get_or_default rows place blank_row (row_at rows place) within) (held.performs stood)
          (performs_none c.args.tables.now.acts c.args.now (λ k. event_attempt k c.args.packet.now (row_at rows place)) c.loop-place.actions c.loop-place.out (λ k. unheard_at rows senders c.args.packet.now stood k place (omega arith) apart));
    }

pub loop-place-preserved : goal.loop-place-preserved
loop-place-preserved c =
    let held = c.loop-place.invariant in
    let rows = c.args.tables.now.events in
    let within : c.loop-place.place < length rows = omega arith in
    record {
      few = omega arith;
      room = c.compare.ensures.room ∙ held.room;
      counted = λ before. c.compare.ensures.counted (held.counted before);
      performs = λ stood.
          performs_front c.args.tables.now.acts c.args.now (λ k. event_attempt k c.args.packet.now) rows c.loop-place.place (row_at rows c.loop-place.place) c.args.actions.now c.loop-place.actions c.compare.new.actions
          c.args.out.now c.loop-place.out c.compare.new.out within (get_or_default rows c.loop-place.place blank_row (row_at rows c.loop-place.place) within) (held.performs stood) c.compare.ensures.performs;
    }

pub returns-clause-performs : goal.returns-clause-performs
returns-clause-performs c = λ stood. performs_same c.args.tables.now.acts c.args.now (λ k. flat_map (event_attempt k c.args.packet.now) (take c.loop-place.place c.args.tables.now.events)) (λ k. flat_map (event_attempt k c.args.packet.now) c.args.tables.now.events)
    c.args.actions.now c.loop-place.actions c.args.out.now c.loop-place.out
    (λ k. unheard_behind c.args.tables.now.events c.args.senders.now c.args.packet.now stood k c.loop-place.place (omega arith) (λ j past within.
    let stretch_is = c.stretch-stretch.ensures ∙ ap (slot_stretch c.args.senders.now) c.sender_head-head.ensures in
    let end : c.stretch-stretch.result.end ≡ (slot_stretch c.args.senders.now (head_of (event_sender c.args.packet.now))).end = ap (λ (s : Stretch). s.end) stretch_is in
    omega (arith, end, past, within))) (c.loop-place.invariant.performs stood)
