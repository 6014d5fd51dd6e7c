use Rattle.std.proofs.Common.{◌+◌, ◌∙◌, ap, arith}
use Rattle.std.specs.Prelude.{is_some}
use Rattle.std.proofs.lemmas.List.{length-set}
use Rattle.histories.specs.Masks.{bits_of}
use Rattle.sc_sequences.specs.Sequences.{Sequence, is_running, at_place}
use Rattle.sc_sequences.specs.Housekeeping.{running_mask, enabled_mask}
use Rattle.sc_tables.specs.Commands.{commands_in}
use Rattle.sc_sequences.specs.Cursors.{cursor_in}
use Rattle.sc_sequences.specs.declared.cursors.Cursor.{Cursor}
use Rattle.sc_sequences.proofs.Nexts.{runs_is}
use Rattle.sc_sequences.proofs.Showing.{flags_more, flags_are}
use Rattle.sc_sequences.proofs.housekeeping.masks_of.Goals as goal

pub loop-k-preserved : goal.loop-k-preserved
loop-k-preserved c =
    let k = c.loop-k.k in
    let held = c.loop-k.invariant in
    record {
      running_long = length-set c.loop-k.running k c.is_some.result ∙ held.running_long;
      enabled_long = length-set c.loop-k.enabled k c.get-cursor.result.enabled ∙ held.enabled_long;
      running = λ tables all stood.
          flags_more is_running all c.loop-k.running k c.is_some.result (let long = held.running_long in omega arith) (held.running tables all stood)
          (c.is_some.ensures ∙ ap (λ (cursor : Cursor). is_some cursor.next) c.get-cursor.ensures.cursor
          ∙ runs_is (commands_in tables (k + 2)) (at_place all (k + 2)) (cursor_in c.args.cursors.now (k + 2)) (stood.each (k + 2) (omega arith)));
      enabled = λ tables all stood.
          flags_more (λ (s : Sequence). s.enabled) all c.loop-k.enabled k c.get-cursor.result.enabled (let long = held.enabled_long in omega arith) (held.enabled tables all stood)
          (ap (λ (cursor : Cursor). cursor.enabled) c.get-cursor.ensures.cursor ∙ (stood.each (k + 2) (omega arith)).enabled);
    }

pub returns-clause-running : goal.returns-clause-running
unfolding running_mask
returns-clause-running c = λ tables all stood.
    c.bits_of.ensures.bits
    ∙ ap bits_of (flags_are is_running all c.loop-k.running stood.whole c.loop-k.invariant.running_long (λ i below. c.loop-k.invariant.running tables all stood i (omega arith)))

pub returns-clause-enabled : goal.returns-clause-enabled
unfolding enabled_mask
returns-clause-enabled c = λ tables all stood.
    c.bits_of-2.ensures.bits
    ∙ ap bits_of (flags_are (λ (s : Sequence). s.enabled) all c.loop-k.enabled stood.whole c.loop-k.invariant.enabled_long (λ i below. c.loop-k.invariant.enabled tables all stood i (omega arith)))
