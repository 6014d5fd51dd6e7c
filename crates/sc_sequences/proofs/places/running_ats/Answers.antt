use Rattle.std.proofs.Common.{◌∙◌, refl, sym}
use Rattle.sc_sequences.proofs.places.running_ats.Goals as goal

pub returns-then-is_running-clause-place : goal.returns-then-is_running-clause-place
returns-then-is_running-clause-place c = λ tables all stood. rw (sym (c.is_running.ensures tables all stood) ∙ c.if-is_running.true) refl

pub returns-then-is_running-2-clause-place : goal.returns-then-is_running-2-clause-place
returns-then-is_running-2-clause-place c = λ tables all stood.
    rw (sym (c.is_running.ensures tables all stood) ∙ c.if-is_running.false, sym (c.is_running-2.ensures tables all stood) ∙ c.if-is_running-2.true) refl

pub returns-clause-place : goal.returns-clause-place
returns-clause-place c = λ tables all stood.
    rw (sym (c.is_running.ensures tables all stood) ∙ c.if-is_running.false, sym (c.is_running-2.ensures tables all stood) ∙ c.if-is_running-2.false) refl
