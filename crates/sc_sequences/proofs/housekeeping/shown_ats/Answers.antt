use Rattle.std.proofs.Common.{◌∙◌, ap, sym}
use Rattle.sc_sequences.specs.Housekeeping.{shown_ats}
use Rattle.sc_sequences.proofs.housekeeping.shown_ats.Goals as goal

pub returns-in-None : goal.returns-in-None
returns-in-None c = λ tables all stood. sym (ap shown_ats (sym (c.running_ats.ensures.place tables all stood) ∙ c.in-None.is))

pub returns-in-Some : goal.returns-in-Some
returns-in-Some c = λ tables all stood. sym (ap shown_ats (sym (c.running_ats.ensures.place tables all stood) ∙ c.in-Some.is))
