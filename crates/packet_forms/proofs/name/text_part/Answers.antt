use Rattle.std.proofs.Common.{◌∙◌, sym}
use Rattle.packet_forms.proofs.NameForms.{text_to_zero, text_is_all}
use Rattle.packet_forms.proofs.name.text_part.Goals as goal

pub returns-in-Some : goal.returns-in-Some
returns-in-Some c = c.front.ensures ∙ text_to_zero c.args.bytes.now c.in-Some.end (sym c.first_zero.ensures ∙ c.in-Some.is)

pub returns-in-None : goal.returns-in-None
returns-in-None c = text_is_all c.args.bytes.now (sym c.first_zero.ensures ∙ c.in-None.is)
