use Rattle.std.proofs.Common.{◌∙◌, sym, ap, subst}
use Rattle.std.specs.Str.{IsUtf8}
use Rattle.packet_forms.specs.Names.{is_name_text, name_text}
use Rattle.packet_forms.proofs.NameForms.{text_in, text_utf8}
use Rattle.packet_forms.proofs.name.Name.text.Goals as goal

pub unreachable-requires : goal.unreachable-requires
unreachable-requires c =
    c.in-Err.ensures.cases.0 (subst IsUtf8 (sym c.text_part.ensures) (text_utf8 (name_text c.self.inside.bytes) (text_in c.self.inside.bytes c.self.invariant)))

pub returns-clause-name : goal.returns-clause-name
returns-clause-name c =
    ap is_name_text (c.in-Ok.ensures.cases.0 ∙ c.text_part.ensures) ∙ text_in c.self.inside.bytes c.self.invariant
