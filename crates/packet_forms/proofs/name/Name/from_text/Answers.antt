use Rattle.std.proofs.Common.{◌≡◌, ◌≤◌, ◌∙◌, length, sym, ap, true, arith, refl}
use Rattle.packet_forms.specs.Names.{is_name, is_name_text, name_of}
use Rattle.packet_forms.proofs.NameForms.{short_text, put_text, is_name-name_of}
use Rattle.packet_forms.proofs.name.Name.from_text.Goals as goal

pub place-requires : goal.place-requires
place-requires c =
    let short : length c.as_bytes-text.result.now ≤ 19 = short_text c.as_bytes-text.result.now (sym c.is_name_text.ensures ∙ c.if-not-is_name_text.false) in
    omega arith

pub invariant_of-result : goal.invariant_of-result
invariant_of-result c =
    let named : is_name_text c.as_bytes-text.result.now ≡ true = sym c.is_name_text.ensures ∙ c.if-not-is_name_text.false in
    ap is_name (c.place.ensures ∙ put_text c.as_bytes-text.result.now (short_text c.as_bytes-text.result.now named)) ∙ is_name-name_of c.as_bytes-text.result.now named

pub returns : goal.returns
returns c =
    let named : is_name_text c.as_bytes-text.result.now ≡ true = sym c.is_name_text.ensures ∙ c.if-not-is_name_text.false in
    let same : c.place.new.bytes ≡ name_of c.as_bytes-text.result.now = c.place.ensures ∙ put_text c.as_bytes-text.result.now (short_text c.as_bytes-text.result.now named) in
    rw (same, ← c.as_bytes-text.ensures.value, named) refl
