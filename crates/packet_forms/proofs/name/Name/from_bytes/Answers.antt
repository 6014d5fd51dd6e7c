use Rattle.std.proofs.Common.{◌≡◌, ◌∙◌, length, sym, ap, true, arith, refl}
use Rattle.packet_forms.specs.Names.{is_name}
use Rattle.packet_forms.proofs.NameForms.{twenty, put_name}
use Rattle.packet_forms.proofs.name.Name.from_bytes.Goals as goal

pub place-requires : goal.place-requires
place-requires c =
    let size : length c.args.bytes.now ≡ 20 = twenty c.args.bytes.now (sym c.is_name.ensures ∙ c.if-not-is_name.false) in
    omega arith

pub invariant_of-result : goal.invariant_of-result
invariant_of-result c =
    let named : is_name c.args.bytes.now ≡ true = sym c.is_name.ensures ∙ c.if-not-is_name.false in
    ap is_name (c.place.ensures ∙ put_name c.args.bytes.now _ (twenty c.args.bytes.now named) refl) ∙ named

pub returns : goal.returns
returns c =
    let named : is_name c.args.bytes.now ≡ true = sym c.is_name.ensures ∙ c.if-not-is_name.false in
    let same : c.place.new.bytes ≡ c.args.bytes.now = c.place.ensures ∙ put_name c.args.bytes.now _ (twenty c.args.bytes.now named) refl in
    rw (same, named) refl
