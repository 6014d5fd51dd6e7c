use Rattle.std.proofs.Common.{◌≡◌, ◌<◌, ℕ, length, take, ap, ◌∙◌, arith}
use Rattle.std.proofs.lemmas.List.{take_all}
use Rattle.std.proofs.lemmas.List.Elements.{All-from_get_or}
use Rattle.packet_forms.specs.Hex.{halves, hex_digits, hex}
use Rattle.packet_forms.proofs.Digits.{halves_small, digits_of_halves, length-hex}
use Rattle.packet_forms.proofs.hex.digits_of_eight.Goals as goal

pub digits_of_lanes-requires-clause-small : goal.digits_of_lanes-requires-clause-small
digits_of_lanes-requires-clause-small c =
    let bytes = c.args.bytes.now in
    let whole : take 8 bytes ≡ bytes = take_all 8 bytes (omega (arith, c.requires)) in
    rw (c.halves_of.ensures, whole) (halves_small bytes (All-from_get_or (λ (b : ℕ). b < 256) bytes 0 (λ i within. (c.type_inv.bytes i).fits)))

pub returns : goal.returns
returns c =
    let bytes = c.args.bytes.now in
    let whole : take 8 bytes ≡ bytes = take_all 8 bytes (omega (arith, c.requires)) in
    let digits = c.digits_of_lanes.ensures ∙ ap hex_digits (c.halves_of.ensures ∙ ap halves whole) ∙ digits_of_halves bytes in
    let long : length (hex bytes) ≡ 16 = length-hex bytes ∙ omega (arith, c.requires) in
    record { digits = digits; lanes = ap length digits ∙ long }
