use Rattle.std.proofs.Common.{ℕ, List, ◌+◌, ◌*◌, ◌/◌, ◌++◌, length, take, drop, ap, ◌∙◌, arith}
use Rattle.std.proofs.lemmas.List.{take_rest}
use Rattle.packet_forms.specs.Hex.{hex}
use Rattle.packet_forms.proofs.Digits.{all_placed}
use Rattle.packet_forms.proofs.hex.place_hex.Goals as goal

pub returns : goal.returns
returns c =
    let bytes = c.args.bytes.now in
    let whole : ℕ = length bytes / 8 * 8 in
    let at = c.args.at + 2 * whole in
    let middle = c.place_eights.new.places in
    all_placed c.args.places.now middle c.place_few.new.places bytes c.args.at whole c.requires (omega arith) c.place_eights.ensures.value
    (c.place_few.ensures ∙ ap (λ (rest : List ℕ). take at middle ++ (hex rest ++ drop (at + 2 * length rest) middle)) (take_rest bytes whole))
