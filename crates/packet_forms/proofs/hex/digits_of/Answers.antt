use Rattle.std.proofs.Common.{◌≡◌, ◌<◌, ℕ, List, [], map, get_or, refl, ap, ◌∙◌, arith, Fits, w8}
use Rattle.std.specs.List.{range_with_len}
use Rattle.std.proofs.lemmas.List.FromFn.{get_or-map-range_with_len}
use Rattle.packet_forms.specs.Hex.{hex_pair}
use Rattle.packet_forms.specs.declared.hex_pairs.TheConstants.{PAIRS}
use Rattle.packet_forms.proofs.hex.digits_of.Goals as goal

pairs_are : PAIRS ≡ map hex_pair (range_with_len 0 256)
pairs_are = refl

byte_fits : (b : ℕ) → Fits w8 b → b < 256
byte_fits b h = h.fits

pub returns : goal.returns
returns c =
    ap (λ (pairs : List (List ℕ)). get_or pairs c.args.byte []) pairs_are
    ∙ get_or-map-range_with_len hex_pair 0 256 c.args.byte c.args.byte [] (byte_fits c.args.byte c.ranges.byte) (omega arith)
