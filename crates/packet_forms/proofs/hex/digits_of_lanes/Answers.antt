use Rattle.std.proofs.Common.{◌<◌, ℕ, refl, arith, w8}
use Rattle.std.proofs.lemmas.Simd.{SwzOk-from_below, Each1-from_get_or}
use Rattle.packet_forms.proofs.Digits.{swizzled}
use Rattle.packet_forms.proofs.hex.digits_of_lanes.Goals as goal

pub swizzle : goal.swizzle
swizzle c = SwzOk-from_below w8 16 1 16 0 c.args.halves refl (omega (arith, c.requires.lanes)) (Each1-from_get_or (λ (j : ℕ). j < 16) c.args.halves 0 (λ i within. c.requires.small i 0 within))

pub returns : goal.returns
returns c = swizzled c.args.halves c.requires.lanes c.requires.small
