use Rattle.std.proofs.Common.{ℕ, nat_lt, refl}
use Rattle.std.proofs.lemmas.Simd.{zip2_splat, splat_is_map}
use Rattle.scenario.proofs.LaneLemmas.{joined, lanes_pass}
use Rattle.scenario.proofs.digit_lanes.are_values.Goals as goal

pub returns : goal.returns
returns c =
    let v = c.args.values in
    let long = c.fits-values.0 in
    lanes_pass (λ (value : ℕ). nat_lt value 16) _ v (joined _ _ _ v (zip2_splat {Y = ℕ} _ v 16 240 long) (splat_is_map v 16 0 long)) refl long c.fits-values.1
