use Rattle.std.proofs.Common.{ℕ, map, min, length, refl, ap, ◌≡◌, ◌∙◌}
use Rattle.std.proofs.lemmas.List.{length-map}
use Rattle.std.proofs.lemmas.Simd.{zip2_splat, splat_is_map}
use Rattle.scenario.specs.DigitPairs.{lane_value}
use Rattle.scenario.proofs.LaneLemmas.{joined, lanes_are}
use Rattle.scenario.proofs.digit_lanes.values_of.Goals as goal

values : (c : goal.After-smaller) → c.smaller.result ≡ map lane_value c.args.digits
values c =
    let v = c.args.digits in
    let long = c.fits-digits.0 in
    let splat = λ (n : ℕ). splat_is_map v 16 n long in
    c.smaller.ensures
    ∙ lanes_are _ lane_value v
    (joined min _ _ v (joined _ _ _ v (c.less.ensures ∙ joined _ _ _ v (zip2_splat {Y = ℕ} _ v 16 198 long) (splat 6)) (splat 16))
    (c.capped_sum.ensures ∙ joined _ _ _ v (joined _ _ _ v (zip2_splat {Y = ℕ} _ v 16 223 long) (splat 65)) (splat 10)))
    refl c.fits-digits.1

pub returns-clause-value : goal.returns-clause-value
returns-clause-value c = values c

pub returns-clause-lanes : goal.returns-clause-lanes
returns-clause-lanes c = ap length (values c) ∙ length-map c.args.digits lane_value ∙ c.fits-digits.0
