use Rattle.std.proofs.Common.{◌≤◌, ℕ, sym, subst}
use Rattle.scenario.proofs.PairLemmas.{high_is, high_most}
use Rattle.scenario.proofs.digit_pairs.high_value.Goals as goal

pub returns-clause-value : goal.returns-clause-value
returns-clause-value c = high_is c.args.byte c.ranges.byte.fits

pub returns-clause-bound : goal.returns-clause-bound
returns-clause-bound c = subst (λ (n : ℕ). n ≤ 256) (sym (high_is c.args.byte c.ranges.byte.fits)) (high_most c.args.byte)
