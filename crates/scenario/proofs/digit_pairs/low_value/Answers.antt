use Rattle.std.proofs.Common.{◌≤◌, ℕ, sym, subst}
use Rattle.scenario.proofs.PairLemmas.{low_is, low_most}
use Rattle.scenario.proofs.digit_pairs.low_value.Goals as goal

pub returns-clause-value : goal.returns-clause-value
returns-clause-value c = low_is c.args.byte c.ranges.byte.fits

pub returns-clause-bound : goal.returns-clause-bound
returns-clause-bound c = subst (λ (n : ℕ). n ≤ 256) (sym (low_is c.args.byte c.ranges.byte.fits)) (low_most c.args.byte)
