use Rattle.std.proofs.Common.{ℕ, ◌+◌, ap₂}
use Rattle.scenario.proofs.PairLemmas.{sum_good, sum_bad}
use Rattle.scenario.proofs.digit_pairs.pair_value.Goals as goal

pub returns-clause-good : goal.returns-clause-good
returns-clause-good c = sum_good c.args.high c.args.low _ (ap₂ (λ (x y : ℕ). x + y) c.high_value.ensures.value c.low_value.ensures.value)

pub returns-clause-bad : goal.returns-clause-bad
returns-clause-bad c = sum_bad c.args.high c.args.low _ (ap₂ (λ (x y : ℕ). x + y) c.high_value.ensures.value c.low_value.ensures.value)
