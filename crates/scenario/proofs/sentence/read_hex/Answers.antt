use Rattle.std.proofs.Common.{arith, ap}
use Rattle.scenario.specs.Sentences.{as_said}
use Rattle.scenario.proofs.SendLemmas.{too_many_digits}
use Rattle.scenario.proofs.sentence.read_hex.Goals as goal

pub returns-then-word-clause-value : goal.returns-then-word-clause-value
returns-then-word-clause-value c = ap as_said (too_many_digits c.args.word.now (omega arith))
