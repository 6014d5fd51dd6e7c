use Rattle.std.proofs.Common.{◌==◌, arith, sym}
use Rattle.row_forms.proofs.WordsLemmas.{position_none, position_or_len-le}
use Rattle.row_forms.proofs.words.word_len.Goals as goal

pub returns-in-None-clause-value : goal.returns-in-None-clause-value
returns-in-None-clause-value c = omega (arith, position_none (λ b. b == 32) c.args.bytes.now (sym c.in-None.ensures), position_or_len-le (λ b. b == 32) c.args.bytes.now)
