use Rattle.std.proofs.Common.{sym, arith}
use Rattle.scenario.proofs.LaneLemmas.{hex_odd_none}
use Rattle.scenario.proofs.words.hex.Goals as goal

pub returns-then-word-ne0-clause-bytes : goal.returns-then-word-ne0-clause-bytes
returns-then-word-ne0-clause-bytes c = sym (hex_odd_none c.args.word.now (omega arith))
