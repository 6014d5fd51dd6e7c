use Rattle.entry_lines.proofs.SaidLemmas.{line_is_said}
use Rattle.entry_lines.proofs.laws.lines_say_entries.Goals as goal

pub returns : goal.returns
returns c = λ epoch cs l n entry lines bytes line good said found. line_is_said epoch cs l n entry lines bytes line good said found
