use Rattle.row_forms.proofs.WordsLemmas.{no_name}
use Rattle.log_lines.proofs.reading.name_of.Goals as goal

pub returns-in-Err : goal.returns-in-Err
returns-in-Err c = no_name c.args.word.now c.in-Err.ensures.cases.0
