use Rattle.row_forms.proofs.WordsLemmas.{no_name}
use Rattle.row_forms.proofs.words.name.Goals as goal

pub returns-in-Err : goal.returns-in-Err
returns-in-Err c = no_name c.args.word.now c.in-Err.ensures.cases.0
