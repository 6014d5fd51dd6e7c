use Rattle.table_meanings.proofs.MeaningLemmas.{row_meanings}
use Rattle.table_meanings.proofs.rows.rows_say_meanings.Goals as goal

pub returns : goal.returns
returns c = row_meanings
