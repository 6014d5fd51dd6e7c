use Rattle.row_forms.proofs.RowNumberLemmas.{row_numbers}
use Rattle.row_forms.proofs.laws.rows_say_numbers.Goals as goal

pub returns : goal.returns
returns c = row_numbers
