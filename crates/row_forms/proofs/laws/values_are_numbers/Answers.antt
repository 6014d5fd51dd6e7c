use Rattle.row_forms.proofs.SizeLemmas.{said_number}
use Rattle.row_forms.proofs.laws.values_are_numbers.Goals as goal

pub returns : goal.returns
returns c = said_number
