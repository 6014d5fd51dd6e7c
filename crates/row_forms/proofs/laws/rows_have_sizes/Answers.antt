use Rattle.row_forms.proofs.SizeLemmas.{row_sizes}
use Rattle.row_forms.proofs.laws.rows_have_sizes.Goals as goal

pub returns : goal.returns
returns c = row_sizes
