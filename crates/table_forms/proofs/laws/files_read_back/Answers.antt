use Rattle.table_forms.proofs.RoundLemmas.{files_back, taken_back}
use Rattle.table_forms.proofs.laws.files_read_back.Goals as goal

pub returns : goal.returns
returns c = record { said = files_back; taken = taken_back }
