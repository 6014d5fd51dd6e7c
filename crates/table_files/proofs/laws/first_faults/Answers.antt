use Rattle.table_files.proofs.Entries.{first_told, told_first, none_told}
use Rattle.table_files.proofs.laws.first_faults.Goals as goal

pub returns : goal.returns
returns c = record { told = λ reasons place reason is. first_told reasons 1 place reason is; first = told_first; none = none_told }
