use Rattle.table_files.proofs.Lists.{loads_fit}
use Rattle.table_files.proofs.laws.load_files_have_bytes.Goals as goal

pub returns : goal.returns
returns c = λ files are. loads_fit files are.accepted
