use Rattle.std.proofs.Common.{refl}
use Rattle.table_files.proofs.laws.size_rows.Goals as goal

pub returns : goal.returns
returns c = record { fixed = refl; most = refl }
