use Rattle.table_files.proofs.Accepted.{known_is_named, kind_known}
use Rattle.table_files.proofs.laws.known_kinds.Goals as goal

pub returns : goal.returns
returns c = record { named = known_is_named; files = kind_known }
