use Rattle.table_files.proofs.Accepted.{size_of_kind}
use Rattle.table_files.proofs.laws.payloads_have_the_kinds_size.Goals as goal

pub returns : goal.returns
returns c = size_of_kind
