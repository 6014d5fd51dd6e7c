use Rattle.table_files.proofs.Accepted.{accepted_sorts, kind_has_headers, load_has_headers}
use Rattle.table_files.proofs.laws.accepted_files_have_headers.Goals as goal

pub returns : goal.returns
returns c = record { accepted = accepted_sorts; kind = kind_has_headers; load = load_has_headers }
