use Rattle.std.proofs.Common.{rules}
use Rattle.ground_checks.proofs.ReadLemmas.{unread}
use Rattle.ground_checks.proofs.read_faults.first_refused.Goals as goal

pub returns-in-Err-File : goal.returns-in-Err-File
returns-in-Err-File c = λ short. unread c.args.map.now c.args.file.now c.in-Err-File.field-0-0 (search rules)
