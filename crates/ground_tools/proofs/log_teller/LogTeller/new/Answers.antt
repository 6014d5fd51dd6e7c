use Rattle.ground_tools.proofs.TellingLemmas.{told_none}
use Rattle.ground_tools.proofs.log_teller.LogTeller.new.Goals as goal

pub returns-clause-stands : goal.returns-clause-stands
returns-clause-stands c = told_none _ c.new.ensures
