use Rattle.ground_checks.proofs.LoadingLemmas.{loads, loads_back, reads, reads_back}
use Rattle.ground_checks.proofs.laws.checks_are_loading.Goals as goal

pub returns-clause-files : goal.returns-clause-files
returns-clause-files c = λ files. (loads files, loads_back files)

pub returns-clause-reads : goal.returns-clause-reads
returns-clause-reads c = λ regions files. (reads regions files, reads_back regions files)
