use Rattle.table_warnings.proofs.SplitLemmas.{split_refused}
use Rattle.table_warnings.proofs.laws.split_ranges_are_refused.Goals as goal

pub returns : goal.returns
returns c = split_refused
