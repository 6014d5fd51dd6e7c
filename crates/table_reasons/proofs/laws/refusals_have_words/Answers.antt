use Rattle.table_reasons.proofs.ReasonLemmas.{refusals_told, sequences_told}
use Rattle.table_reasons.proofs.laws.refusals_have_words.Goals as goal

pub returns-clause-entries : goal.returns-clause-entries
returns-clause-entries c = refusals_told

pub returns-clause-sequences : goal.returns-clause-sequences
returns-clause-sequences c = sequences_told
