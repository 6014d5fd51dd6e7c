use Rattle.table_meanings.proofs.TextLemmas.{texts_mean}
use Rattle.table_meanings.proofs.texts.texts_mean_entries.Goals as goal

pub returns : goal.returns
returns c = texts_mean
