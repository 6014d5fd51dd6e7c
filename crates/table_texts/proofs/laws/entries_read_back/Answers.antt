use Rattle.table_texts.proofs.BackLemmas.{entries_back}
use Rattle.table_texts.proofs.laws.entries_read_back.Goals as goal

pub returns : goal.returns
returns c = λ epoch cs l n bytes good distinct layout all long. entries_back epoch cs l n bytes good distinct layout all long
