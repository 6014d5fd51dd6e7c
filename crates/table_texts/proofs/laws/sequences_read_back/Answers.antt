use Rattle.table_texts.proofs.SequenceBackLemmas.{payload_back}
use Rattle.table_texts.proofs.laws.sequences_read_back.Goals as goal

pub returns : goal.returns
returns c = λ epoch cs fs size n bytes good distinct front all. payload_back epoch cs fs size n bytes good distinct front all
