use Rattle.load_texts.proofs.RoundLemmas.{loads_back}
use Rattle.load_texts.proofs.laws.loads_read_back.Goals as goal

pub returns : goal.returns
returns c = loads_back
