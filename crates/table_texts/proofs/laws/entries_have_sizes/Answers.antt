use Rattle.table_texts.proofs.SizeLemmas.{entries_size}
use Rattle.table_texts.proofs.laws.entries_have_sizes.Goals as goal

pub returns : goal.returns
returns c = λ epoch cs l n lines bytes good said. entries_size epoch cs l n lines bytes good said
