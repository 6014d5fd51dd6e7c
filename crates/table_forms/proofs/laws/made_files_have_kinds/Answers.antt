use Rattle.table_forms.proofs.BytesLemmas.{made_kind}
use Rattle.table_forms.proofs.laws.made_files_have_kinds.Goals as goal

pub returns : goal.returns
returns c = made_kind
