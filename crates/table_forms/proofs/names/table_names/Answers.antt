use Rattle.std.proofs.Common.{refl}
use Rattle.table_forms.specs.Names.{name_of, kinds}
use Rattle.table_forms.proofs.names.table_names.Goals as goal

pub returns : goal.returns
unfolding name_of kinds
returns c = refl
