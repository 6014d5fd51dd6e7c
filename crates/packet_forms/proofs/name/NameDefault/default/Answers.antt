use Rattle.std.proofs.Common.{refl}
use Rattle.packet_forms.specs.Names.{name_of}
use Rattle.packet_forms.proofs.name.NameDefault.default.Goals as goal

pub returns : goal.returns
unfolding name_of
returns c = refl
