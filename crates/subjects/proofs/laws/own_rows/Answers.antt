use Rattle.std.proofs.Common.{refl}
use Rattle.packet_forms.specs.Names.{name_of}
use Rattle.subjects.proofs.laws.own_rows.Goals as goal

pub returns : goal.returns
unfolding name_of
returns c = record {
  names = refl;
  values = refl;
  back = refl;
  at = refl;
  readings = refl;
}
