use Rattle.std.proofs.Common.{refl}
use Rattle.histories.specs.Masks.{bits_of}
use Rattle.cs_slices.specs.Housekeeping.{flags_of}
use Rattle.cs_slices.proofs.laws.flag_rows.Goals as goal

pub returns : goal.returns
unfolding bits_of flags_of
returns c = record {
  none = refl;
  cs = refl;
  eeprom = refl;
  memory = refl;
}
