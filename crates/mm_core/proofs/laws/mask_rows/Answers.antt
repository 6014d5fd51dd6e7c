use Rattle.std.proofs.Common.{refl}
use Rattle.histories.specs.Masks.{bits_of}
use Rattle.mm_core.specs.Reading.{protection_of}
use Rattle.mm_core.specs.Housekeeping.{open_regions}
use Rattle.mm_core.proofs.laws.mask_rows.Goals as goal

pub returns : goal.returns
unfolding bits_of protection_of open_regions
returns c = record {
  first = refl;
  second = refl;
  third = refl;
  fourth = refl;
  fifth = refl;
  sixth = refl;
  seventh = refl;
  eighth = refl;
  no_eeprom = refl;
}
