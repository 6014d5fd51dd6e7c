use Rattle.std.proofs.Common.{refl}
use Rattle.histories.specs.Words.{from_last, last_or}
use Rattle.histories.specs.Entries.{activations, in_force}
use Rattle.histories.specs.Masks.{bits_of}
use Rattle.md_dwell.specs.Orders.{is_on_after}
use Rattle.md_dwell.specs.Histories.{orders_since}
use Rattle.md_dwell.specs.Housekeeping.{enabled_bits}
use Rattle.md_dwell.proofs.laws.mask_rows.Goals as goal

pub returns : goal.returns
unfolding from_last last_or activations in_force bits_of is_on_after orders_since enabled_bits
returns c = record {
  names_first = refl;
  names_not_first = refl;
  enabled_first = refl;
  names_second = refl;
  names_not_second = refl;
  enabled_second = refl;
  names_third = refl;
  names_not_third = refl;
  enabled_third = refl;
  names_fourth = refl;
  names_not_fourth = refl;
  enabled_fourth = refl;
}
