-- The housekeeping packet of a state.
use Rattle.std.proofs.Common.{◌≡◌, ℕ, List, refl, ◌∙◌}
use Rattle.bus_pipes.specs.declared.names.Counts.{Counts}
use Rattle.cs_slices.specs.Tables.{TablePair}
use Rattle.cs_slices.specs.Happenings.{Happening}
use Rattle.cs_slices.specs.Housekeeping.{flags_of, housekeeping_of, housekeeping_at}
use Rattle.cs_slices.specs.State.{DutyStands}
use Rattle.cs_slices.specs.declared.duty.Duty.{Duty}

pub housekeeping_shown : (tables : TablePair) (happened : List Happening) (duty : Duty) (time now : ℕ) (counts : Counts) (p : List ℕ) → DutyStands tables happened duty → time ≡ now
    → p ≡ housekeeping_of now counts (flags_of duty.switches.cs duty.switches.eeprom duty.switches.memory) duty.tally.eeprom duty.tally.memory duty.tally.passes → p ≡ housekeeping_at time counts happened
unfolding housekeeping_at
housekeeping_shown tables happened duty time now counts p stood timed is =
    rw timed (is ∙ rw (stood.switches.cs, stood.switches.eeprom, stood.switches.memory, stood.tally.eeprom, stood.tally.memory, stood.tally.passes) refl)
