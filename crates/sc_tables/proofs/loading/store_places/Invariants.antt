use Rattle.std.proofs.Common.{◌≡◌, ◌-◌, ◌≤◌, Bool, List, length, take}
use Rattle.sc_tables.proofs.Stored.{AreRead}
use Rattle.sc_tables.proofs.loading.store_places.Given as goal

abbrev pub invariant-entries : goal.invariant-entries
invariant-entries l = record {
  places : length l.places ≡ 1000;
  few : l.count ≤ 1000;
  read : (used : List Bool) × AreRead l.payload (take l.count l.places) used l.at;
}

abbrev pub decreases-entries : goal.decreases-entries
decreases-entries l = length l.payload - l.at
