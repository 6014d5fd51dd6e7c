use Rattle.std.proofs.Common.{◌≡◌, ◌-◌, ◌≤◌, length, take}
use Rattle.sc_tables.proofs.Stored.{AreReadRelative}
use Rattle.sc_tables.proofs.loading.store_relative_places.Given as goal

abbrev pub invariant-entries : goal.invariant-entries
invariant-entries l = record {
  places : length l.places ≡ 204;
  few : l.count ≤ 204;
  read : AreReadRelative l.payload (take l.count l.places) l.at;
}

abbrev pub decreases-entries : goal.decreases-entries
decreases-entries l = length l.payload - l.at
