-- Places of entries in a payload.
use Rattle.std.specs.Prelude.{◌≡◌, ℕ, ◌<◌, Bool, true, false, ◌&&◌, ◌||◌, ◌==◌, nat_lt, List, [], length, map, drop, slice_index_or, is_none, nat_eq, Ok}
use Rattle.std.specs.List.{All, AllPairs, IsDistinct}
use Rattle.packet_forms.specs.Numbers.{be16_at, be32_at}
use Rattle.sc_tables.specs.declared.absolute.Timed.{Timed}
use Rattle.sc_tables.specs.declared.relative.Relative.{Relative}
use Rattle.sc_tables.specs.declared.absolute.Place.{Place}
use Rattle.sc_tables.specs.Absolute.{timed_at, timed_reason, numbers_of, is_used, comes_before, stored_ats, ats_of}
use Rattle.sc_tables.specs.Relative.{relative_at, relative_reason}

-- the commands of the entries in these places
abbrev pub timed_in : List ℕ → List Place → List Timed
timed_in payload places = map (λ p. timed_at (drop p.at payload)) places

abbrev pub relatives_in : List ℕ → List ℕ → List Relative
relatives_in payload places = map (λ at. relative_at (drop at payload)) places

-- a whole entry stands in a place, and the place knows its time and number
pub record IsPlaced (payload : List ℕ) (p : Place) : Type 0 where
  pub whole : is_none (timed_reason [] (drop p.at payload)) ≡ true
  pub tag : p.tag ≡ be32_at (drop p.at payload) 2
  pub number : p.number ≡ be16_at (drop p.at payload) 0

abbrev pub ArePlaced : List ℕ → List Place → Type 0
ArePlaced payload places = All (IsPlaced payload) places

-- a whole entry stands in each of these places
abbrev pub AreWhole : List ℕ → List ℕ → Type 0
AreWhole payload places = All (λ at. is_none (relative_reason (drop at payload)) ≡ true) places

-- each command comes before those behind it
abbrev pub AreInOrder : List Timed → Type 0
AreInOrder commands = AllPairs (λ a b. comes_before a b ≡ true) commands

-- a place comes before another as its command does
unfoldable pub place_before : Place → Place → Bool
place_before p q = nat_lt p.tag q.tag || ((p.tag == q.tag) && nat_lt p.number q.number)

-- the flags, one a number up to 1,000, tell which numbers are used by these commands
pub record AreFlags (commands : List Timed) (flags : List Bool) : Type 0 where
  pub whole : length flags ≡ 1001
  pub each : (n : ℕ) → n < 1001 → slice_index_or flags n false ≡ is_used n commands

-- the commands of a payload stand in these places, by time and then by number
pub record AreOrdered (payload : List ℕ) (places : List Place) : Type 0 where
  pub placed : ArePlaced payload places
  pub rises : AreInOrder (timed_in payload places)
  pub commands : timed_in payload places ≡ ats_of payload

-- the entries of a payload stand in these places, as they are stored, and no two of them have one number
pub record AreStored (payload : List ℕ) (places : List Place) : Type 0 where
  pub stored : stored_ats payload ≡ Ok (timed_in payload places)
  pub placed : ArePlaced payload places
  pub apart : IsDistinct nat_eq (numbers_of (timed_in payload places))
