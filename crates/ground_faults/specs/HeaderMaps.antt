-- The map of memory that a scenario's header says.
use Rattle.std.specs.Prelude.{◌≡◌, ◌<◌, ℕ, Bool, true, List, [], ◌∷◌, ◌++◌, length, Option, Some, None}
use Rattle.memory_window.specs.declared.regions.Region.{Region}
use Rattle.scenario.specs.declared.reader.Reader.{Reader}
use Rattle.scenario.specs.Standing.{Stands}
use Rattle.scenario.specs.Texts.{Given, Head, Whole, reading}

-- the regions of the header, which is the first item of a text
abbrev pub regions_in : List Given → Option (List Region)
regions_in [] = None
regions_in (Head epoch regions ∷ items) = Some regions
regions_in (Whole frame ∷ items) = None

-- the regions that a whole scenario's header says
unfoldable pub map_said : List ℕ → Option (List Region)
map_said text = regions_in (reading (record { bytes = text; closed = true })).items

-- a reader that was fed a first part of a text, and closed only behind all of it, gave items
pub record HasGiven (r : Reader) (text : List ℕ) : Type 0 where
  pub front : List ℕ
  pub rest : List ℕ
  pub closed : Bool
  pub gave : List Given
  pub parts : front ++ rest ≡ text
  pub ended : closed ≡ true → rest ≡ []
  pub stands : Stands r (record { bytes = front; closed = closed }) gave
  pub some_items : 0 < length gave
