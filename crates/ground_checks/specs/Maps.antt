-- The map of memory that a scenario, a plan or a book says.
use Rattle.std.specs.Prelude.{◌≡◌, ◌⊎◌, ℕ, ◌+◌, ◌≤◌, ◌^◌, true, List, length, map, Some, None, Ok}
use Rattle.memory_window.specs.declared.regions.Region.{Region}
use Rattle.telecommands.specs.declared.command.Command.{Command}
use Rattle.telecommands.specs.Dictionary.{placed, dictionary}
use Rattle.table_forms.specs.Layouts.{placed as placed_layouts, all_layouts}
use Rattle.load_texts.specs.Headers.{placed_field, all_fields}
use Rattle.load_books.specs.declared.forms.BookForms.{BookForms}
use Rattle.load_books.specs.Books.{BookMade, book_said, is_book_text}
use Rattle.timed_plans.specs.Checks.{scenario_said}
use Rattle.ground_faults.specs.HeaderMaps.{map_said}

-- the forms by which books are read: the telecommands, the layouts of tables and the fields of loads that are documented
pub record AreBookForms (forms : BookForms) : Type 0 where
  pub commands : map placed forms.commands.now ≡ dictionary
  pub layouts : placed_layouts forms.layouts.now ≡ all_layouts
  pub fields : map placed_field forms.fields.now ≡ all_fields

-- the map of the scenario that a text says as a plan: its header isn't a scenario's
pub record IsPlanMap (text : List ℕ) (regions : List Region) : Type 0 where
  pub is_other : map_said text ≡ None
  pub commands : List Command
  pub scenario : List ℕ
  pub are_listed : map placed commands ≡ dictionary
  pub is_said : scenario_said commands text ≡ Ok scenario
  pub is_map : map_said scenario ≡ Some regions

-- the map of a book's scenario
pub record IsBookMap (text : List ℕ) (regions : List Region) : Type 0 where
  pub forms : BookForms
  pub book : BookMade
  pub are_forms : AreBookForms forms
  pub is_book : is_book_text text ≡ true
  pub is_said : book_said forms text ≡ Ok book
  pub is_map : map_said book.scenario ≡ Some regions

-- the map of a text: that of its header where it is a scenario, or else of what it says as a plan; and of a book that of its plan
abbrev pub IsMapOf : List ℕ → List Region → Type 0
IsMapOf text regions = (map_said text ≡ Some regions) ⊎ (IsPlanMap text regions ⊎ IsBookMap text regions)

-- ---- texts without a map

-- a text says no plan whose scenario has a map
pub record IsMaplessPlan (text : List ℕ) : Type 0 where
  pub commands : List Command
  pub are_listed : map placed commands ≡ dictionary
  pub gives_none : (scenario : List ℕ) → scenario_said commands text ≡ Ok scenario → map_said scenario ≡ None

-- a text's header isn't a scenario's, and it is longer than any plan or says none whose scenario has a map
abbrev pub IsMaplessText : List ℕ → Type 0
IsMaplessText text = (map_said text ≡ None) × ((2 ^ 32 ≤ 1 + length text) ⊎ IsMaplessPlan text)

-- the scenario of the book that a text says has no map
pub record IsMaplessBook (text : List ℕ) : Type 0 where
  pub forms : BookForms
  pub book : BookMade
  pub are_forms : AreBookForms forms
  pub is_book : is_book_text text ≡ true
  pub is_said : book_said forms text ≡ Ok book
  pub is_mapless : map_said book.scenario ≡ None

-- a text gives no map: neither as a scenario or a plan, nor as a book
abbrev pub GivesNoMap : List ℕ → Type 0
GivesNoMap text = IsMaplessText text ⊎ IsMaplessBook text
