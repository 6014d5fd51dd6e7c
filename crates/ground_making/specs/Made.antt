-- What the bytes of files are made into.
use Rattle.std.specs.Prelude.{◌≡◌, ℕ, true, false, List, map, Option, Some, None, Ok}
use Rattle.telecommands.specs.declared.command.Command.{Command}
use Rattle.telecommands.specs.Dictionary.{dictionary, placed}
use Rattle.row_forms.specs.declared.field.Field.{Field}
use Rattle.table_files.specs.declared.kinds.TableKind.{TableKind}
use Rattle.table_files.specs.Headers.{kind_of_file, file_fault_of, is_load}
use Rattle.table_texts.specs.Lines.{kept_of}
use Rattle.table_forms.specs.declared.forms.TextForms.{TextForms}
use Rattle.table_forms.specs.Layouts.{placed as placed_layouts, all_layouts}
use Rattle.table_forms.specs.Reading.{first_said, table_said, IsTakenAs, file_text}
use Rattle.load_texts.specs.Headers.{placed_field, all_fields}
use Rattle.load_texts.specs.Loads.{load_text}
use Rattle.load_books.specs.declared.forms.BookForms.{BookForms}
use Rattle.load_books.specs.Books.{BookMade, book_said, is_book_text}
use Rattle.timed_plans.specs.Checks.{scenario_said}
use Rattle.shown_plans.specs.Shown.{is_scenario_text}
use Rattle.shown_plans.specs.KeptFrames.{IsPlanOf}
use Rattle.ground_making.specs.declared.making.Making.{Making}
use Rattle.ground_making.specs.declared.making.Making.TheVariants as makings

-- a text and the file of its table, in the words of the commands and the layouts of the documents and with times counted from `epoch`: the file
-- is the one that the text says, and it is taken as the table that the text's first line names
pub record IsFileOf (epoch : Option ℕ) (text file : List ℕ) : Type 0 where
  pub forms : TextForms
  pub counted : forms.epoch ≡ epoch
  pub commands : map placed forms.commands.now ≡ dictionary
  pub layouts : placed_layouts forms.layouts.now ≡ all_layouts
  pub is_said : table_said forms text ≡ Ok file
  pub is_taken : IsTakenAs (first_said (kept_of 1 text)) file

-- ---- texts of files

-- a scenario and a plan in the words of the commands of the documents: what the plan says is a scenario with that one's header and frames
abbrev pub IsPlanIn : List ℕ → List ℕ → Type 0
IsPlanIn text plan = (cs : List Command) × (map placed cs ≡ dictionary) × IsPlanOf cs text plan

-- the text of a table's file, in the words of the commands and the layouts of the documents
pub record IsTableText (kind : TableKind) (file text : List ℕ) : Type 0 where
  pub forms : TextForms
  pub commands : map placed forms.commands.now ≡ dictionary
  pub layouts : placed_layouts forms.layouts.now ≡ all_layouts
  pub is_text : text ≡ file_text forms kind file

-- a file to be loaded, and its text, in the words of the fields of the documents
pub record IsLoadText (file text : List ℕ) : Type 0 where
  pub well : file_fault_of file ≡ None
  pub load : is_load file ≡ true
  pub fields : List Field
  pub listed : map placed_field fields ≡ all_fields
  pub is_text : text ≡ load_text fields file

-- what bytes are shown as: a scenario as its plan, and else a file as its text. Of the text of a table whose times are told from an epoch
-- on nothing is said.
pub record IsTextOf (epoch : Option ℕ) (bytes text : List ℕ) : Type 0 where
  pub plan : is_scenario_text bytes ≡ true → IsPlanIn bytes text
  pub table : (kind : TableKind) → is_scenario_text bytes ≡ false → kind_of_file bytes ≡ Some kind → epoch ≡ None → IsTableText kind bytes text
  pub load : is_scenario_text bytes ≡ false → kind_of_file bytes ≡ None → IsLoadText bytes text

-- ---- scenarios

-- a plan and the scenario that it says, in the words of the commands of the documents
pub record IsScenarioOfPlan (text scenario : List ℕ) : Type 0 where
  pub commands : List Command
  pub listed : map placed commands ≡ dictionary
  pub is_said : scenario_said commands text ≡ Ok scenario

-- a book and its scenario, by the commands, the layouts and the fields of the documents
pub record IsScenarioOfBook (text scenario : List ℕ) : Type 0 where
  pub forms : BookForms
  pub commands : map placed forms.commands.now ≡ dictionary
  pub layouts : placed_layouts forms.layouts.now ≡ all_layouts
  pub fields : map placed_field forms.fields.now ≡ all_fields
  pub book : BookMade
  pub is_said : book_said forms text ≡ Ok book
  pub is_scenario : book.scenario ≡ scenario

-- a text that is read as a book or as a plan, and its scenario
pub record IsScenarioIn (text scenario : List ℕ) : Type 0 where
  pub book : is_book_text text ≡ true → IsScenarioOfBook text scenario
  pub plan : is_book_text text ≡ false → IsScenarioOfPlan text scenario

-- ---- all of them

-- what bytes are made into
abbrev pub IsMadeAs : Making → Option ℕ → List ℕ → List ℕ → Type 0
IsMadeAs makings.Table epoch bytes made = IsFileOf epoch bytes made
IsMadeAs makings.Text epoch bytes made = IsTextOf epoch bytes made
IsMadeAs makings.Scenario epoch bytes made = IsScenarioIn bytes made
