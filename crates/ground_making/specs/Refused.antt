-- Why nothing is made of the bytes of a file.
use Rattle.std.specs.Prelude.{◌≡◌, ◌≢◌, ◌≤◌, ◌⊎◌, ℕ, true, false, length, List, map, Option, Some, Ok, Err}
use Rattle.telecommands.specs.declared.command.Command.{Command}
use Rattle.telecommands.specs.Dictionary.{dictionary, placed}
use Rattle.row_forms.specs.declared.field.Field.{Field}
use Rattle.table_files.specs.Headers.{file_fault_of}
use Rattle.table_forms.specs.declared.fault.TableFault.{TableFault}
use Rattle.table_forms.specs.declared.fault.TableFault.TheVariants as table_faults
use Rattle.table_forms.specs.declared.fault.ReadError.{ReadError}
use Rattle.table_forms.specs.declared.fault.ReadError.TheVariants as table_errors
use Rattle.table_forms.specs.declared.forms.TextForms.{TextForms}
use Rattle.table_forms.specs.Judging.{refusal_of}
use Rattle.table_forms.specs.Layouts.{placed as placed_layouts, all_layouts}
use Rattle.table_forms.specs.Reading.{table_said}
use Rattle.load_texts.specs.declared.fault.LoadFault.{LoadFault}
use Rattle.load_texts.specs.declared.fault.ReadError.{ReadError as LoadError}
use Rattle.load_texts.specs.declared.fault.ReadError.TheVariants as load_errors
use Rattle.load_texts.specs.Headers.{placed_field, all_fields}
use Rattle.load_texts.specs.Loads.{load_said}
use Rattle.plan_text.specs.declared.fault.PlanFault.{PlanFault}
use Rattle.plan_text.specs.declared.fault.PlanError.{PlanError}
use Rattle.plan_text.specs.declared.fault.PlanError.TheVariants as plan_errors
use Rattle.load_books.specs.declared.fault.BookFault.{BookFault}
use Rattle.load_books.specs.declared.fault.BookError.{BookError}
use Rattle.load_books.specs.declared.fault.BookError.TheVariants as book_errors
use Rattle.load_books.specs.declared.forms.BookForms.{BookForms}
use Rattle.load_books.specs.Books.{book_said, is_book_text}
use Rattle.timed_plans.specs.Checks.{answered, scenario_said}
use Rattle.shown_plans.specs.declared.plan.ShowError.{ShowError}
use Rattle.shown_plans.specs.declared.plan.ShowError.TheVariants as show_errors
use Rattle.shown_plans.specs.KeptFrames.{GivesEnd}
use Rattle.shown_plans.specs.Shown.{is_scenario_text, plan_shown, plain_of}
use Rattle.ground_making.specs.declared.making.Making.{Making}
use Rattle.ground_making.specs.declared.making.Making.TheVariants as makings
use Rattle.ground_making.specs.declared.making.Refusal.{Refusal}
use Rattle.ground_making.specs.declared.making.Refusal.TheVariants as refusals

-- ---- the refusals of what the readers tell

-- an entry that is refused is told as one
abbrev pub table_refusal : TableFault → Refusal
table_refusal (table_faults.Text fault) = refusals.Text (table_faults.Text fault)
table_refusal (table_faults.Table line) = refusals.Text (table_faults.Table line)
table_refusal (table_faults.Name line) = refusals.Text (table_faults.Name line)
table_refusal (table_faults.Description line) = refusals.Text (table_faults.Description line)
table_refusal (table_faults.Head line) = refusals.Text (table_faults.Head line)
table_refusal (table_faults.File fault) = refusals.Text (table_faults.File fault)
table_refusal (table_faults.Entry kind fault) = refusals.Entry kind fault

abbrev pub table_error_refusal : ReadError → Refusal
table_error_refusal (table_errors.Memory e) = refusals.Memory
table_error_refusal (table_errors.Fault fault) = table_refusal fault

abbrev pub load_error_refusal : LoadError → Refusal
load_error_refusal (load_errors.Memory e) = refusals.Memory
load_error_refusal (load_errors.Fault fault) = refusals.LoadText fault

abbrev pub plan_error_refusal : PlanError → Refusal
plan_error_refusal (plan_errors.Memory e) = refusals.Memory
plan_error_refusal (plan_errors.Plan fault) = refusals.Plan fault

abbrev pub book_error_refusal : BookError → Refusal
book_error_refusal (book_errors.Memory e) = refusals.Memory
book_error_refusal (book_errors.Book fault) = refusals.Book fault

abbrev pub show_error_refusal : ShowError → Refusal
show_error_refusal (show_errors.Memory e) = refusals.Memory
show_error_refusal (show_errors.Scenario fault) = refusals.Scenario (show_errors.Scenario fault)
show_error_refusal show_errors.Long = refusals.Scenario show_errors.Long
show_error_refusal (show_errors.Plan fault) = refusals.Scenario (show_errors.Plan fault)
show_error_refusal show_errors.Differs = refusals.Scenario show_errors.Differs

-- ---- what is refused, in the words of the documents

-- more bytes than 4,294,967,294
abbrev pub IsLong : List ℕ → Type 0
IsLong bytes = 4294967295 ≤ length bytes

-- the text of no table, whose times are counted from `epoch`, and its fault
pub record IsNoTable (epoch : Option ℕ) (text : List ℕ) (fault : TableFault) : Type 0 where
  pub forms : TextForms
  pub counted : forms.epoch ≡ epoch
  pub commands : map placed forms.commands.now ≡ dictionary
  pub layouts : placed_layouts forms.layouts.now ≡ all_layouts
  pub is_fault : table_said forms text ≡ Err fault

-- the text of no load, where the file that it asks for has the bytes `named`, and its fault
pub record IsNoLoad (named text : List ℕ) (fault : LoadFault) : Type 0 where
  pub fields : List Field
  pub listed : map placed_field fields ≡ all_fields
  pub is_fault : load_said fields named text ≡ Err fault

-- the text of no plan, and its fault
pub record IsNoPlan (text : List ℕ) (fault : PlanFault) : Type 0 where
  pub commands : List Command
  pub listed : map placed commands ≡ dictionary
  pub is_fault : scenario_said commands text ≡ Err fault

-- the text of no book, and its fault
pub record IsNoBook (text : List ℕ) (fault : BookFault) : Type 0 where
  pub forms : BookForms
  pub commands : map placed forms.commands.now ≡ dictionary
  pub layouts : placed_layouts forms.layouts.now ≡ all_layouts
  pub fields : map placed_field forms.fields.now ≡ all_fields
  pub is_fault : book_said forms text ≡ Err fault

-- why a text whose first line is a scenario's has no plan: a scenario's reader tells this fault of it; or it tells none, and the plan is too
-- long, or is itself refused, or says another scenario
abbrev pub HasNoPlan : List Command → List ℕ → ShowError → Type 0
HasNoPlan commands text (show_errors.Memory e) = ⊥
HasNoPlan commands text (show_errors.Scenario fault) = GivesEnd (answered text) (Err fault)
HasNoPlan commands text show_errors.Long = GivesEnd (answered text) (Ok tt) × IsLong (plan_shown commands text)
HasNoPlan commands text (show_errors.Plan fault) = GivesEnd (answered text) (Ok tt) × (scenario_said commands (plan_shown commands text) ≡ Err fault)
HasNoPlan commands text show_errors.Differs = GivesEnd (answered text) (Ok tt) × (scenario_said commands (plan_shown commands text) ≢ Ok (plain_of text))

-- a text that isn't shown as a plan, and why
pub record IsUnshown (text : List ℕ) (error : ShowError) : Type 0 where
  pub commands : List Command
  pub listed : map placed commands ≡ dictionary
  pub is_fault : HasNoPlan commands text error

-- ---- all of them

-- bytes of which nothing is made, and why: want of memory is no reason, and a load's text is refused with the file that it asks for
abbrev pub IsRefusedFor : Making → Option ℕ → List ℕ → Refusal → Type 0
IsRefusedFor making epoch bytes (refusals.Text fault) = (making ≡ makings.Table) × IsNoTable epoch bytes fault
IsRefusedFor making epoch bytes (refusals.Entry kind fault) = (making ≡ makings.Table) × IsNoTable epoch bytes (table_faults.Entry kind fault)
IsRefusedFor making epoch bytes (refusals.LoadText fault) = ⊥
IsRefusedFor making epoch bytes (refusals.Plan fault) = (making ≡ makings.Scenario) × (is_book_text bytes ≡ false) × IsNoPlan bytes fault
IsRefusedFor making epoch bytes (refusals.Scenario error) = (making ≡ makings.Text) × (is_scenario_text bytes ≡ true) × IsUnshown bytes error
IsRefusedFor making epoch bytes (refusals.Book fault) = (making ≡ makings.Scenario) × (is_book_text bytes ≡ true) × IsNoBook bytes fault
IsRefusedFor making epoch bytes (refusals.File fault) = (making ≡ makings.Text) × (is_scenario_text bytes ≡ false) × (file_fault_of bytes ≡ Some fault)
IsRefusedFor making epoch bytes refusals.Long = IsLong bytes
IsRefusedFor making epoch bytes refusals.Memory = ⊥

-- the text of a load of which no file is made, where the file that it asks for has the bytes `named`, and why
abbrev pub IsLoadRefusedFor : List ℕ → List ℕ → Refusal → Type 0
IsLoadRefusedFor named text refusal = (fault : LoadFault) × (refusal ≡ refusals.LoadText fault) × IsNoLoad named text fault

-- nothing is made of bytes
abbrev pub IsRefusedAs : Making → Option ℕ → List ℕ → Type 0
IsRefusedAs making epoch bytes = (refusal : Refusal) × IsRefusedFor making epoch bytes refusal

-- a file that isn't taken, and why: it is too long, or it is refused by the readers of files and entries
abbrev pub IsUntaken : List ℕ → Refusal → Type 0
IsUntaken file refusal = ((refusal ≡ refusals.Long) × IsLong file) ⊎ ((fault : TableFault) × (refusal ≡ table_refusal fault) × (refusal_of file ≡ Some fault))
