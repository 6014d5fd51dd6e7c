-- Lemmas on what is made of the bytes of files.
use Rattle.std.proofs.Common.{◌≡◌, ℕ, true, false, List, [], Option, Some, None, refl, ap, sym, subst, ◌∙◌}
use Rattle.std.proofs.Common.{Vec, Global, ◌++◌}
use Rattle.std.specs.Prelude.{Result, Ok, Err, IfOk, OnOk, map}
use Rattle.telecommands.specs.Dictionary.{dictionary, placed}
use Rattle.row_forms.specs.declared.field.Field.{Field}
use Rattle.fsw_outside.specs.Files.{Stored}
use Rattle.table_files.specs.declared.kinds.TableKind.{TableKind}
use Rattle.table_files.specs.Headers.{kind_of_file, file_fault_of, is_load}
use Rattle.table_forms.specs.declared.forms.TextForms.{TextForms}
use Rattle.table_forms.specs.Layouts.{placed as placed_layouts, all_layouts}
use Rattle.table_forms.specs.Reading.{file_text}
use Rattle.load_texts.specs.Headers.{placed_field, all_fields}
use Rattle.load_texts.specs.Loads.{load_text}
use Rattle.load_texts.specs.Loaded.{file_asked}
use Rattle.load_texts.specs.Loads.{is_load_text, SaysLoad}
use Rattle.load_books.specs.Books.{is_book_text}
use Rattle.shown_plans.specs.Shown.{is_scenario_text}
use Rattle.ground_making.specs.declared.making.Making.{Making}
use Rattle.ground_making.specs.declared.making.Making.TheVariants as makings
use Rattle.ground_making.specs.Made.{IsPlanIn, IsTableText, IsLoadText, IsTextOf, IsScenarioOfPlan, IsScenarioOfBook, IsScenarioIn, IsMadeAs}
use Rattle.ground_making.specs.Named.{asked_bytes}
use Rattle.ground_making.specs.MadeFiles.{IsMadeAmong}

-- ---- texts

pub plan_is_text : (epoch : Option ℕ) (bytes text : List ℕ) → is_scenario_text bytes ≡ true → IsPlanIn bytes text → IsTextOf epoch bytes text
plan_is_text epoch bytes text is plan = record {
  plan = λ _. plan;
  table = λ kind not _ _. absurd (let h : true ≡ false = sym is ∙ not in cc);
  load = λ not _. absurd (let h : true ≡ false = sym is ∙ not in cc);
}

some_kind : (k kind : TableKind) (o : Option TableKind) → o ≡ Some k → o ≡ Some kind → k ≡ kind
some_kind k kind o a b = cc

pub table_is_text : (epoch : Option ℕ) (kind : TableKind) (bytes text : List ℕ) → is_scenario_text bytes ≡ false → kind_of_file bytes ≡ Some kind → (epoch ≡ None → IsTableText kind bytes text) → IsTextOf epoch bytes text
table_is_text epoch kind bytes text not is table = record {
  plan = λ yes. absurd (let h : true ≡ false = sym yes ∙ not in cc);
  table = λ other _ here none. subst (λ (k : TableKind). IsTableText k bytes text) (some_kind kind other (kind_of_file bytes) is here) (table none);
  load = λ _ no. absurd (let h : Some kind ≡ None = sym is ∙ no in cc);
}

pub load_is_text : (epoch : Option ℕ) (bytes text : List ℕ) → is_scenario_text bytes ≡ false → kind_of_file bytes ≡ None → IsLoadText bytes text → IsTextOf epoch bytes text
load_is_text epoch bytes text not none load = record {
  plan = λ yes. absurd (let h : true ≡ false = sym yes ∙ not in cc);
  table = λ other _ here _. absurd (let h : Some other ≡ None = sym here ∙ none in cc);
  load = λ _ _. load;
}

pub plan_given : {E : Type 0} (r : Result (Vec ℕ Global) E) (epoch : Option ℕ) (bytes : List ℕ) → is_scenario_text bytes ≡ true → IfOk r (λ plan. IsPlanIn bytes plan.items) → IfOk r (λ text. IsTextOf epoch bytes text.items)
plan_given (Ok plan) epoch bytes is given = plan_is_text epoch bytes plan.items is given
plan_given (Err error) epoch bytes is given = given

pub table_given : {E : Type 0} (r : Result (Vec ℕ Global) E) (epoch : Option ℕ) (kind : TableKind) (bytes : List ℕ) → is_scenario_text bytes ≡ false → kind_of_file bytes ≡ Some kind → IfOk r (λ text. epoch ≡ None → IsTableText kind bytes text.items) → IfOk r (λ text. IsTextOf epoch bytes text.items)
table_given (Ok text) epoch kind bytes not is given = table_is_text epoch kind bytes text.items not is given
table_given (Err error) epoch kind bytes not is given = given

pub load_given : {E : Type 0} (r : Result (Vec ℕ Global) E) (epoch : Option ℕ) (bytes : List ℕ) → is_scenario_text bytes ≡ false → kind_of_file bytes ≡ None → IfOk r (λ text. IsLoadText bytes text.items) → IfOk r (λ text. IsTextOf epoch bytes text.items)
load_given (Ok text) epoch bytes not none given = load_is_text epoch bytes text.items not none given
load_given (Err error) epoch bytes not none given = given

-- what is shown of a table, where no epoch is given
pub shown_given : {E : Type 0} (r : Result (Vec ℕ Global) E) (epoch : Option ℕ) (forms : TextForms) (kind : TableKind) (file old new : List ℕ) → map placed forms.commands.now ≡ dictionary → placed_layouts forms.layouts.now ≡ all_layouts → old ≡ [] → new ≡ old ++ file_text forms kind file → IfOk r (λ told. epoch ≡ None → told.items ≡ new) → IfOk r (λ text. epoch ≡ None → IsTableText kind file text.items)
shown_given (Ok told) epoch forms kind file old new commands layouts none is given = λ at_none. record {
  forms = forms;
  commands = commands;
  layouts = layouts;
  is_text = given at_none ∙ is ∙ ap (λ (front : List ℕ). front ++ file_text forms kind file) none;
}
shown_given (Err error) epoch forms kind file old new commands layouts none is given = given

pub load_shown : (fields : List Field) (file old new : List ℕ) → file_fault_of file ≡ None → is_load file ≡ true → map placed_field fields ≡ all_fields → old ≡ [] → new ≡ old ++ load_text fields file → IsLoadText file new
load_shown fields file old new well load listed none is = record {
  well = well;
  load = load;
  fields = fields;
  listed = listed;
  is_text = is ∙ ap (λ (front : List ℕ). front ++ load_text fields file) none;
}

-- ---- scenarios

pub book_is_in : (text scenario : List ℕ) → is_book_text text ≡ true → IsScenarioOfBook text scenario → IsScenarioIn text scenario
book_is_in text scenario is book = record {
  book = λ _. book;
  plan = λ not. absurd (let h : true ≡ false = sym is ∙ not in cc);
}

pub plan_is_in : (text scenario : List ℕ) → is_book_text text ≡ false → IsScenarioOfPlan text scenario → IsScenarioIn text scenario
plan_is_in text scenario not plan = record {
  book = λ yes. absurd (let h : true ≡ false = sym yes ∙ not in cc);
  plan = λ _. plan;
}

pub book_given : {E : Type 0} (r : Result (Vec ℕ Global) E) (text : List ℕ) → is_book_text text ≡ true → IfOk r (λ scenario. IsScenarioOfBook text scenario.items) → IfOk r (λ scenario. IsScenarioIn text scenario.items)
book_given (Ok scenario) text is given = book_is_in text scenario.items is given
book_given (Err error) text is given = given

pub schedule_given : {E : Type 0} (r : Result (Vec ℕ Global) E) (text : List ℕ) → is_book_text text ≡ false → IfOk r (λ scenario. IsScenarioOfPlan text scenario.items) → IfOk r (λ scenario. IsScenarioIn text scenario.items)
schedule_given (Ok scenario) text not given = plan_is_in text scenario.items not given
schedule_given (Err error) text not given = given

pub always_ok : {A E : Type 0} (r : Result A E) (P : Type 0) → P → OnOk r P
always_ok (Ok a) P p = p
always_ok (Err error) P p = tt

-- ---- what the verb makes

pub load_made : (making : Making) (epoch : Option ℕ) (name : List ℕ) (files : List Stored) (text file named : List ℕ) → making ≡ makings.Table → is_load_text text ≡ true → asked_bytes name files (file_asked text) ≡ Some named → SaysLoad named text file → IsMadeAmong making epoch name files text file
load_made makings.Table epoch name files text file named e is asked says = record {
  load = λ _. record { named = named; is_named = asked; says = says };
  table = λ not. absurd (let h : true ≡ false = sym is ∙ not in cc);
}
load_made makings.Text epoch name files text file named e is asked says = absurd (cc)
load_made makings.Scenario epoch name files text file named e is asked says = absurd (cc)

pub bytes_made : (making : Making) (epoch : Option ℕ) (name : List ℕ) (files : List Stored) (bytes made : List ℕ) → (making ≡ makings.Table → is_load_text bytes ≡ false) → IsMadeAs making epoch bytes made → IsMadeAmong making epoch name files bytes made
bytes_made makings.Table epoch name files bytes made not is = record {
  load = λ yes. absurd (let h : true ≡ false = sym yes ∙ not refl in cc);
  table = λ _. is;
}
bytes_made makings.Text epoch name files bytes made not is = is
bytes_made makings.Scenario epoch name files bytes made not is = is
