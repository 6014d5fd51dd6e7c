-- What the words behind a verb ask for, by the values that clap gives for them.
use Rattle.std.specs.Prelude.{◌≡◌, ℕ, ◌<◌, ◌^◌, Bool, false, not, if◌then◌else◌, List, [], map, codes, bytes_eq, Option, Some, None, option_map, unwrap_or}
use Rattle.std.specs.Borrow.{Bor}
use Rattle.std.specs.Str.Parse.{IsNumeral, digits_value, without_leading_plus}
use Rattle.clap.specs.Matches.{found_of}
use Rattle.clap.specs.Walk.{Row, first_of, one_of, all_of, rows_of}
use Rattle.clap.specs.declared.parser.matches.ArgMatches.{ArgMatches}
use Rattle.verb_words.specs.declared.verbs.Verb.{Verb}
use Rattle.verb_words.specs.declared.verbs.Verb.TheVariants as verbs
use Rattle.ground_making.specs.declared.making.Making.{Making}
use Rattle.ground_making.specs.declared.making.Making.TheVariants as makings
use Rattle.ground_making.specs.declared.made_files.Wanted.{Wanted}
use Rattle.ground_making.specs.declared.shown_files.Shown.{Shown}
use Rattle.ground_books.specs.declared.building.Build.{Build}
use Rattle.ground_checks.specs.declared.checking.Check.{Check}
use Rattle.ground_exports.specs.declared.exporting.Export.{Export}
use Rattle.ground_exports.specs.declared.exporting.Export.TheVariants as exports
use Rattle.ground_exports.specs.declared.exporting.Exported.{Exported}
use Rattle.ground_differences.specs.declared.comparing.LogPair.{LogPair}
use Rattle.ground_runs.specs.declared.asked_run.Run.{Run}
use Rattle.ground_verbs.specs.declared.asked.Description.{Description}
use Rattle.ground_verbs.specs.declared.asked.Description.TheVariants as descriptions
use Rattle.ground_verbs.specs.declared.asked.Page.{Page}
use Rattle.ground_verbs.specs.declared.asked.Asked.{Asked}
use Rattle.ground_verbs.specs.declared.asked.Asked.TheVariants as asks

abbrev pub word_text : Bor (List ℕ) → List ℕ
word_text text = text.now

abbrev pub word_texts : List (Bor (List ℕ)) → List (List ℕ)
word_texts texts = map word_text texts

-- the words of a verb and their values
abbrev pub rows_in : ArgMatches → List Row
rows_in words = rows_of (found_of words)

-- the name that a word gives; a standard stream where it gives none
abbrev pub name_given : List ℕ → List Row → List ℕ
name_given word rows = unwrap_or (first_of word rows) (codes "-")

-- the names that a word gives, as often as it stands there
abbrev pub names_given : List ℕ → List Row → List (List ℕ)
names_given word rows = unwrap_or (all_of word rows) []

-- whether a flag is given, by its value
abbrev pub is_true : Option (List ℕ) → Bool
is_true None = false
is_true (Some value) = bytes_eq value (codes "true")

abbrev pub is_given : List ℕ → List Row → Bool
is_given flag rows = is_true (first_of flag rows)

-- a number of seconds under 2^32, and the text that says it: decimal digits, which a plus may stand in front of
pub record IsTimeIn (text : List ℕ) (seconds : ℕ) : Type 0 where
  pub digits : IsNumeral 10 (without_leading_plus text)
  pub small : seconds < 2 ^ 32
  pub value : seconds ≡ digits_value 10 (without_leading_plus text)

-- the time that a text says, where there is one and it says one
abbrev pub SaysTime : Option (List ℕ) → Option ℕ → Type 0
SaysTime None epoch = epoch ≡ None
SaysTime (Some text) None = (seconds : ℕ) → ¬ IsTimeIn text seconds
SaysTime (Some text) (Some seconds) = IsTimeIn text seconds

-- `--epoch`
abbrev pub SaysEpoch : List Row → Option ℕ → Type 0
SaysEpoch rows epoch = SaysTime (one_of (codes "epoch") rows) epoch

-- ---- verb by verb

pub record SaysMake (what : Making) (rows : List Row) (wanted : Wanted) : Type 0 where
  pub making : wanted.making ≡ what
  pub epoch : SaysEpoch rows wanted.epoch
  pub file : wanted.file.now ≡ name_given (codes "input") rows
  pub output : wanted.output.now ≡ name_given (codes "output") rows

pub record SaysShow (rows : List Row) (shown : Shown) : Type 0 where
  pub epoch : SaysEpoch rows shown.epoch
  pub files : word_texts shown.files.now ≡ names_given (codes "files") rows
  pub output : shown.output.now ≡ name_given (codes "output") rows

pub record SaysBuild (rows : List Row) (build : Build) : Type 0 where
  pub book : build.book.now ≡ name_given (codes "input") rows
  pub folder : option_map word_text build.folder ≡ first_of (codes "output") rows

pub record SaysCheck (rows : List Row) (check : Check) : Type 0 where
  pub files : word_texts check.files.now ≡ names_given (codes "files") rows
  pub map : option_map word_text check.map ≡ first_of (codes "map") rows

pub record SaysRun (rows : List Row) (run : Run) : Type 0 where
  pub scenario : run.scenario.now ≡ name_given (codes "scenario") rows
  pub files : word_texts run.files.now ≡ names_given (codes "files") rows
  pub workers : option_map word_text run.workers ≡ first_of (codes "workers") rows
  pub subjects : run.has_subjects ≡ is_given (codes "subjects") rows
  pub epoch : SaysEpoch rows run.epoch
  pub strict : run.is_strict ≡ is_given (codes "strict") rows
  pub allowed : word_texts run.allowed.now ≡ names_given (codes "allow") rows
  pub inputs : run.tells_inputs ≡ not (is_given (codes "no-inputs") rows)
  pub log : option_map word_text run.log ≡ first_of (codes "log") rows
  pub output : run.output.now ≡ name_given (codes "output") rows

pub record SaysExport (what : Export) (rows : List Row) (exported : Exported) : Type 0 where
  pub export : exported.export ≡ what
  pub epoch : SaysEpoch rows exported.epoch
  pub file : exported.file.now ≡ name_given (codes "input") rows
  pub output : exported.output.now ≡ name_given (codes "output") rows

pub record SaysCompare (rows : List Row) (pair : LogPair) : Type 0 where
  pub one : pair.one.now ≡ name_given (codes "one") rows
  pub other : pair.other.now ≡ name_given (codes "other") rows
  pub epoch : SaysEpoch rows pair.epoch
  pub output : pair.output.now ≡ name_given (codes "output") rows

pub record SaysPage (what : Description) (rows : List Row) (page : Page) : Type 0 where
  pub description : page.description ≡ what
  pub output : page.output.now ≡ name_given (codes "output") rows

-- the completions for a shell, by its name
abbrev pub completions_for : Option (List ℕ) → Description
completions_for None = descriptions.Bash
completions_for (Some shell) = if bytes_eq shell (codes "zsh") then descriptions.Zsh else descriptions.Bash

-- ---- all of them

-- What is asked for: the words behind a verb say it.
abbrev pub IsAsked : Verb → List Row → Asked → Type 0
IsAsked verbs.Table rows asked = (wanted : Wanted) × (asked ≡ asks.Make wanted) × SaysMake makings.Table rows wanted
IsAsked verbs.Scenario rows asked = (wanted : Wanted) × (asked ≡ asks.Make wanted) × SaysMake makings.Scenario rows wanted
IsAsked verbs.Build rows asked = (build : Build) × (asked ≡ asks.Build build) × SaysBuild rows build
IsAsked verbs.Check rows asked = (check : Check) × (asked ≡ asks.Check check) × SaysCheck rows check
IsAsked verbs.Show rows asked = (shown : Shown) × (asked ≡ asks.Show shown) × SaysShow rows shown
IsAsked verbs.Run rows asked = (run : Run) × (asked ≡ asks.Rehearse run) × SaysRun rows run
IsAsked verbs.Words rows asked = (exported : Exported) × (asked ≡ asks.Export exported) × SaysExport exports.Words rows exported
IsAsked verbs.Csv rows asked = (exported : Exported) × (asked ≡ asks.Export exported) × SaysExport exports.Rows rows exported
IsAsked verbs.Pcap rows asked = (exported : Exported) × (asked ≡ asks.Export exported) × SaysExport exports.Capture rows exported
IsAsked verbs.Diff rows asked = (pair : LogPair) × (asked ≡ asks.Compare pair) × SaysCompare rows pair
IsAsked verbs.Completions rows asked = (page : Page) × (asked ≡ asks.Describe page) × SaysPage (completions_for (first_of (codes "shell") rows)) rows page
IsAsked verbs.Man rows asked = (page : Page) × (asked ≡ asks.Describe page) × SaysPage descriptions.Manual rows page
