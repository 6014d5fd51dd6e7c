-- Which words the program accepts.
use Rattle.std.specs.Prelude.{ℕ, List, [], ◌∷◌, ◌++◌, length, Bool, true, false, ◌&&◌, Option, Some, None, option_and_then, unwrap_or, nat_le, nat_eq, bytes_eq, if◌then◌else◌, codes, drop}
use Rattle.std.specs.List.{starts_with}
use Rattle.clap.specs.Walk.{Row, Rule, first_of, all_of}
use Rattle.clap.specs.Simple.{App, new_app, new_rule, with_rule, matches_of}
use Rattle.clap.specs.Faults.{fault_of}
use Rattle.clap.specs.Kinds.{Kinds}
use Rattle.clap.specs.declared.builder.action.ArgAction.TheVariants as actions
use Rattle.scenario.specs.Words.{digits}

-- what accepted words ask for: a number of workers, whether simulated applications give the execution counters, the scenario's word, and the
-- names of the FILEs
pub record Asked : Type 0 where
  pub workers : ℕ
  pub subjects : Bool
  pub scenario : List ℕ
  pub files : List (List ℕ)

-- a number from 1 to 16
abbrev pub within_crew : ℕ → Option ℕ
within_crew n = if nat_le 1 n && nat_le n 16 then Some n else None

-- the number of workers that a word says: one or two decimal digits, from 1 to 16
unfoldable pub workers_in : List ℕ → Option ℕ
workers_in word = option_and_then within_crew (digits 10 2 word)

-- the number of workers by the value of the option, 1 where it isn't given
abbrev pub workers_said : Option (List ℕ) → Option ℕ
workers_said None = Some 1
workers_said (Some word) = workers_in word

-- whether a flag is given, by its value
abbrev pub is_said : Option (List ℕ) → Bool
is_said None = false
is_said (Some word) = bytes_eq word (codes "true")

-- the number of the generated scenario that a word asks for: `drill:` and one to six decimal digits; any other word is a file's name
unfoldable pub drill_in : List ℕ → Option ℕ
drill_in word = if starts_with nat_eq word (codes "drill:") then digits 10 6 (drop 6 word) else None

-- the option with a value
abbrev pub workers_rule : Rule
workers_rule = record (new_rule (codes "workers")) { long = Some (codes "workers"); action = Some actions.Set }

-- the flag
abbrev pub subjects_rule : Rule
subjects_rule = record (new_rule (codes "subjects")) { long = Some (codes "subjects"); action = Some actions.SetTrue }

-- the first positional, which has to be there
abbrev pub scenario_rule : Rule
scenario_rule = record (new_rule (codes "scenario")) { required = true }

-- the positionals behind it
abbrev pub files_rule : Rule
files_rule = record (new_rule (codes "files")) { action = Some actions.Append }

-- the simple command that has the option and the flag alone
abbrev pub option_command : App
option_command = with_rule (with_rule (new_app (codes "vigil")) workers_rule) subjects_rule

-- the simple command that reads the words
abbrev pub vigil_command : App
vigil_command = with_rule (with_rule option_command scenario_rule) files_rule

-- the values of the FILEs
abbrev pub files_in : List Row → List (List ℕ)
files_in rows = unwrap_or (all_of (codes "files") rows) []

-- at most 100 FILEs
abbrev pub few_files : List (List ℕ) → Option (List (List ℕ))
few_files files = if nat_le (length files) 100 then Some files else None

-- what a flag, a scenario, a number of workers and FILEs ask for
abbrev pub asked_with : Bool → Option (List ℕ) → Option ℕ → Option (List (List ℕ)) → Option Asked
asked_with subjects None workers files = None
asked_with subjects (Some scenario) None files = None
asked_with subjects (Some scenario) (Some workers) None = None
asked_with subjects (Some scenario) (Some workers) (Some files) = Some (record { workers = workers; subjects = subjects; scenario = scenario; files = files })

-- what the matches of the four ask for
unfoldable pub asked_by : List Row → Option Asked
asked_by rows =
    asked_with (is_said (first_of (codes "subjects") rows)) (first_of (codes "scenario") rows) (workers_said (first_of (codes "workers") rows)) (few_files (files_in rows))

-- what the command finds at the words, where it is handed the program's name before them: the kinds of error, and its matches
unfoldable pub faults_at : List (List ℕ) → Kinds
faults_at words = fault_of vigil_command (codes "vigil" ∷ words)

unfoldable pub matches_at : List (List ℕ) → List Row
matches_at words = matches_of vigil_command (codes "vigil" ∷ words)

-- what matches ask for, where there is no error
abbrev pub unless_faulty : Kinds → List Row → Option Asked
unless_faulty [] rows = asked_by rows
unless_faulty (kind ∷ more) rows = None

-- what the words ask for, where they are accepted
unfoldable pub accepted_words : List (List ℕ) → Option Asked
accepted_words words = unless_faulty (faults_at words) (matches_at words)

-- the file that a scenario's word names, unless the scenario is generated
abbrev pub file_unless : Option ℕ → List ℕ → List (List ℕ)
file_unless None word = word ∷ []
file_unless (Some k) word = []

-- the words to open: the FILEs in order, and then SCENARIO; of a generated scenario the FILEs alone
unfoldable pub words_to_open : Asked → List (List ℕ)
words_to_open asked = asked.files ++ file_unless (drill_in asked.scenario) asked.scenario
