-- Why the words of a rehearsal are refused before anything is rehearsed.
use Rattle.std.proofs.Common.{Bor}
use Rattle.std.specs.Prelude.{◌≡◌, ◌≢◌, ◌⊎◌, ℕ, Bool, true, false, List, [], ◌∷◌, Option, Some, None, is_some}
use Rattle.rehearsal.specs.Words.{drill_in}
use Rattle.ground_files.specs.declared.verb_status.Status.{Status}
use Rattle.ground_files.specs.declared.verb_status.Status.TheVariants as statuses
use Rattle.ground_files.specs.Workspaces.{Held, is_dash}
use Rattle.ground_files.specs.Verbs.{IsOver}
use Rattle.ground_runs.specs.declared.asked_run.Run.{Run}

-- whether a scenario's name asks for one that is generated
abbrev pub is_drill : List ℕ → Bool
is_drill name = is_some (drill_in name)

-- the log is asked for on standard output, or where the words go
abbrev pub IsLogMisplaced : Option (Bor (List ℕ)) → List ℕ → Type 0
IsLogMisplaced None output = ⊥
IsLogMisplaced (Some log) output = (is_dash log.now ≡ true) ⊎ (output ≡ log.now)

-- a generated scenario is to have a log that is kept, or one that is judged
abbrev pub IsDrillLogged : Run → Type 0
IsDrillLogged run = (is_drill run.scenario.now ≡ true) × ((is_some run.log ≡ true) ⊎ (run.is_strict ≡ true))

-- words that are refused whatever the files hold
abbrev pub IsMisasked : Run → Type 0
IsMisasked run = IsLogMisplaced run.log run.output.now ⊎ IsDrillLogged run

-- an output is over one of these inputs
abbrev pub IsOverAny : List ℕ → List (Bor (List ℕ)) → Held → Type 0
IsOverAny output [] held = ⊥
IsOverAny output (input ∷ inputs) held = IsOver output input.now held ⊎ IsOverAny output inputs held

-- an output is over the scenario or one of the files
abbrev pub IsOverInput : Run → List ℕ → Held → Type 0
IsOverInput run output held = IsOver output run.scenario.now held ⊎ IsOverAny output run.files.now held

-- the file of the log is, where one is named
abbrev pub IsLogOverInput : Run → Option (Bor (List ℕ)) → Held → Type 0
IsLogOverInput run None held = ⊥
IsLogOverInput run (Some log) held = IsOverInput run log.now held

-- either output is
abbrev pub IsRunOverRead : Run → Held → Type 0
IsRunOverRead run held = IsLogOverInput run run.log held ⊎ IsOverInput run run.output.now held

-- The words of a rehearsal are refused: the log can't be kept there, or not of this scenario, an output is over what is read, or there is an `--allow` that may name nothing.
abbrev pub AreWordsRefused : Run → Held → Type 0
AreWordsRefused run held = IsMisasked run ⊎ IsRunOverRead run held ⊎ (run.allowed.now ≢ [])

-- nothing is rehearsed: the words are refused, or memory ran out
abbrev pub IsEarly : Run → Status → Held → Type 0
IsEarly run status held = ((status ≡ statuses.WordsRefused) × AreWordsRefused run held) ⊎ (status ≡ statuses.NoMemory)

-- ---- what the code gives

-- the log's file is no stream, and the scenario isn't generated
abbrev pub IsWellNamed : Run → Option (Bor (List ℕ)) → Type 0
IsWellNamed run None = Unit {0}
IsWellNamed run (Some log) = (is_dash log.now ≡ false) × (is_drill run.scenario.now ≡ false)
