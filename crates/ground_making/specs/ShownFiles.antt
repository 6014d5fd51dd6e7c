-- What the verb that shows files does.
use Rattle.std.specs.Prelude.{◌≡◌, ◌≢◌, ℕ, List, [], ◌∷◌, ◌++◌, map, codes, Option, Some, ◌⊎◌, Any}
use Rattle.std.specs.Borrow.{Bor}
use Rattle.ground_files.specs.declared.verb_status.Status.{Status}
use Rattle.ground_files.specs.declared.verb_status.Status.TheVariants as statuses
use Rattle.ground_files.specs.Inputs.{input_shown}
use Rattle.ground_files.specs.Workspaces.{Held, input_taken, inputs_taken, put_at}
use Rattle.ground_files.specs.Verbs.{KeepsAllFiles, KeepsOtherFiles, IsOver}
use Rattle.ground_making.specs.declared.making.Making.TheVariants as makings
use Rattle.ground_making.specs.declared.shown_files.Shown.{Shown}
use Rattle.ground_making.specs.Causes.{IsCaused}
use Rattle.ground_making.specs.MadeFiles.{Asked, IsMadeOfInput, IsRefusedInput, EndsMaking}

-- what is asked for of one of the files
abbrev pub asked_of : Shown → List ℕ → Asked
asked_of shown name = record { making = makings.Text; epoch = shown.epoch; file = name; output = shown.output.now }

abbrev pub names_in : Shown → List (List ℕ)
names_in shown = map (λ (file : Bor (List ℕ)). file.now) shown.files.now

-- an empty line where something stands before
abbrev pub gap : List ℕ → List ℕ
gap [] = []
gap (b ∷ bs) = 10 ∷ []

-- a text behind what is shown, behind a comment that has this name
abbrev pub with_text : List ℕ → List ℕ → List ℕ → List ℕ
with_text shown name text = shown ++ gap shown ++ codes "# " ++ name ++ (10 ∷ []) ++ text

-- What was asked for of one file stands behind what is shown.
pub record AppendsText (asked : Asked) (before : Held) (old new : List ℕ) : Type 0 where
  pub text : List ℕ
  pub is_text : IsMadeOfInput asked before text
  pub appended : new ≡ with_text old (input_shown asked.file) text

-- Behind `front` the texts of files stand in the order of their names: each is of what its name has once those before it were read.
abbrev pub ShowsAll : Shown → Held → List ℕ → List (List ℕ) → List ℕ → Type 0
ShowsAll shown held front [] all = all ≡ front
ShowsAll shown held front (name ∷ names) all =
    (next : List ℕ) × AppendsText (asked_of shown name) held front next × ShowsAll shown (input_taken name held) next names all

-- Bytes were put by the name of an output, where there are any.
abbrev pub some_put : List ℕ → List ℕ → Held → Held
some_put output [] held = held
some_put output (b ∷ bs) held = put_at output (b ∷ bs) held

-- All files were read, and their texts are in their place.
pub record PutsAll (shown : Shown) (names : List (List ℕ)) (before : Held) (after : Option Held) : Type 0 where
  pub text : List ℕ
  pub is_text : ShowsAll shown before [] names text
  pub is_put : after ≡ Some (some_put shown.output.now text (inputs_taken names before))

-- One of the files has bytes, once those before it were read, of which nothing is made.
abbrev pub RefusesOne : Shown → Held → List (List ℕ) → Type 0
RefusesOne shown held [] = ⊥
RefusesOne shown held (name ∷ names) = IsRefusedInput (asked_of shown name) held ⊎ RefusesOne shown (input_taken name held) names

-- The output is one of the files.
abbrev pub IsOverOne : Shown → Held → List (List ℕ) → Type 0
IsOverOne shown held names = Any (λ (name : List ℕ). IsOver shown.output.now name held) names

-- How several files are shown: all, or no file but the output is another, which is as before where it is one of the files; and the status has
-- its cause.
pub record EndsShowingSeveral (shown : Shown) (names : List (List ℕ)) (status : Status) (before : Held) (after : Option Held) : Type 0 where
  pub done : status ≡ statuses.Done → PutsAll shown names before after
  pub undone : status ≢ statuses.Done → KeepsOtherFiles shown.output.now before after
  pub over : status ≡ statuses.WordsRefused → KeepsAllFiles before after
  pub cause : IsCaused (IsOverOne shown before names) (RefusesOne shown before names) status

-- How the verb ends: one file is made its text, and several are shown.
abbrev pub EndsShowing : Shown → List (List ℕ) → Status → Held → Option Held → Type 0
EndsShowing shown [] status before after = EndsShowingSeveral shown [] status before after
EndsShowing shown (name ∷ []) status before after = EndsMaking (asked_of shown name) status before after
EndsShowing shown (name ∷ other ∷ names) status before after = EndsShowingSeveral shown (name ∷ other ∷ names) status before after
