-- What matches ask for, and what the command's errors come to.
use Rattle.std.proofs.Common.{◌≡◌, ◌≢◌, ◌⊎◌, inl, inr, ℕ, ◌<◌, ◌≤◌, Bool, true, false, List, [], ◌∷◌, length, codes, Option, Some, None, Result, Ok, Err, refl, sym, ◌∙◌, ap, ap₂, subst, arith}
use Rattle.std.specs.Prelude.{nat_le, unwrap_or, option_map, IfOk, MatchResult}
use Rattle.std.proofs.lemmas.Bool.Decides.{nat_tests}
use Rattle.clap.specs.Matches.{first_value, matched_of, raw_values}
use Rattle.clap.specs.Walk.{Row, first_of, rows_of}
use Rattle.clap.specs.Simple.{App, is_simple, matches_of}
use Rattle.clap.specs.Faults.{fault_of, is_simple_and_free}
use Rattle.clap.specs.Kinds.{Kinds, IsAmong}
use Rattle.clap.specs.declared.parser.matches.Found.{Found}
use Rattle.clap.specs.declared.error.kind.ErrorKind.{ErrorKind}
use Rattle.clap.specs.declared.error.kind.ErrorKind.TheVariants.{OutOfMemory}
use Rattle.clap.proofs.WalkLemmas.{first_value-rows, raw_values-rows}
use Rattle.fsw_outside.specs.declared.traits.NoMemory.{NoMemory}
use Rattle.rehearsal.specs.Words.{Asked, workers_said, is_said, vigil_command, files_in, few_files, asked_with, asked_by, faults_at, matches_at, unless_faulty, accepted_words}

-- a scenario is given
pub with_scenario : (f : Found) (given : Option (List ℕ)) → given ≡ first_value f (codes "scenario")
    → asked_by (rows_of f) ≡ asked_with (is_said (first_of (codes "subjects") (rows_of f))) given (workers_said (first_of (codes "workers") (rows_of f))) (few_files (files_in (rows_of f)))
unfolding asked_by
with_scenario f given is = rw (is ∙ first_value-rows f (codes "scenario")) refl

-- what the option's value says
pub workers_are : (f : Found) (word : Option (List ℕ)) (said : Option ℕ) → word ≡ first_value f (codes "workers") → said ≡ workers_said word
    → workers_said (first_of (codes "workers") (rows_of f)) ≡ said
workers_are f word said is value = ap workers_said (sym (is ∙ first_value-rows f (codes "workers"))) ∙ sym value

-- whether the flag is given
pub subjects_are : (f : Found) (word : Option (List ℕ)) (said : Bool) → word ≡ first_value f (codes "subjects") → said ≡ is_said word
    → is_said (first_of (codes "subjects") (rows_of f)) ≡ said
subjects_are f word said is value = ap is_said (sym (is ∙ first_value-rows f (codes "subjects"))) ∙ sym value

-- the FILEs that were found
pub files_are : (f : Found) (found : Option (List (List ℕ))) → found ≡ option_map raw_values (matched_of f (codes "files")) → files_in (rows_of f) ≡ unwrap_or found []
files_are f found is = ap (λ (o : Option (List (List ℕ))). unwrap_or o []) (sym (is ∙ raw_values-rows f (codes "files")))

-- at most 100 FILEs, and more
pub few_are_taken : (files : List (List ℕ)) → length files ≤ 100 → few_files files ≡ Some files
few_are_taken files few =
    let within : nat_le (length files) 100 ≡ true = grind (arith, nat_tests) in
    rw within refl

pub many_are_refused : (files : List (List ℕ)) → 100 < length files → few_files files ≡ None
many_are_refused files many =
    let over : nat_le (length files) 100 ≡ false = grind (arith, nat_tests) in
    rw over refl

is_simple_command : is_simple_and_free vigil_command ≡ true
is_simple_command = refl

has_simple_form : is_simple vigil_command ≡ true
has_simple_form = refl

no_fault : (faults : Kinds) (rows : List Row) → faults ≡ [] → unless_faulty faults rows ≡ asked_by rows
no_fault faults rows none = rw none refl

-- the command matched the words
pub matched_is : (words texts : List (List ℕ)) (app : App) (rows : List Row) → app ≡ vigil_command → texts ≡ codes "vigil" ∷ words
    → (is_simple_and_free app ≡ true → fault_of app texts ≡ []) → (is_simple app ≡ true → rows ≡ matches_of app texts) → accepted_words words ≡ asked_by rows
unfolding accepted_words faults_at matches_at
matched_is words texts app rows app_is texts_are kinds matches =
    no_fault _ _ (sym (ap₂ fault_of app_is texts_are) ∙ kinds (ap is_simple_and_free app_is ∙ is_simple_command))
    ∙ ap asked_by (sym (matches (ap is_simple app_is ∙ has_simple_form) ∙ ap₂ matches_of app_is texts_are))

some_fault : (kind : ErrorKind) (faults : Kinds) (rows : List Row) → IsAmong kind faults → unless_faulty faults rows ≡ None
some_fault kind [] rows among = absurd among
some_fault kind (k ∷ more) rows among = refl

-- the command refused the words, for another cause than memory
pub refused_is : (words texts : List (List ℕ)) (app : App) (kind : ErrorKind) → app ≡ vigil_command → texts ≡ codes "vigil" ∷ words
    → (is_simple_and_free app ≡ true → (kind ≡ OutOfMemory) ⊎ IsAmong kind (fault_of app texts)) → kind ≢ OutOfMemory → accepted_words words ≡ None
unfolding accepted_words faults_at
refused_is words texts app kind app_is texts_are kinds other =
    elim (kinds (ap is_simple_and_free app_is ∙ is_simple_command)) [
      | inl memory ↦ absurd (other memory)
      | inr among ↦ some_fault kind _ _ (subst (IsAmong kind) (ap₂ fault_of app_is texts_are) among)
    ]

-- an answer that tells of memory says nothing of the words
pub refused_unless : (result : Result (Option Asked) NoMemory) (accepted : Option Asked) (kind : ErrorKind)
    → MatchResult result (λ plan. (plan ≡ None) × (kind ≢ OutOfMemory)) (λ _. kind ≡ OutOfMemory) → (kind ≢ OutOfMemory → accepted ≡ None) → IfOk result (λ plan. accepted ≡ plan)
refused_unless (Ok plan) accepted kind told none = none told.1 ∙ sym told.0
refused_unless (Err e) accepted kind told none = tt
