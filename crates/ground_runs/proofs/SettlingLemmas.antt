-- Lemmas on the outputs of a rehearsal as they are settled.
use Rattle.std.proofs.Common.{◌≡◌, ℕ, zero, suc, ◌<◌, ◌&&◌, Bool, true, false, List, [], ◌∷◌, length, get_or, Option, Some, None, refl, ap, sym, subst, ◌∙◌, inl, inr, arith, Bor}
use Rattle.std.specs.Prelude.{option_map, ◌⊎◌, if◌then◌else◌, IsSome, is_ok, Result, Ok, Err, MatchResult, OnOk}
use Rattle.fsw_outside.specs.Files.{Stored}
use Rattle.ground_files.specs.Workspaces.{Held, is_dash, file_put, settled_at, files_of, KeepsFiles}
use Rattle.ground_files.specs.Verbs.{KeepsAllFiles, IsOver}
use Rattle.ground_files.specs.declared.verb_status.Status.{Status}
use Rattle.ground_files.specs.declared.verb_status.Status.TheVariants as statuses
use Rattle.rehearsal.specs.declared.report.Report.{Report}
use Rattle.ground_runs.specs.declared.asked_run.Run.{Run}
use Rattle.ground_runs.specs.Endings.{status_at, unjudged, is_reported, is_kept}
use Rattle.ground_runs.specs.Refusals.{is_drill, IsOverAny, IsEarly, IsWellNamed}
use Rattle.ground_runs.specs.DraftSinks.{told_while_well}
use Rattle.ground_runs.proofs.DraftLemmas.{all_told}
use Rattle.ground_runs.specs.KeptLogs.{IsLog, Staged, log_settled, Settles, KeepsLogAlone, KeepsNone, EndsRun, WritesLog, SettledAs}

-- ---- what of the files stays

pub never_kept : (kept : Bool) → (kept && false) ≡ false
never_kept true = refl
never_kept false = refl

-- nothing was moved
pub kept_files : (old new : Option Held) (before : Held) → old ≡ Some before → KeepsFiles old new → KeepsAllFiles before new
kept_files old new before is keeps = keeps.files ∙ ap (option_map files_of) is

pub kept_twice : (old middle new : Option Held) (before : Held) → old ≡ Some before → KeepsFiles old middle → KeepsFiles middle new → KeepsAllFiles before new
kept_twice old middle new before is first second = second.files ∙ kept_files old middle before is first

dropped_if : (dash : Bool) (files put : List Stored) → (if dash then files else if false then put else files) ≡ files
dropped_if true files put = refl
dropped_if false files put = refl

-- what isn't kept leaves the files as they are
dropped : (name bytes : List ℕ) (held : Held) → (settled_at name bytes false held).files ≡ held.files
dropped name bytes held = dropped_if (is_dash name) held.files (file_put name bytes held.files)

log_dropped : (log : Option (Bor (List ℕ))) (bytes : List ℕ) (held : Held) → (log_settled log bytes false held).files ≡ held.files
log_dropped None bytes held = refl
log_dropped (Some log) bytes held = dropped log.now bytes held

both_dropped : (log : Option (Bor (List ℕ))) (bytes output text : List ℕ) (before : Held) (after : Option Held) → after ≡ Some (settled_at output text false (log_settled log bytes false before)) → KeepsAllFiles before after
both_dropped log bytes output text before after is =
    ap (option_map files_of) is ∙ ap Some (dropped output text (log_settled log bytes false before) ∙ log_dropped log bytes before)

-- what is kept in a file is there
put_in : (name bytes : List ℕ) (held : Held) → is_dash name ≡ false → (settled_at name bytes true held).files ≡ file_put name bytes held.files
put_in name bytes held file = rw file refl

-- ---- what a rehearsal leaves

-- a rehearsal came to these bytes
pub record Written {S : Type 0} (what : Staged S) (status : Status) (frames : ℕ) (bytes : List ℕ) : Type 0 where
  pub report : Report
  pub ends : status_at report.status ≡ unjudged status
  pub number : report.frames ≡ frames
  pub is_log : IsLog what.words what.seen report bytes

-- what is told of the outputs before they are settled
pub record Makes {S : Type 0} (what : Staged S) (run : Run) (ended : Status) (frames : ℕ) (bytes text : List ℕ) : Type 0 where
  pub writes : is_reported ended ≡ true → Written what ended frames bytes
  pub summed : is_drill run.scenario.now ≡ true → text ≡ bytes
  pub strict : ended ≡ statuses.Unwanted → run.is_strict ≡ true
  pub well : IsWellNamed run run.log

settles : {S : Type 0} (what : Staged S) (run : Run) (status : Status) (frames : ℕ) (bytes text : List ℕ) (before : Held) (after : Option Held) → Written what status frames bytes → (is_drill run.scenario.now ≡ true → text ≡ bytes)
    → after ≡ Some (settled_at run.output.now text (is_kept status frames) (log_settled run.log bytes (is_kept status frames) before)) → Settles what run status before after
settles what run status frames bytes text before after written summed is = record {
  bytes = bytes;
  comes = record { report = written.report; ends = written.ends; is_log = written.is_log };
  text = text;
  summed = summed;
  settled = subst (λ (n : ℕ). after ≡ Some (settled_at run.output.now text (is_kept status n) (log_settled run.log bytes (is_kept status n) before))) (sym written.number) is;
}

keeps_none : {S : Type 0} (what : Staged S) (status : Status) (frames : ℕ) (bytes : List ℕ) (before : Held) (after : Option Held) → Written what status frames bytes → KeepsAllFiles before after → KeepsNone what status before after
keeps_none what status frames bytes before after written kept = record {
  bytes = bytes;
  comes = record { report = written.report; ends = written.ends; is_log = written.is_log };
  kept = kept;
}

ends_settled : {S : Type 0} (what : Staged S) (run : Run) (status : Status) (frames : ℕ) (bytes text : List ℕ) (before : Held) (after : Option Held) → Makes what run status frames bytes text
    → after ≡ Some (settled_at run.output.now text (is_kept status frames) (log_settled run.log bytes (is_kept status frames) before)) → EndsRun what run status before after
ends_settled what run statuses.Done frames bytes text before after makes is = settles what run statuses.Done frames bytes text before after (makes.writes refl) makes.summed is
ends_settled what run statuses.WordsRefused frames bytes text before after makes is = inr (keeps_none what statuses.WordsRefused frames bytes before after (makes.writes refl) (both_dropped run.log bytes run.output.now text before after is))
ends_settled what run statuses.FileRefused frames bytes text before after makes is = keeps_none what statuses.FileRefused frames bytes before after (makes.writes refl) (both_dropped run.log bytes run.output.now text before after is)
ends_settled what run statuses.ScenarioRefused frames bytes text before after makes is = settles what run statuses.ScenarioRefused frames bytes text before after (makes.writes refl) makes.summed is
ends_settled what run statuses.ReadFailed frames bytes text before after makes is = settles what run statuses.ReadFailed frames bytes text before after (makes.writes refl) makes.summed is
ends_settled what run statuses.WriteFailed frames bytes text before after makes is = inl (both_dropped run.log bytes run.output.now text before after is)
ends_settled what run statuses.NoMemory frames bytes text before after makes is = both_dropped run.log bytes run.output.now text before after is
ends_settled what run statuses.Unwanted frames bytes text before after makes is = (makes.strict refl, settles what run statuses.Unwanted frames bytes text before after (makes.writes refl) makes.summed is)

kept_writes : (status : Status) (frames : ℕ) → is_kept status frames ≡ true → is_reported status ≡ true
kept_writes statuses.Done frames kept = refl
kept_writes statuses.WordsRefused frames kept = refl
kept_writes statuses.FileRefused frames kept = refl
kept_writes statuses.ScenarioRefused frames kept = refl
kept_writes statuses.ReadFailed frames kept = refl
kept_writes statuses.WriteFailed frames kept = kept
kept_writes statuses.NoMemory frames kept = kept
kept_writes statuses.Unwanted frames kept = refl

-- the log was settled, and the words' output wasn't
failed_at : {S : Type 0} (kept : Bool) (what : Staged S) (run : Run) (named : Option (Bor (List ℕ))) (status : Status) (frames : ℕ) (bytes text : List ℕ) (before : Held) (after : Option Held) → run.log ≡ named → Makes what run status frames bytes text → IsWellNamed run named
    → is_kept status frames ≡ kept → option_map files_of after ≡ Some (files_of (log_settled named bytes kept before)) → KeepsAllFiles before after ⊎ KeepsLogAlone what run before after
failed_at kept what run None status frames bytes text before after same makes well is files = inl files
failed_at false what run (Some log) status frames bytes text before after same makes well is files = inl (files ∙ ap Some (dropped log.now bytes before))
failed_at true what run (Some log) status frames bytes text before after same makes well is files =
    let written = makes.writes (kept_writes status frames is) in
    inr (record {
      log = log;
      is_named = same;
      status = status;
      bytes = bytes;
      comes = record { report = written.report; ends = written.ends; is_log = written.is_log };
      kept = ap (is_kept status) written.number ∙ is;
      files = files ∙ ap Some (put_in log.now bytes before well.0);
    })

pub ends_run : {S : Type 0} (what : Staged S) (run : Run) (ended : Status) (frames : ℕ) (bytes text : List ℕ) (status : Status) (before : Held) (after : Option Held) → Makes what run ended frames bytes text
    → SettledAs run.log bytes run.output.now text (is_kept ended frames) ended status before after → EndsRun what run status before after
ends_run what run ended frames bytes text status before after makes settled =
    elim settled [
      | inl both ↦ subst (λ (s : Status). EndsRun what run s before after) (sym both.0) (ends_settled what run ended frames bytes text before after makes both.1)
      | inr failed ↦ subst (λ (s : Status). EndsRun what run s before after) (sym failed.0)
          (elim failed.1 [
            | inl keeps ↦ inl keeps
            | inr files ↦ failed_at (is_kept ended frames) what run run.log ended frames bytes text before after refl makes makes.well refl files
          ])
    ]

-- nothing was rehearsed
pub ends_early : {S : Type 0} (what : Staged S) (run : Run) (status : Status) (before : Held) (after : Option Held) → IsEarly run status before → KeepsAllFiles before after → EndsRun what run status before after
ends_early what run status before after early keeps =
    elim early [
      | inl refused ↦ subst (λ (s : Status). EndsRun what run s before after) (sym refused.0) (inl (refused.1, keeps))
      | inr is ↦ subst (λ (s : Status). EndsRun what run s before after) (sym is) keeps
    ]

-- memory ran out before
pub ends_unstaged : {S : Type 0} (what : Staged S) (run : Run) (status : Status) (before : Held) (after : Option Held) → status ≡ statuses.NoMemory → KeepsAllFiles before after → EndsRun what run status before after
ends_unstaged what run status before after is keeps = subst (λ (s : Status). EndsRun what run s before after) (sym is) keeps

-- an output couldn't be begun
pub ends_unbegun : {S : Type 0} (what : Staged S) (run : Run) (status : Status) (before : Held) (after : Option Held) → status ≡ statuses.WriteFailed → KeepsAllFiles before after → EndsRun what run status before after
ends_unbegun what run status before after is keeps = subst (λ (s : Status). EndsRun what run s before after) (sym is) (inl keeps)

-- ---- what settling does

pub settled_whole : (log : Bor (List ℕ)) (bytes output text : List ℕ) (kept : Bool) (ended status : Status) (before : Held) (old middle new : Option Held) → old ≡ Some before
    → middle ≡ option_map (settled_at log.now bytes kept) old → new ≡ option_map (settled_at output text kept) middle → status ≡ ended → SettledAs (Some log) bytes output text kept ended status before new
settled_whole log bytes output text kept ended status before old middle new is first second same =
    inl (same, second ∙ ap (option_map (settled_at output text kept)) (first ∙ ap (option_map (settled_at log.now bytes kept)) is))

pub settled_first : (log : Bor (List ℕ)) (bytes output text : List ℕ) (kept : Bool) (ended status : Status) (before : Held) (old middle new : Option Held) → old ≡ Some before
    → middle ≡ option_map (settled_at log.now bytes kept) old → KeepsFiles middle new → status ≡ statuses.WriteFailed → SettledAs (Some log) bytes output text kept ended status before new
settled_first log bytes output text kept ended status before old middle new is first keeps failed =
    inr (failed, inr (keeps.files ∙ ap (option_map files_of) (first ∙ ap (option_map (settled_at log.now bytes kept)) is)))

pub settled_none : (log : Bor (List ℕ)) (bytes output text : List ℕ) (kept : Bool) (ended status : Status) (before : Held) (old middle new : Option Held) → old ≡ Some before
    → KeepsFiles old middle → KeepsFiles middle new → status ≡ statuses.WriteFailed → SettledAs (Some log) bytes output text kept ended status before new
settled_none log bytes output text kept ended status before old middle new is first second failed = inr (failed, inl (kept_twice old middle new before is first second))

-- the words' output was settled alone
pub settled_alone : {E : Type 0} (bytes output text : List ℕ) (kept : Bool) (ended status : Status) (settled : Result (Unit {0}) E) (before : Held) (old new : Option Held) → old ≡ Some before
    → OnOk settled (new ≡ option_map (settled_at output text kept) old) → ((kept && is_ok settled) ≡ false → KeepsFiles old new)
    → MatchResult settled (λ done. status ≡ ended) (λ error. status ≡ statuses.WriteFailed) → SettledAs None bytes output text kept ended status before new
settled_alone bytes output text kept ended status (Ok done) before old new is whole drops ends = inl (ends, whole ∙ ap (option_map (settled_at output text kept)) is)
settled_alone bytes output text kept ended status (Err error) before old new is whole drops ends = inr (ends, inl (kept_files old new before is (drops (never_kept kept))))

-- ---- a log in a draft

pub some_told : (told : Option (List ℕ)) → IsSome told → (bytes : List ℕ) × (told ≡ Some bytes)
some_told None some = let wrong : ⊥ = cc in absurd wrong
some_told (Some bytes) some = (bytes, refl)

pub written_in : {S L : Type 0} (what : Staged S) (held : L → Option (List ℕ)) (faults : L → ℕ) (old new : L) (status : Status) (frames : ℕ) (are_told : Bool) (first last : Option (List ℕ)) (bytes : List ℕ)
    → held old ≡ told_while_well are_told (faults old) first → held new ≡ told_while_well are_told (faults new) last
    → are_told ≡ true → faults old ≡ 0 → first ≡ Some [] → last ≡ Some bytes
    → WritesLog what held faults old new status frames → Written what status frames bytes
written_in what held faults old new status frames are_told first last bytes held_old held_new told well empty full wrote = record {
  report = wrote.report;
  ends = wrote.ends;
  number = wrote.number;
  is_log = wrote.is_log bytes well
      (held_old ∙ all_told are_told (faults old) first told well ∙ empty)
      (held_new ∙ all_told are_told (faults new) last told (wrote.well well) ∙ full);
}

-- bytes that are told whatever becomes of the output
pub written_out : {S L : Type 0} (what : Staged S) (held : L → Option (List ℕ)) (faults : L → ℕ) (old new : L) (status : Status) (frames : ℕ) (bytes : List ℕ)
    → faults old ≡ 0 → held old ≡ Some [] → held new ≡ Some bytes → WritesLog what held faults old new status frames → Written what status frames bytes
written_out what held faults old new status frames bytes well empty full wrote = record {
  report = wrote.report;
  ends = wrote.ends;
  number = wrote.number;
  is_log = wrote.is_log bytes well empty full;
}

-- ---- what is read

-- one of the inputs is written over
pub over_at : (output : List ℕ) (inputs : List (Bor (List ℕ))) (place : ℕ) (other : Bor (List ℕ)) (held : Held) → place < length inputs → IsOver output (get_or inputs place other).now held → IsOverAny output inputs held
over_at output [] place other held within over = absurd (omega arith)
over_at output (first ∷ inputs) zero other held within over = inl over
over_at output (first ∷ inputs) (suc place) other held within over = inr (over_at output inputs place other held (omega arith) over)

-- ---- what the words say

-- no log is named
pub unnamed_well : (run : Run) (named : Option (Bor (List ℕ))) → named ≡ None → IsWellNamed run named
unnamed_well run None is = tt
unnamed_well run (Some log) is = let wrong : ⊥ = cc in absurd wrong

pub not_both : {P : Type 0} (b : Bool) → b ≡ false → b ≡ true → P
not_both b first second = let wrong : ⊥ = cc in absurd wrong

-- where a log is named the scenario isn't generated
pub not_drilled : (run : Run) (log : Bor (List ℕ)) (named : Option (Bor (List ℕ))) → named ≡ Some log → IsWellNamed run named → (P : Type 0) → is_drill run.scenario.now ≡ true → P
not_drilled run log None is well P drill = let wrong : ⊥ = cc in absurd wrong
not_drilled run log (Some named) is well P drill = not_both (is_drill run.scenario.now) well.1 drill

-- what an output is told to hold is what is settled
pub whole_told : {A E : Type 0} (settled : Result A E) (told : Option (List ℕ)) (text : List ℕ) (P : List ℕ → Type 0) → told ≡ Some text
    → OnOk settled ((bytes : List ℕ) → told ≡ Some bytes → P bytes) → OnOk settled (P text)
whole_told (Ok done) told text P is whole = whole text is
whole_told (Err error) told text P is whole = tt
