-- Lemmas on the log that a rehearsal keeps.
use Rattle.std.proofs.Common.{◌≡◌, ◌≢◌, ℕ, ◌+◌, true, List, [], Option, Some, refl, ap, sym, subst, ◌∙◌, arith}
use Rattle.fsw_outside.specs.Told.{WhereTold}
use Rattle.subjects.specs.Plans.{Simulated}
use Rattle.subjects.specs.Own.{own_subjects}
use Rattle.rehearsal.specs.Words.{Asked}
use Rattle.rehearsal.specs.Outcome.{Rehearses, Completes, SumsUp}
use Rattle.rehearsal.specs.Promise.{ShelfUse, SinkUse, sink_use, text_of, CarriesOut, Promise}
use Rattle.rehearsal.specs.declared.report.Report.{Report}
use Rattle.rehearsal.specs.declared.report.Status.{Status as End}
use Rattle.rehearsal.specs.declared.report.Status.TheVariants as ends
use Rattle.ground_files.specs.declared.verb_status.Status.{Status}
use Rattle.ground_files.specs.declared.verb_status.Status.TheVariants as statuses
use Rattle.ground_tools.specs.Kept.{told_while}
use Rattle.ground_runs.specs.Endings.{status_at, unjudged, is_reported}
use Rattle.ground_runs.specs.Rehearsing.{silent}
use Rattle.ground_runs.specs.declared.run_ends.Ending.{Ending}
use Rattle.ground_runs.specs.KeptLogs.{file_use, Staged, WritesLog}

-- ---- statuses

pub unjudged_at : (e : End) → unjudged (status_at e) ≡ status_at e
unjudged_at ends.Done = refl
unjudged_at ends.WordsRefused = refl
unjudged_at ends.FileRefused = refl
unjudged_at ends.ScenarioRefused = refl
unjudged_at ends.ReadFailed = refl
unjudged_at ends.WriteFailed = refl
unjudged_at ends.NoMemory = refl

not_failed : (s : Status) → is_reported s ≡ true → unjudged s ≢ statuses.WriteFailed
not_failed statuses.Done writes is = cc
not_failed statuses.WordsRefused writes is = cc
not_failed statuses.FileRefused writes is = cc
not_failed statuses.ScenarioRefused writes is = cc
not_failed statuses.ReadFailed writes is = cc
not_failed statuses.WriteFailed writes is = cc
not_failed statuses.NoMemory writes is = cc
not_failed statuses.Unwanted writes is = cc

-- a rehearsal that wrote its log didn't fail at it
written_well : (e : End) (s : Status) → is_reported s ≡ true → status_at e ≡ unjudged s → e ≢ ends.WriteFailed
written_well e s writes same is = not_failed s writes (sym same ∙ ap status_at is)

-- ---- a promise of an output is one of a file with its bytes

with_held : (P : Option (List ℕ) → Option (List ℕ) → Type 0) (a b c d : Option (List ℕ)) → a ≡ c → b ≡ d → P a b → P c d
with_held P a b c d first second holds = subst (λ (y : Option (List ℕ)). P c y) second (subst (λ (x : Option (List ℕ)). P x b) first holds)

carried : {S O : Type 0} (report : Report) (asked : Asked) (crowd : Option (List Simulated)) (shelf : ShelfUse S) (out : SinkUse O) (bytes : List ℕ)
    → out.held_before ≡ Some [] → out.held_now ≡ Some bytes → out.faults_now ≡ out.faults_before
    → CarriesOut report asked crowd shelf out → CarriesOut report asked crowd shelf (file_use bytes)
carried report asked crowd shelf out bytes empty full well does = record {
  opening = does.opening;
  mark = does.mark;
  opened = does.opened;
  outcome = with_held (λ before now. WhereTold shelf.told_before shelf.told_now (Rehearses report asked crowd (record { is_open = shelf.is_open; faults_before = shelf.faults_before; faults_now = shelf.faults_now; held_before = before; held_now = now })))
      out.held_before out.held_now (Some []) (Some bytes) empty full does.outcome;
  complete = λ files text file can none. λ after tells.
      let earlier = does.complete files text file can (none.0, well) after tells in
      (earlier.0, earlier.1, λ taken named. with_held (λ before now. WhereTold before now (Completes report files crowd (text_of text))) out.held_before out.held_now (Some []) (Some bytes) empty full (earlier.2 taken named));
  complete_drill = λ files k drill loaded gives none. λ after tells.
      let earlier = does.complete_drill files k drill loaded gives (none.0, well) after tells in
      (earlier.0, earlier.1, λ taken. with_held (λ before now. WhereTold before now (SumsUp report files crowd k)) out.held_before out.held_now (Some []) (Some bytes) empty full (earlier.2 taken));
}

pub of_file : {S O : Type 0} (report : Report) (words : List (List ℕ)) (subjects : List Simulated) (shelf : ShelfUse S) (out : SinkUse O) (bytes : List ℕ)
    → out.held_before ≡ Some [] → out.held_now ≡ Some bytes → out.faults_now ≡ out.faults_before → (out.new ≡ out.old → bytes ≡ []) → report.status ≢ ends.WriteFailed
    → Promise report words subjects shelf out silent → Promise report words subjects shelf (file_use bytes) silent
of_file report words subjects shelf out bytes empty full well same not promise = record {
  only = promise.only;
  refused = λ wrong. let refuses = promise.refused wrong in record { ends = refuses.ends; unread = refuses.unread; unwritten = same refuses.unwritten };
  accepted = λ asked accepts. carried report asked _ shelf out bytes empty full well (promise.accepted asked accepts);
  file_refused = λ is. same (promise.file_refused is);
  no_memory = λ is. let ran_out = promise.no_memory is in (same ran_out.0, ran_out.1);
  causes = record {
    read_failed = promise.causes.read_failed;
    read_well = promise.causes.read_well;
    write_failed = λ is. absurd (not is);
    wrote_well = λ is. refl;
  };
  told = promise.told;
}

-- ---- a rehearsal between its log and its words

none_of_sum : (m n : ℕ) → m + n ≡ 0 → (m ≡ 0) × (n ≡ 0)
none_of_sum m n none = (omega (arith, none), omega (arith, none))

some_bytes : (bytes : List ℕ) (a b : Option (List ℕ)) → a ≡ Some [] → b ≡ Some bytes → b ≡ a → bytes ≡ []
some_bytes bytes a b empty full same = cc

told_at : (refusals : ℕ) (held : Option (List ℕ)) (bytes : List ℕ) → refusals ≡ 0 → held ≡ Some bytes → told_while refusals held ≡ Some bytes
told_at refusals held bytes none is = rw (none, is) refl

-- what is promised of the output that hands on to the log is promised of the log
pub log_written : {S L O : Type 0} (what : Staged S) (held : L → Option (List ℕ)) (faults : L → ℕ) (old new : L) (status : Status) (frames : ℕ)
    → (report : Report) (behind : S) (out : SinkUse O) (before now : ℕ)
    → status_at report.status ≡ unjudged status → is_reported status ≡ true → report.frames ≡ frames
    → before ≡ 0 → out.held_before ≡ told_while before (held old) → out.held_now ≡ told_while now (held new)
    → out.faults_before ≡ faults old + before → out.faults_now ≡ faults new + now → (out.new ≡ out.old → new ≡ old)
    → Promise report what.words own_subjects (what.seen behind) out silent
    → WritesLog what held faults old new status frames
log_written what held faults old new status frames report behind out before now same writes number none held_before held_now faults_before faults_now unwritten promise =
    let not : report.status ≢ ends.WriteFailed = written_well report.status status writes same in
    let kept : out.faults_now ≡ out.faults_before = promise.causes.wrote_well not in
    let sum : faults old ≡ 0 → faults new + now ≡ 0 = λ well. sym faults_now ∙ kept ∙ faults_before ∙ omega (arith, well, none) in
    record {
      report = report;
      ends = same;
      number = number;
      well = λ well. (none_of_sum (faults new) now (sum well)).0;
      is_log = λ bytes well empty full.
          let first = held_before ∙ told_at before (held old) [] none empty in
          let last = held_now ∙ told_at now (held new) bytes (none_of_sum (faults new) now (sum well)).1 full in
          record {
            behind = behind;
            promise = of_file report what.words own_subjects (what.seen behind) out bytes first last kept (λ is. some_bytes bytes (held old) (held new) empty full (ap held (unwritten is))) not promise;
          };
    }

-- what is promised of an output alone
pub alone_written : {S L : Type 0} (what : Staged S) (held : L → Option (List ℕ)) (faults : L → ℕ) (old new : L) (status : Status)
    → (report : Report) (behind : S) → status_at report.status ≡ unjudged status → is_reported status ≡ true
    → Promise report what.words own_subjects (what.seen behind) (sink_use held faults old new) silent
    → WritesLog what held faults old new status report.frames
alone_written what held faults old new status report behind same writes promise =
    let not : report.status ≢ ends.WriteFailed = written_well report.status status writes same in
    let kept : faults new ≡ faults old = promise.causes.wrote_well not in
    record {
      report = report;
      ends = same;
      number = refl;
      well = λ well. kept ∙ well;
      is_log = λ bytes well empty full. record {
        behind = behind;
        promise = of_file report what.words own_subjects (what.seen behind) (sink_use held faults old new) bytes empty full kept (λ is. some_bytes bytes (held old) (held new) empty full (ap held is)) not promise;
      };
    }

-- the ending and the output as they are handed on
pub handed_on : {S L : Type 0} (what : Staged S) (held : L → Option (List ℕ)) (faults : L → ℕ) (old new now : L) (ended ending : Ending) → now ≡ new → ending ≡ ended
    → WritesLog what held faults old new ended.status ended.frames → WritesLog what held faults old now ending.status ending.frames
handed_on what held faults old new now ended ending same_log same wrote =
    subst (λ (e : Ending). WritesLog what held faults old now e.status e.frames) (sym same)
    (subst (λ (l : _). WritesLog what held faults old l ended.status ended.frames) (sym same_log) wrote)
