-- The headline: what a rehearsal promises, from its words to its report, over any shelf and any outputs.
use Rattle.std.specs.Prelude.{◌≡◌, ◌≢◌, ℕ, List, Bool, true, IsTrue, Option, Some, None, ◌⊎◌}
use Rattle.fsw_outside.specs.Told.{WhereTold}
use Rattle.fsw_outside.specs.Files.{Content, file_named}
use Rattle.scenario.specs.Texts.{Text, Ended, reading}
use Rattle.subjects.specs.Plans.{Simulated}
use Rattle.frame_exec.specs.Tables.{tables_fault}
use Rattle.rehearsal.specs.Words.{Asked, drill_in, accepted_words, words_to_open}
use Rattle.rehearsal.specs.Files.{AsksFor, AreTaken}
use Rattle.rehearsal.specs.Beside.{crowd_for}
use Rattle.rehearsal.specs.Outcome.{drill_of, GivesReads, HasCauses, Seen, Rehearses, Completes, SumsUp, MayAskNothing}
use Rattle.rehearsal.specs.Report.{error_line, Tells}
use Rattle.rehearsal.specs.declared.report.Report.{Report}
use Rattle.rehearsal.specs.declared.report.Status.{Status}
use Rattle.rehearsal.specs.declared.report.Status.TheVariants as statuses

-- A shelf before a rehearsal and behind it: itself, what it tells, its counts of faults; whether a file is open behind it, and the count of
-- faults as the last opening began.
pub record ShelfUse (S : Type 0) : Type 0 where
  pub old : S
  pub new : S
  pub told_before : Option Content
  pub told_now : Option Content
  pub faults_before : ℕ
  pub faults_now : ℕ
  pub is_open : Bool
  pub mark : ℕ

-- by what a shelf's type says of it
abbrev pub shelf_use : {S : Type 0} → (S → Option Content) → (S → Bool) → (S → ℕ) → (S → ℕ) → S → S → ShelfUse S
shelf_use told is_open faults mark old new = record {
  old = old;
  new = new;
  told_before = told old;
  told_now = told new;
  faults_before = faults old;
  faults_now = faults new;
  is_open = is_open new;
  mark = mark new;
}

-- An output before a rehearsal and behind it: itself, the bytes that it holds, and its counts of faults.
pub record SinkUse (O : Type 0) : Type 0 where
  pub old : O
  pub new : O
  pub held_before : Option (List ℕ)
  pub held_now : Option (List ℕ)
  pub faults_before : ℕ
  pub faults_now : ℕ

-- by what an output's type says of it
abbrev pub sink_use : {O : Type 0} → (O → Option (List ℕ)) → (O → ℕ) → O → O → SinkUse O
sink_use held faults old new = record {
  old = old;
  new = new;
  held_before = held old;
  held_now = held new;
  faults_before = faults old;
  faults_now = faults new;
}

-- what was seen of a shelf and of an output
abbrev pub seen_of : {S O : Type 0} → ShelfUse S → SinkUse O → Seen
seen_of shelf out = record {
  is_open = shelf.is_open;
  faults_before = shelf.faults_before;
  faults_now = shelf.faults_now;
  held_before = out.held_before;
  held_now = out.held_now;
}

-- neither failed
abbrev pub NoneFailed : {S O : Type 0} → ShelfUse S → SinkUse O → Type 0
NoneFailed shelf out = (shelf.faults_now ≡ shelf.faults_before) × (out.faults_now ≡ out.faults_before)

-- the report of an end before anything was read
abbrev pub early_end : Status → Report
early_end status = record { status = status; file = 0; line = 0; reason = 0; frames = 0 }

-- Words that aren't accepted: they are refused, or memory ran out first; nothing is read and nothing is written.
pub record RefusesWords {S O : Type 0} (report : Report) (shelf : ShelfUse S) (out : SinkUse O) : Type 0 where
  pub ends : (report ≡ early_end statuses.WordsRefused) ⊎ (report ≡ early_end statuses.NoMemory)
  pub unread : shelf.new ≡ shelf.old
  pub unwritten : out.new ≡ out.old

-- the whole text of a file
abbrev pub text_of : List ℕ → Text
text_of bytes = record { bytes = bytes; closed = true }

-- Tables of these files load, the text ends well, and its map gives the reads of all entries.
pub record CanBeRun (files : List (List ℕ)) (text : Text) : Type 0 where
  pub loaded : tables_fault files ≡ None
  pub ended : (reading text).ending ≡ Ended
  pub given : GivesReads files (reading text)

-- What accepted words come to, beside a crowd where they ask for one.
pub record CarriesOut {S O : Type 0} (report : Report) (asked : Asked) (crowd : Option (List Simulated)) (shelf : ShelfUse S) (out : SinkUse O) : Type 0 where
  -- The FILEs in order and then the scenario's file, unless the scenario is generated, are asked for, as far as it came, and nothing else.
  pub opening : WhereTold shelf.told_before shelf.told_now (λ before after. (count : ℕ) × AsksFor (words_to_open asked) count before after)
  -- Nothing is asked for after a fault, so that the count as the last opening began is the one at the start. Where memory ran out before the
  -- first opening, or a scenario without FILEs is generated, nothing was.
  pub mark : (shelf.mark ≡ shelf.faults_before) ⊎ ((shelf.new ≡ shelf.old) × MayAskNothing report.status asked)
  pub opened : report.status ≢ statuses.ReadFailed → IsTrue shelf.is_open ⊎ ((shelf.new ≡ shelf.old) × MayAskNothing report.status asked)
  -- What the report says of the FILEs, of the text that was handed out and run, and of the bytes of the output, where both objects tell.
  pub outcome : WhereTold shelf.told_before shelf.told_now (Rehearses report asked crowd (seen_of shelf out))
  -- Files that can be taken and run with a scenario's file are run to its end, or memory ran out, where neither object failed.
  pub complete : (files : List (List ℕ)) (bytes : List ℕ) → drill_in asked.scenario ≡ None → CanBeRun files (text_of bytes) → NoneFailed shelf out
      → WhereTold shelf.told_before shelf.told_now (λ before _. AreTaken before.files asked.files files → file_named before.files asked.scenario ≡ Some bytes
      → WhereTold out.held_before out.held_now (Completes report files crowd (text_of bytes)))
  -- So are those that can be run with a generated scenario, which always ends well.
  pub complete_drill : (files : List (List ℕ)) (k : ℕ) → drill_in asked.scenario ≡ Some k → tables_fault files ≡ None → GivesReads files (reading (drill_of k)) → NoneFailed shelf out
      → WhereTold shelf.told_before shelf.told_now (λ before _. AreTaken before.files asked.files files
      → WhereTold out.held_before out.held_now (SumsUp report files crowd k))

-- What a rehearsal of these words promises, with these subjects at hand, by its report and by what became of the shelf and of both outputs.
pub record Promise {S O E : Type 0} (report : Report) (words : List (List ℕ)) (subjects : List Simulated) (shelf : ShelfUse S) (out : SinkUse O) (err : SinkUse E) : Type 0 where
  -- The words are refused only where they aren't accepted.
  pub only : report.status ≡ statuses.WordsRefused → accepted_words words ≡ None
  -- Words that aren't accepted are refused, and nothing is read or written; memory may run out first.
  pub refused : accepted_words words ≡ None → RefusesWords report shelf out
  -- Accepted words are carried out, beside the subjects where they ask for them.
  pub accepted : (asked : Asked) → accepted_words words ≡ Some asked → CarriesOut report asked (crowd_for asked.subjects subjects) shelf out
  -- Nothing is written where a FILE is refused, or where memory ran out, and then no frame was run.
  pub file_refused : report.status ≡ statuses.FileRefused → out.new ≡ out.old
  pub no_memory : report.status ≡ statuses.NoMemory → (out.new ≡ out.old) × (report.frames ≡ 0)
  -- No fault is invented, and none is kept back.
  pub causes : HasCauses report.status shelf.told_now shelf.faults_before shelf.faults_now out.held_now out.faults_before out.faults_now
  -- The error output gets the line of the report, or a part of it where it failed.
  pub told : WhereTold err.held_before err.held_now (Tells err.faults_before err.faults_now (error_line report))
