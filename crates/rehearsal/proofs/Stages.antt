-- How a rehearsal's stages come together.
use Rattle.std.proofs.Common.{◌≡◌, ℕ, ◌+◌, ◌<◌, List, [], ◌∷◌, ◌++◌, length, refl, sym, ◌∙◌, ap, subst, append-nil, length-append, inl, inr, arith, Option, Some}
use Rattle.std.specs.Prelude.{None, ◌⊎◌}
use Rattle.fsw_outside.specs.Told.{WhereTold}
use Rattle.fsw_outside.specs.Files.{Content, file_named}
use Rattle.scenario.specs.Texts.{Text}
use Rattle.subjects.specs.Plans.{Simulated}
use Rattle.rehearsal.specs.declared.report.Report.{Report}
use Rattle.rehearsal.specs.declared.report.Status.{Status}
use Rattle.rehearsal.specs.declared.report.Status.TheVariants as statuses
use Rattle.frame_exec.specs.Tables.{tables_fault}
use Rattle.active_tables.specs.declared.loading.TablesFault.{TablesFault}
use Rattle.rehearsal.specs.Words.{Asked, drill_in, file_unless, words_to_open}
use Rattle.rehearsal.specs.Files.{AsksFor, OpensOnce, AreTaken, EndsAtFile}
use Rattle.rehearsal.specs.Outcome.{IsText, ReadsAhead, Outcome, DrillOutcome, Seen, WritesNothing, RunsBy, Rehearses, MayAskNothing}
use Rattle.rehearsal.proofs.Gathered.{asks_front, asks_all}
use Rattle.rehearsal.proofs.Beginnings.{text_by}

-- behind the FILEs the scenario's file is to be opened, unless the scenario is generated
abbrev behind_files : Asked → List (List ℕ)
behind_files asked = file_unless (drill_in asked.scenario) asked.scenario

pub named_words : (asked : Asked) → drill_in asked.scenario ≡ None → words_to_open asked ≡ asked.files ++ asked.scenario ∷ []
unfolding words_to_open
named_words asked named = ap (λ (d : Option ℕ). asked.files ++ file_unless d asked.scenario) named

pub drilled_words : (asked : Asked) (k : ℕ) → drill_in asked.scenario ≡ Some k → words_to_open asked ≡ asked.files
unfolding words_to_open
drilled_words asked k drilled = ap (λ (d : Option ℕ). asked.files ++ file_unless d asked.scenario) drilled ∙ append-nil asked.files

-- some of the FILEs were asked for
pub opens_front : (asked : Asked) (names : List (List ℕ)) (count : ℕ) (before after : Content) → names ≡ asked.files → AsksFor names count before after → (count : ℕ) × AsksFor (words_to_open asked) count before after
unfolding words_to_open
opens_front asked names count before after is asks = (count, asks_front asked.files (behind_files asked) count before after (rw (← is) asks))

-- all FILEs and the scenario were asked for
pub opens_all : (asked : Asked) (names : List (List ℕ)) (name : List ℕ) (before middle after : Content) → drill_in asked.scenario ≡ None → names ≡ asked.files → name ≡ asked.scenario → AsksFor names (length names) before middle → OpensOnce name middle after
    → AsksFor (words_to_open asked) (length asked.files + 1) before after
opens_all asked names name before middle after plain is named asks opens =
    subst (λ (words : List (List ℕ)). AsksFor words (length asked.files + 1) before after) (sym (named_words asked plain)) (asks_all asked.files asked.scenario before middle after (rw (← is) asks) (rw (← named) opens))

-- the rehearsal ended at a FILE
pub ends_before : (asked : Asked) (crowd : Option (List Simulated)) (names : List (List ℕ)) (count : ℕ) (report : Report) (seen : Seen) (before after : Content) → names ≡ asked.files → AsksFor names count before after
    → EndsAtFile report before.files names count seen.is_open after.rest → WritesNothing seen → Rehearses report asked crowd seen before after
unfolding words_to_open
ends_before asked crowd names count report seen before after is asks ends unwritten =
    inl (record { count = count; asked = asks_front asked.files (behind_files asked) count before after (rw (← is) asks); ends = rw (← is) ends; unwritten = unwritten })

-- the report of a table that wasn't loaded
abbrev pub with_reason : TablesFault → ℕ → Report
with_reason fault reason = record { status = statuses.FileRefused; file = fault.file; line = fault.entry; reason = reason; frames = 0 }

-- all FILEs were taken, and a table wasn't loaded
pub ends_at_tables : (asked : Asked) (crowd : Option (List Simulated)) (names : List (List ℕ)) (report : Report) (fault : TablesFault) (files : List (List ℕ)) (seen : Seen) (before after : Content) → names ≡ asked.files → 0 < length names
    → report ≡ with_reason fault (fault.reason + 10) → tables_fault files ≡ Some fault
    → AsksFor names (length names) before after → AreTaken before.files names files → (0 < length names → after.rest ≡ []) → WritesNothing seen → Rehearses report asked crowd seen before after
unfolding words_to_open
ends_at_tables asked crowd names report fault files seen before after is some refused fails asks taken read unwritten = inr (inl (record {
  some = rw (← is) some;
  asked = asks_front asked.files (behind_files asked) (length asked.files) before after (rw (← is) asks);
  read = read some;
  files = files;
  taken = rw (← is) taken;
  refuses = rw refused (record { status = refl; fault = fault; is = fails; file = refl; line = refl; reason = refl; frames = refl });
  unwritten = unwritten;
}))

-- all FILEs were taken, and the scenario was asked for
pub reads_scenario : (asked : Asked) (crowd : Option (List Simulated)) (names : List (List ℕ)) (report : Report) (name : List ℕ) (files : List (List ℕ)) (seen : Seen) (between : ℕ) (before middle after : Content) → drill_in asked.scenario ≡ None → names ≡ asked.files → between ≡ seen.faults_before
    → name ≡ asked.scenario → AsksFor names (length names) before middle → AreTaken before.files names files → tables_fault files ≡ None → OpensOnce name middle after
    → (text : Text) × IsText seen.is_open between seen.faults_now (file_named middle.files name) after.rest text × ReadsAhead report text × WhereTold seen.held_before seen.held_now (Outcome report files crowd text)
    → Rehearses report asked crowd seen before after
reads_scenario asked crowd names report name files seen between before middle after plain is same named asks taken loaded opens reads = inr (inr (subst (λ (d : Option ℕ). RunsBy d report asked crowd seen before after) (sym plain) (record {
  asked = opens_all asked names name before middle after plain is named asks opens;
  files = files;
  taken = rw (← is) taken;
  loaded = loaded;
  text = reads.0;
  is_text = text_by seen.is_open seen.faults_before between seen.faults_now before.files middle.files asked.scenario name after.rest reads.0 same asks.files named reads.1;
  ahead = reads.2;
  outcome = reads.3;
})))

-- all FILEs were taken, and the generated scenario was run
pub runs_drill : (asked : Asked) (crowd : Option (List Simulated)) (names : List (List ℕ)) (report : Report) (k : ℕ) (files : List (List ℕ)) (seen : Seen) (before after : Content) → drill_in asked.scenario ≡ Some k → names ≡ asked.files
    → AsksFor names (length names) before after → AreTaken before.files names files → (0 < length names → after.rest ≡ []) → tables_fault files ≡ None → (report.status ≡ statuses.ReadFailed → ⊥) × (report.status ≡ statuses.ScenarioRefused → ⊥)
    → WhereTold seen.held_before seen.held_now (DrillOutcome report files crowd k) → Rehearses report asked crowd seen before after
unfolding words_to_open
runs_drill asked crowd names report k files seen before after drilled is asks taken read loaded well outcome = inr (inr (subst (λ (d : Option ℕ). RunsBy d report asked crowd seen before after) (sym drilled) (record {
  asked = asks_front asked.files (behind_files asked) (length asked.files) before after (rw (← is) asks);
  read = rw (← is) read;
  files = files;
  taken = rw (← is) taken;
  loaded = loaded;
  well = well;
  outcome = outcome;
})))

-- what accepted words ask for is one thing
pub asked_once : (words : Option Asked) (plan asked : Asked) → words ≡ Some plan → words ≡ Some asked → plan ≡ asked
asked_once words plan asked by is = same_some plan asked (sym by ∙ is)
  where
    same_some : (a b : Asked) → Some a ≡ Some b → a ≡ b
    same_some a b same = cc

-- what holds of accepted words holds of the words asked for
pub asks_nothing : {A : Type 0} (P : Type 0) (now old : A) (status : Status) (plan asked : Asked) → plan ≡ asked → P ⊎ ((now ≡ old) × (words_to_open plan ≡ [])) → P ⊎ ((now ≡ old) × MayAskNothing status asked)
asks_nothing P now old status plan asked same (inl holds) = inl holds
asks_nothing P now old status plan asked same (inr none) = inr (none.0, inr (subst (λ (a : Asked). words_to_open a ≡ []) same none.1))

-- a generated scenario opens nothing where there are no FILEs
pub asked_or_none : {A : Type 0} (P : Type 0) (now old : A) (asked : Asked) (k : ℕ) (names : List (List ℕ)) → drill_in asked.scenario ≡ Some k → names ≡ asked.files → (0 < length names → P) → (length names ≡ 0 → now ≡ old)
    → P ⊎ ((now ≡ old) × (words_to_open asked ≡ []))
asked_or_none P now old asked k [] drilled is some none = inr (none refl, drilled_words asked k drilled ∙ sym is)
asked_or_none P now old asked k (name ∷ names) drilled is some none = inl (some (omega arith))

-- a named scenario's file was opened
pub is_opened : {A : Type 0} (P : Type 0) (now old : A) (asked : Asked) → drill_in asked.scenario ≡ None → P ⊎ ((now ≡ old) × (words_to_open asked ≡ [])) → P
is_opened P now old asked named (inl holds) = holds
is_opened P now old asked named (inr none) =
    let size = ap length (sym (named_words asked named) ∙ none.1) in
    absurd (omega (arith, size, length-append asked.files (asked.scenario ∷ [])))
