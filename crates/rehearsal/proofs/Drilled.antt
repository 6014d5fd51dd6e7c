-- The run of a generated scenario comes to its summary.
use Rattle.std.proofs.Common.{◌≡◌, ℕ, Bool, true, false, List, [], ◌∷◌, ◌++◌, length, refl, sym, ◌∙◌, ap, subst, arith, inl, inr, Option, Some, None}
use Rattle.std.specs.Prelude.{◌==◌, ◌&&◌}
use Rattle.fsw_outside.specs.Told.{WhereTold}
use Rattle.fsw_outside.specs.Causes.{HasRisen}
use Rattle.fsw_outside.specs.Files.{Content}
use Rattle.fsw_outside.specs.Written.{AppendsPart}
use Rattle.fsw_outside.specs.Tally.{tally_of}
use Rattle.fsw_outside.specs.TellingLaws.{told_map, same_content}
use Rattle.packet_log.specs.Summaries.{summary_text}
use Rattle.scenario.specs.Drill.{drill_text}
use Rattle.subjects.specs.Plans.{Simulated}
use Rattle.scenario.specs.Texts.{Text, Given, Head, Whole, Open, AreGood, reading}
use Rattle.scenario.specs.TextLaws.{items_are_good}
use Rattle.scenario.specs.DrillLaws.{drills_end_well, drills_are_long}
use Rattle.frame_exec.specs.Tables.{tables_fault}
use Rattle.rehearsal.specs.declared.report.Status.{Status}
use Rattle.rehearsal.specs.declared.report.Status.TheVariants as statuses
use Rattle.rehearsal.specs.declared.report.Report.{Report}
use Rattle.rehearsal.specs.Words.{Asked, drill_in}
use Rattle.rehearsal.specs.Files.{AreTaken}
use Rattle.rehearsal.specs.Outcome.{frames_of, GivesReads, IsTextOf, IsWhole, ReadsAheadBy, ReadsAhead, LeavesFrames, OutcomeOf, Outcome, drill_of, summary_in, DrillOutcomeOf, DrillOutcome, Seen, RunsDrill, RunsBy, Rehearses, SumsUp}
use Rattle.rehearsal.specs.Run.{failed_at, Sums}
use Rattle.rehearsal.proofs.Endings.{not_open_at_bad}
use Rattle.rehearsal.proofs.Ahead.{frames_behind}
use Rattle.rehearsal.proofs.Beginnings.{handed_out}
use Rattle.rehearsal.proofs.Completeness.{file_reads, refused_of_all, ended_not_bad, same_named, ends_complete}

-- what never fails never has a fault that rose
pub none_risen : {A : Type 0} (told : A) → HasRisen (Some told) 0 0 → ⊥
none_risen told risen = let rose = risen.strictly refl in omega (arith, rose)

-- what was said of the part of the text that was handed out holds of the whole text
pub of_whole_drill : (files : List (List ℕ)) (crowd : Option (List Simulated)) (k : ℕ) (status : Status) (report : Report) (start after : Content) (whole : Text) (log : List ℕ) → start.rest ≡ drill_text k → IsTextOf 0 0 start after whole
    → (status ≡ statuses.ReadFailed → ⊥) → (status ≡ statuses.WriteFailed → ⊥) → OutcomeOf status report files crowd (reading whole) [] log → OutcomeOf status report files crowd (reading (drill_of k)) [] log
of_whole_drill files crowd k statuses.Done report start after whole log all of read write outcome =
    let is = handed_out true 0 0 (Some (drill_text k)) start after whole refl (ap (λ (bytes : List ℕ). Some bytes) (sym all)) of in
    let not_open : (reading whole).ending ≡ Open → ⊥ = λ open_now. cc (outcome.2) in
    rw (file_reads 0 0 (drill_text k) after.rest whole is not_open) outcome
of_whole_drill files crowd k statuses.WordsRefused report start after whole log all of read write outcome = absurd outcome
of_whole_drill files crowd k statuses.FileRefused report start after whole log all of read write outcome =
    let is = handed_out true 0 0 (Some (drill_text k)) start after whole refl (ap (λ (bytes : List ℕ). Some bytes) (sym all)) of in
    (record { is = refused_of_all files 0 0 (drill_text k) after.rest whole report.file report.line is outcome.0.is; reason = outcome.0.reason; frames = outcome.0.frames }, outcome.1)
of_whole_drill files crowd k statuses.ScenarioRefused report start after whole log all of read write outcome =
    let is = handed_out true 0 0 (Some (drill_text k)) start after whole refl (ap (λ (bytes : List ℕ). Some bytes) (sym all)) of in
    let not_open = not_open_at_bad (reading whole).ending report.line report.reason (sym outcome.2) in
    rw (file_reads 0 0 (drill_text k) after.rest whole is not_open) outcome
of_whole_drill files crowd k statuses.ReadFailed report start after whole log all of read write outcome = absurd (read refl)
of_whole_drill files crowd k statuses.WriteFailed report start after whole log all of read write outcome = absurd (write refl)
of_whole_drill files crowd k statuses.NoMemory report start after whole log all of read write outcome = outcome

-- what was told of a run into a summary, which holds this log now
pub ran : (files : List (List ℕ)) (crowd : Option (List Simulated)) (k : ℕ) (report : Report) (start after : Content) (held log : List ℕ) → start.rest ≡ drill_text k → held ≡ []
    → WhereTold (Some start) (Some after) (λ from to. (whole : Text) × IsTextOf 0 0 from to whole × ReadsAhead report whole × WhereTold (Some held) (Some log) (Outcome report files crowd whole))
    → (report.status ≡ statuses.ReadFailed → ⊥) → (report.status ≡ statuses.WriteFailed → ⊥) → Outcome report files crowd (drill_of k) [] log
ran files crowd k report start after held log all none told read write = by_told (told after refl)
  where
    by_log : (from : Content) (whole : Text) → ◌≡◌ {A = Option Content} (Some start) (Some from) → IsTextOf 0 0 from after whole
        → (old : List ℕ) × (◌≡◌ {A = Option (List ℕ)} (Some held) (Some old)) × Outcome report files crowd whole old log → Outcome report files crowd (drill_of k) [] log
    by_log from whole is of (old, same, outcome) =
        let rest : from.rest ≡ drill_text k = ap (λ (c : Content). c.rest) (sym (same_content start from is)) ∙ all in
        let empty : old ≡ [] = sym (same_content held old same) ∙ none in
        of_whole_drill files crowd k report.status report from after whole log rest of read write (subst (λ (o : List ℕ). Outcome report files crowd whole o log) empty outcome)

    by_told : (from : Content) × (◌≡◌ {A = Option Content} (Some start) (Some from)) × ((whole : Text) × IsTextOf 0 0 from after whole × ReadsAhead report whole × WhereTold (Some held) (Some log) (Outcome report files crowd whole))
        → Outcome report files crowd (drill_of k) [] log
    by_told (from, is, text) = by_log from text.0 is text.1 (text.3 log refl)

and_true : (t : Bool) → (t && true) ≡ t
and_true true = refl
and_true false = refl

-- where memory ran out the text was read no further than a piece past the header
pub leaves_frames : (files : List (List ℕ)) (crowd : Option (List Simulated)) (report : Report) (start after : Content) (held log : Option (List ℕ)) → report.status ≡ statuses.NoMemory
    → WhereTold (Some start) (Some after) (λ from to. (whole : Text) × IsTextOf 0 0 from to whole × ReadsAhead report whole × WhereTold held log (Outcome report files crowd whole))
    → LeavesFrames start.rest after.rest
leaves_frames files crowd report start after held log out told = by_told (told after refl)
  where
    by_told : (from : Content) × (◌≡◌ {A = Option Content} (Some start) (Some from)) × ((whole : Text) × IsTextOf 0 0 from after whole × ReadsAhead report whole × WhereTold held log (Outcome report files crowd whole))
        → LeavesFrames start.rest after.rest
    by_told (from, is, text) = record {
      text = text.0;
      parts = ap (λ (c : Content). c.rest) (same_content start from is) ∙ text.1.parts;
      closed = text.1.closed ∙ and_true (length after.rest == 0);
      read = subst (λ (s : Status). ReadsAheadBy s report text.0) out text.2;
    }

-- a generated scenario has 2,000 frames
drill_frames : (k : ℕ) → length (frames_of (reading (drill_of k)).items) ≡ 2000
unfolding frames_of
drill_frames k = by_first (reading (drill_of k)).items (items_are_good (drill_of k)) (drills_are_long k)
  where
    by_first : (items : List Given) → AreGood items → length items ≡ 2001 → length (frames_of items) ≡ 2000
    by_first [] good long = absurd (omega (arith, long))
    by_first (Head epoch regions ∷ frames) good long = let all = frames_behind regions frames good.3 in omega (arith, all, long)
    by_first (Whole frame ∷ more) good long = absurd good

-- all of them were run
ran_all : (frames k : ℕ) (files : List (List ℕ)) (crowd : Option (List Simulated)) (log : List ℕ) → IsWhole frames files crowd (reading (drill_of k)) [] log → frames ≡ 2000
ran_all frames k files crowd log whole = whole.number ∙ drill_frames k

-- the four lines of a log that was written whole are the summary
summary_is : (frames k : ℕ) (files : List (List ℕ)) (crowd : Option (List Simulated)) (log : List ℕ) → IsWhole frames files crowd (reading (drill_of k)) [] log → summary_text frames (tally_of log) ≡ summary_in files crowd (reading (drill_of k)).items
unfolding summary_in
summary_is frames k files crowd log whole = ap (λ (n : ℕ). summary_text n (tally_of log)) (ran_all frames k files crowd log whole) ∙ ap (λ (bytes : List ℕ). summary_text 2000 (tally_of bytes)) whole.written

-- the output failed in it
summary_cut : (files : List (List ℕ)) (crowd : Option (List Simulated)) (k : ℕ) (result report : Report) (log old new : List ℕ) → result ≡ failed_at report.frames → GivesReads files (reading (drill_of k)) → IsWhole report.frames files crowd (reading (drill_of k)) [] log
    → AppendsPart (summary_text report.frames (tally_of log)) old new → DrillOutcome result files crowd k old new
summary_cut files crowd k result report log old new is given whole part = rw is (
  record { file = refl; line = refl; reason = refl },
  given,
  record { number = ran_all report.frames k files crowd log whole; written = subst (λ (text : List ℕ). AppendsPart text old new) (summary_is report.frames k files crowd log whole) part },
)

-- the same report, by its status
same_outcome : (files : List (List ℕ)) (crowd : Option (List Simulated)) (k : ℕ) (status : Status) (result report : Report) (old new : List ℕ) → report.status ≡ status → result ≡ report → DrillOutcomeOf status report files crowd (reading (drill_of k)) old new → DrillOutcome result files crowd k old new
same_outcome files crowd k status result report old new at is outcome =
    subst (λ (r : Report). DrillOutcome r files crowd k old new) (sym is) (subst (λ (s : Status). DrillOutcomeOf s report files crowd (reading (drill_of k)) old new) (sym at) outcome)

-- the text ended well
pub done_summed : (files : List (List ℕ)) (crowd : Option (List Simulated)) (k : ℕ) (result report : Report) (log old new : List ℕ) → report.status ≡ statuses.Done → Outcome report files crowd (drill_of k) [] log → Sums result report (summary_text report.frames (tally_of log)) old new
    → DrillOutcome result files crowd k old new
done_summed files crowd k result report log old new at outcome sums =
    let o = subst (λ (s : Status). OutcomeOf s report files crowd (reading (drill_of k)) [] log) at outcome in
    elim sums [
      | inl whole ↦
          same_outcome files crowd k statuses.Done result report old new at whole.0
          (o.0, o.1, record { number = ran_all report.frames k files crowd log o.3; written = whole.1 ∙ ap (λ (text : List ℕ). old ++ text) (summary_is report.frames k files crowd log o.3) })
      | inr cut ↦ summary_cut files crowd k result report log old new cut.0 o.1 o.3 cut.1
    ]

-- it is never bad or unended
pub never_refused : (files : List (List ℕ)) (crowd : Option (List Simulated)) (k : ℕ) (report : Report) (log : List ℕ) → Outcome report files crowd (drill_of k) [] log → report.status ≡ statuses.ScenarioRefused → ⊥
never_refused files crowd k report log outcome at =
    let o = subst (λ (s : Status). OutcomeOf s report files crowd (reading (drill_of k)) [] log) at outcome in
    ended_not_bad (reading (drill_of k)).ending report.line report.reason (drills_end_well k) o.2

-- a read is refused, and nothing is written
pub unread_summed : (files : List (List ℕ)) (crowd : Option (List Simulated)) (k : ℕ) (report : Report) (log held : List ℕ) → report.status ≡ statuses.FileRefused → Outcome report files crowd (drill_of k) [] log → DrillOutcome report files crowd k held held
unread_summed files crowd k report log held at outcome =
    let o = subst (λ (s : Status). OutcomeOf s report files crowd (reading (drill_of k)) [] log) at outcome in
    same_outcome files crowd k statuses.FileRefused report report held held at refl (o.0, refl)

-- memory ran out, and nothing is written
pub memory_summed : (files : List (List ℕ)) (crowd : Option (List Simulated)) (k : ℕ) (report : Report) (log held : List ℕ) → report.status ≡ statuses.NoMemory → Outcome report files crowd (drill_of k) [] log → DrillOutcome report files crowd k held held
memory_summed files crowd k report log held at outcome =
    let o = subst (λ (s : Status). OutcomeOf s report files crowd (reading (drill_of k)) [] log) at outcome in
    same_outcome files crowd k statuses.NoMemory report report held held at refl (o.0, o.1, refl)

-- what each status comes to where the output didn't fail
sums_by : (files : List (List ℕ)) (crowd : Option (List Simulated)) (k : ℕ) (status : Status) (report : Report) (old new : List ℕ) → report.status ≡ status → GivesReads files (reading (drill_of k)) → (status ≡ statuses.WriteFailed → ⊥)
    → DrillOutcomeOf status report files crowd (reading (drill_of k)) old new → SumsUp report files crowd k old new
sums_by files crowd k statuses.Done report old new at given write outcome = inl (at, outcome.2)
sums_by files crowd k statuses.WordsRefused report old new at given write outcome = absurd outcome
sums_by files crowd k statuses.FileRefused report old new at given write outcome = let is = outcome.0.is in let wrong : ⊥ = cc in absurd wrong
sums_by files crowd k statuses.ScenarioRefused report old new at given write outcome = absurd outcome
sums_by files crowd k statuses.ReadFailed report old new at given write outcome = absurd outcome
sums_by files crowd k statuses.WriteFailed report old new at given write outcome = absurd (write refl)
sums_by files crowd k statuses.NoMemory report old new at given write outcome = inr (at, outcome.1, outcome.2)

-- A rehearsal without faults of files that can be taken and of a generated scenario is complete.
pub rehearses_sums : (report : Report) (asked : Asked) (crowd : Option (List Simulated)) (seen : Seen) (start after : Content) (files : List (List ℕ)) (k : ℕ) → Rehearses report asked crowd seen start after → drill_in asked.scenario ≡ Some k → AreTaken start.files asked.files files
    → tables_fault files ≡ None → GivesReads files (reading (drill_of k)) → (report.status ≡ statuses.ReadFailed → ⊥) → ((new : List ℕ) → seen.held_now ≡ Some new → report.status ≡ statuses.WriteFailed → ⊥)
    → WhereTold seen.held_before seen.held_now (SumsUp report files crowd k)
rehearses_sums report asked crowd seen start after files k (inl ends) drilled taken loaded given read write =
    let out = ends_complete report.status report start.files asked.files files ends.count seen.is_open after.rest refl ends.ends taken read in
    told_map ends.unwritten (λ old new unwritten. inr (out.0, out.1, unwritten))
rehearses_sums report asked crowd seen start after files k (inr (inl ends)) drilled taken loaded given read write =
    let same : ends.files ≡ files = same_named start.files asked.files ends.files files ends.taken.named taken.named in
    let none : tables_fault ends.files ≡ None = ap tables_fault same ∙ loaded in
    let is = ends.refuses.is in
    let wrong : ⊥ = cc in
    absurd wrong
rehearses_sums report asked crowd seen start after files k (inr (inr runs)) drilled taken loaded given read write = λ new tells.
    let drill : RunsDrill k report asked crowd seen start after = subst (λ (d : Option ℕ). RunsBy d report asked crowd seen start after) drilled runs in
    let inner = drill.outcome new tells in
    let same : drill.files ≡ files = same_named start.files asked.files drill.files files drill.taken.named taken.named in (
      inner.0,
      inner.1,
      sums_by files crowd k report.status report inner.0 new refl given (write new tells) (subst (λ (fs : List (List ℕ)). DrillOutcome report fs crowd k inner.0 new) same inner.2),
    )
