-- The first line of the headline's list that holds decides how a rehearsal ends.
use Rattle.std.proofs.Common.{◌≡◌, ℕ, ◌+◌, ◌<◌, ◌≤◌, Bool, true, false, List, [], ◌∷◌, ◌++◌, length, map, take, drop, refl, sym, ◌∙◌, ap, subst, arith, inl, inr, zero, suc, length-append, Option, Some, None}
use Rattle.std.specs.Prelude.{◌⊎◌, IsSome}
use Rattle.std.proofs.lemmas.List.{take-take, take-append-drop, append_cancel_right}
use Rattle.fsw_outside.specs.Files.{Stored, Content, file_named}
use Rattle.scenario.specs.declared.item.Item.TheVariants as answers
use Rattle.scenario.specs.Texts.{Text, Reading, Ended, Open}
use Rattle.subjects.specs.Plans.{Simulated}
use Rattle.frame_exec.specs.Tables.{tables_fault}
use Rattle.active_tables.specs.declared.loading.TablesFault.{TablesFault}
use Rattle.rehearsal.specs.declared.report.Report.{Report}
use Rattle.rehearsal.specs.declared.report.Status.{Status}
use Rattle.rehearsal.specs.declared.report.Status.TheVariants as statuses
use Rattle.rehearsal.specs.Words.{Asked, drill_in}
use Rattle.rehearsal.specs.Files.{Refusal, refused_or, refusal_of, refused_from, first_refusal, AreTaken, EndsAtFileBy, RefusesFile, FailsAtFile}
use Rattle.rehearsal.specs.Lines.{Rehearsal, Rehearsed, HasMemory, FailsOn, Refuses, ReadsText, IsDrill}
use Rattle.rehearsal.specs.Outcome.{frames_of, IsText, IsCut, refused_read, GivesReads, IsRefusedAt, OutcomeOf, Outcome, DrillOutcomeOf, DrillOutcome, Seen, RunsDrill, RunsBy, Rehearses}
use Rattle.rehearsal.proofs.Outcomes.{refused_none, frames_in_none}
use Rattle.rehearsal.proofs.Endings.{not_open_at_bad}
use Rattle.rehearsal.proofs.Completeness.{ended_not_bad, same_bytes, same_named, front_named, none_of_front, refused_taken}

-- a rehearsal that ended at a FILE, unless memory ran out: it is refused, or the shelf failed on it
ends_by : (status : Status) (report : Report) (stored : List Stored) (names : List (List ℕ)) (count : ℕ) (is_open : Bool) (rest : List ℕ) → report.status ≡ status → (report.status ≡ statuses.NoMemory → ⊥)
    → EndsAtFileBy status report stored names count is_open rest
    → ((report.status ≡ statuses.FileRefused) × RefusesFile report stored names rest) ⊎ ((report.status ≡ statuses.ReadFailed) × FailsAtFile report stored names is_open rest × (report.file ≡ count))
ends_by statuses.Done report stored names count is_open rest at some ends = absurd ends
ends_by statuses.WordsRefused report stored names count is_open rest at some ends = absurd ends
ends_by statuses.FileRefused report stored names count is_open rest at some ends = inl (at, ends.0)
ends_by statuses.ScenarioRefused report stored names count is_open rest at some ends = absurd ends
ends_by statuses.ReadFailed report stored names count is_open rest at some ends = inr (at, ends.0, ends.1)
ends_by statuses.WriteFailed report stored names count is_open rest at some ends = absurd ends
ends_by statuses.NoMemory report stored names count is_open rest at some ends = absurd (some at)

-- the shelf failed
failed_at : (status : Status) (report : Report) (before now : ℕ) → report.status ≡ status → ((report.status ≡ statuses.ReadFailed → ⊥) → now ≡ before) → before < now → report.status ≡ statuses.ReadFailed
failed_at statuses.Done report before now at well rose = let kept = well (λ other. cc) in absurd (omega (arith, kept, rose))
failed_at statuses.WordsRefused report before now at well rose = let kept = well (λ other. cc) in absurd (omega (arith, kept, rose))
failed_at statuses.FileRefused report before now at well rose = let kept = well (λ other. cc) in absurd (omega (arith, kept, rose))
failed_at statuses.ScenarioRefused report before now at well rose = let kept = well (λ other. cc) in absurd (omega (arith, kept, rose))
failed_at statuses.ReadFailed report before now at well rose = at
failed_at statuses.WriteFailed report before now at well rose = let kept = well (λ other. cc) in absurd (omega (arith, kept, rose))
failed_at statuses.NoMemory report before now at well rose = let kept = well (λ other. cc) in absurd (omega (arith, kept, rose))

-- the output failed
pub written_at : (status : Status) (report : Report) (before now : ℕ) → report.status ≡ status → ((report.status ≡ statuses.WriteFailed → ⊥) → now ≡ before) → before < now → report.status ≡ statuses.WriteFailed
written_at statuses.Done report before now at well rose = let kept = well (λ other. cc) in absurd (omega (arith, kept, rose))
written_at statuses.WordsRefused report before now at well rose = let kept = well (λ other. cc) in absurd (omega (arith, kept, rose))
written_at statuses.FileRefused report before now at well rose = let kept = well (λ other. cc) in absurd (omega (arith, kept, rose))
written_at statuses.ScenarioRefused report before now at well rose = let kept = well (λ other. cc) in absurd (omega (arith, kept, rose))
written_at statuses.ReadFailed report before now at well rose = let kept = well (λ other. cc) in absurd (omega (arith, kept, rose))
written_at statuses.WriteFailed report before now at well rose = at
written_at statuses.NoMemory report before now at well rose = let kept = well (λ other. cc) in absurd (omega (arith, kept, rose))

-- where the count stayed the output didn't fail
pub not_written : (r : Rehearsal) → Rehearsed r → r.wrote_now ≡ r.wrote_before
    → r.report.status ≡ statuses.WriteFailed → ⊥
not_written r run kept failed =
    let rose = run.write_failed failed in
    omega (arith, rose, kept)

-- and where its count stayed the shelf didn't
not_failed : (r : Rehearsal) → Rehearsed r → r.seen.faults_now ≡ r.seen.faults_before
    → r.report.status ≡ statuses.ReadFailed → ⊥
not_failed r run well failed =
    let rose = run.read_failed failed in
    omega (arith, rose, well)

-- The shelf failed on a FILE.
pub unread : (r : Rehearsal) (file : ℕ) → Rehearsed r → FailsOn file r
    → (r.report.status ≡ statuses.ReadFailed) × (r.report.file ≡ file)
unread r file run fails =
    let failed = failed_at r.report.status r.report r.seen.faults_before r.seen.faults_now refl run.read_well fails.rose in
    (failed, by_stage failed run.rehearses)
  where
    by_stage : r.report.status ≡ statuses.ReadFailed → Rehearses r.report r.asked r.crowd r.seen r.before r.after → r.report.file ≡ file
    by_stage failed (inl ends) = elim (ends_by r.report.status r.report r.before.files r.asked.files ends.count r.seen.is_open r.after.rest refl (λ out. cc) ends.ends) [
      | inl refuses ↦ let wrong : ⊥ = cc (refuses.0) in absurd wrong
      | inr fails_at ↦ omega (arith, fails_at.2, fails.last, ends.asked.openings)
    ]
    by_stage failed (inr (inl ends)) = let wrong : ⊥ = cc (ends.refuses.status) in absurd wrong
    by_stage failed (inr (inr runs)) = by_source (drill_in r.asked.scenario) runs
      where
        by_source : (d : Option ℕ) → RunsBy d r.report r.asked r.crowd r.seen r.before r.after → r.report.file ≡ file
        by_source None reads = absurd (omega (arith, fails.last, fails.within, reads.asked.openings))
        by_source (Some k) drill = absurd (drill.well.0 failed)

-- a refusal stays where more files follow
or_kept : (n : ℕ) (reason : Option ℕ) (few more : Option Refusal) (refusal : Refusal) → (few ≡ Some refusal → more ≡ Some refusal) → refused_or n reason few ≡ Some refusal → refused_or n reason more ≡ Some refusal
or_kept n None few more refusal step is = step is
or_kept n (Some reason) few more refusal step is = is

refusal_kept : (n : ℕ) (files more : List (List ℕ)) (refusal : Refusal) → refused_from n files ≡ Some refusal → refused_from n (files ++ more) ≡ Some refusal
unfolding refused_from
refusal_kept n [] more refusal is = let wrong : ⊥ = cc in absurd wrong
refusal_kept n (file ∷ files) more refusal is =
    or_kept n (refusal_of file) (refused_from (n + 1) files) (refused_from (n + 1) (files ++ more)) refusal (refusal_kept (n + 1) files more refusal) is

same_refusal : (a b : Refusal) → ◌≡◌ {A = Option Refusal} (Some a) (Some b) → a ≡ b
same_refusal a b same = cc

-- the first refusal among a front of the names is the first among more of them
further : (stored : List Stored) (names few more : List (List ℕ)) (m n : ℕ) (a b : Refusal) → m ≤ n → map (file_named stored) (take m names) ≡ map Some few → map (file_named stored) (take n names) ≡ map Some more
    → first_refusal few ≡ Some a → first_refusal more ≡ Some b → a ≡ b
unfolding first_refusal
further stored names few more m n a b within front all first second =
    let shorter : map (file_named stored) (take m (take n names)) ≡ map Some few = ap (map (file_named stored)) (take-take m n names within) ∙ front in
    let is : few ≡ take m more = front_named stored m (take n names) more few all shorter in
    let kept : refused_from 1 (take m more ++ drop m more) ≡ Some a = refusal_kept 1 (take m more) (drop m more) a (ap (refused_from 1) (sym is) ∙ first) in
    same_refusal a b (sym kept ∙ ap (refused_from 1) (take-append-drop m more) ∙ second)

first_is_one : (stored : List Stored) (names xs ys : List (List ℕ)) (m n : ℕ) (a b : Refusal) → (m ≤ n) ⊎ (n ≤ m) → map (file_named stored) (take m names) ≡ map Some xs → map (file_named stored) (take n names) ≡ map Some ys
    → first_refusal xs ≡ Some a → first_refusal ys ≡ Some b → a ≡ b
first_is_one stored names xs ys m n a b (inl within) front all first second = further stored names xs ys m n a b within front all first second
first_is_one stored names xs ys m n a b (inr within) front all first second = sym (further stored names ys xs n m b a within all front second first)

in_order : (m n : ℕ) → (m ≤ n) ⊎ (n ≤ m)
in_order zero n = inl (omega arith)
in_order (suc m) zero = inr (omega arith)
in_order (suc m) (suc n) = elim (in_order m n) [ inl less ↦ inl (omega (arith, less)) | inr more ↦ inr (omega (arith, more)) ]

-- files that are all taken have no refusal among a front of them
none_refused : (r : Rehearsal) (refusal : Refusal) (files : List (List ℕ)) → AreTaken r.before.files r.asked.files files → Refuses refusal r → ⊥
unfolding first_refusal
none_refused r refusal files taken refuses =
    let front : refuses.files ≡ take refuses.count files = front_named r.before.files refuses.count r.asked.files files refuses.files taken.named refuses.named in
    let none : refused_from 1 refuses.files ≡ None = ap (refused_from 1) front ∙ none_of_front 1 files refuses.count taken.taken in
    let is = refuses.refused in
    cc

-- all FILEs were taken and their tables loaded, before the scenario was read or generated
taken_by : (report : Report) (asked : Asked) (crowd : Option (List Simulated)) (seen : Seen) (before after : Content) (d : Option ℕ) → RunsBy d report asked crowd seen before after → (files : List (List ℕ)) × AreTaken before.files asked.files files × (tables_fault files ≡ None)
taken_by report asked crowd seen before after None reads = (reads.files, reads.taken, reads.loaded)
taken_by report asked crowd seen before after (Some k) drill = (drill.files, drill.taken, drill.loaded)

-- A FILE is refused.
pub refused : (r : Rehearsal) (refusal : Refusal) → Rehearsed r
    → (r.report.status ≡ statuses.NoMemory → ⊥) → Refuses refusal r → (r.report.status ≡ statuses.FileRefused) × (r.report.file ≡ refusal.file) × (r.report.line ≡ 0) × (r.report.reason ≡ refusal.reason)
refused r refusal run some refuses = by_stage run.rehearses
  where
    by_stage : Rehearses r.report r.asked r.crowd r.seen r.before r.after → (r.report.status ≡ statuses.FileRefused) × (r.report.file ≡ refusal.file) × (r.report.line ≡ 0) × (r.report.reason ≡ refusal.reason)
    by_stage (inl ends) = elim (ends_by r.report.status r.report r.before.files r.asked.files ends.count r.seen.is_open r.after.rest refl some ends.ends) [
      | inl is ↦
          let one = first_is_one r.before.files r.asked.files (is.1.before ++ is.1.bytes ∷ []) refuses.files r.report.file refuses.count (record { file = r.report.file; reason = r.report.reason }) refusal (in_order r.report.file refuses.count) is.1.named refuses.named is.1.refused refuses.refused in
          (is.0, ap (λ (r : Refusal). r.file) one, is.1.line, ap (λ (r : Refusal). r.reason) one)
      | inr fails_at ↦ absurd (not_failed r run refuses.well fails_at.0)
    ]
    by_stage (inr (inl ends)) = absurd (none_refused r refusal ends.files ends.taken refuses)
    by_stage (inr (inr runs)) = let all = taken_by r.report r.asked r.crowd r.seen r.before r.after (drill_in r.asked.scenario) runs in absurd (none_refused r refusal all.0 all.1 refuses)

same_fault : (a b : TablesFault) → ◌≡◌ {A = Option TablesFault} (Some a) (Some b) → a ≡ b
same_fault a b same = cc

-- An entry of a table isn't in order.
pub faulty : (r : Rehearsal) (files : List (List ℕ)) (fault : TablesFault) → Rehearsed r
    → (r.report.status ≡ statuses.NoMemory → ⊥) → r.seen.faults_now ≡ r.seen.faults_before → AreTaken r.before.files r.asked.files files → tables_fault files ≡ Some fault
    → (r.report.status ≡ statuses.FileRefused) × (r.report.file ≡ fault.file) × (r.report.line ≡ fault.entry) × (r.report.reason ≡ fault.reason + 10)
faulty r files fault run some well taken is = by_stage run.rehearses
  where
    by_stage : Rehearses r.report r.asked r.crowd r.seen r.before r.after → (r.report.status ≡ statuses.FileRefused) × (r.report.file ≡ fault.file) × (r.report.line ≡ fault.entry) × (r.report.reason ≡ fault.reason + 10)
    by_stage (inl ends) = elim (ends_by r.report.status r.report r.before.files r.asked.files ends.count r.seen.is_open r.after.rest refl some ends.ends) [
      | inl refuses ↦ absurd (refused_taken r.report r.before.files r.asked.files files r.after.rest refuses.1 taken)
      | inr fails_at ↦ absurd (not_failed r run well fails_at.0)
    ]
    by_stage (inr (inl ends)) =
        let same = same_named r.before.files r.asked.files ends.files files ends.taken.named taken.named in
        let one = same_fault ends.refuses.fault fault (sym ends.refuses.is ∙ ap tables_fault same ∙ is) in
        (ends.refuses.status, ends.refuses.file ∙ ap (λ (f : TablesFault). f.file) one, ends.refuses.line ∙ ap (λ (f : TablesFault). f.entry) one, ends.refuses.reason ∙ ap (λ (f : TablesFault). f.reason + 10) one)
    by_stage (inr (inr runs)) =
        let all = taken_by r.report r.asked r.crowd r.seen r.before r.after (drill_in r.asked.scenario) runs in
        let same = same_named r.before.files r.asked.files all.0 files all.1.named taken.named in
        let none : tables_fault files ≡ None = ap tables_fault (sym same) ∙ all.2 in
        let wrong : ⊥ = cc in
        absurd wrong

-- the text that was handed out is one
text_same : (t u : Text) → t.bytes ≡ u.bytes → t.closed ≡ u.closed → t ≡ u
text_same t u bytes closed = λ i. record { bytes = bytes i; closed = closed i }

text_is_one : (is_open : Bool) (before now : ℕ) (file : Option (List ℕ)) (rest : List ℕ) (t u : Text) → IsText is_open before now file rest t → IsText is_open before now file rest u → t ≡ u
text_is_one true before now file rest t u first second = text_same t u (append_cancel_right t.bytes u.bytes rest (same_bytes _ _ (sym (first.front refl) ∙ second.front refl))) (first.closed ∙ sym second.closed)
text_is_one false before now file rest t u first second = text_same t u (first.nothing refl ∙ sym (second.nothing refl)) (first.closed ∙ sym second.closed)

-- what the report says of the text
reads_as : (r : Rehearsal) (files : List (List ℕ)) (text : Text) (new : List ℕ) → Rehearsed r
    → (r.report.status ≡ statuses.NoMemory → ⊥) → ReadsText files text r → r.seen.held_now ≡ Some new → (old : List ℕ) × Outcome r.report files r.crowd text old new
reads_as r files text new run some reads_text tells = by_stage run.rehearses
  where
    by_stage : Rehearses r.report r.asked r.crowd r.seen r.before r.after → (old : List ℕ) × Outcome r.report files r.crowd text old new
    by_stage (inl ends) = elim (ends_by r.report.status r.report r.before.files r.asked.files ends.count r.seen.is_open r.after.rest refl some ends.ends) [
      | inl refuses ↦ absurd (refused_taken r.report r.before.files r.asked.files files r.after.rest refuses.1 reads_text.taken)
      | inr fails_at ↦ absurd (omega (arith, fails_at.1.within, fails_at.2, ends.asked.openings, reads_text.last))
    ]
    by_stage (inr (inl ends)) =
        let same = same_named r.before.files r.asked.files ends.files files ends.taken.named reads_text.taken.named in
        let none : tables_fault ends.files ≡ None = ap tables_fault same ∙ reads_text.loaded in
        let is = ends.refuses.is in
        let wrong : ⊥ = cc in
        absurd wrong
    by_stage (inr (inr runs)) = by_source (drill_in r.asked.scenario) runs
      where
        by_source : (d : Option ℕ) → RunsBy d r.report r.asked r.crowd r.seen r.before r.after → (old : List ℕ) × Outcome r.report files r.crowd text old new
        by_source (Some k) drill = absurd (omega (arith, drill.asked.openings, reads_text.last))
        by_source None reads =
            let inner = reads.outcome new tells in
            let same : reads.files ≡ files = same_named r.before.files r.asked.files reads.files files reads.taken.named reads_text.taken.named in
            let one : reads.text ≡ text = text_is_one r.seen.is_open r.seen.faults_before r.seen.faults_now (file_named r.before.files r.asked.scenario) r.after.rest reads.text text reads.is_text reads_text.is_text in
            (inner.0, subst (λ (t : Text). Outcome r.report files r.crowd t inner.0 new) one (subst (λ (fs : List (List ℕ)). Outcome r.report fs r.crowd reads.text inner.0 new) same inner.2))

-- what is told is something
held_of : {A : Type 0} (told : Option A) → IsSome told → (a : A) × (told ≡ Some a)
held_of None some = let wrong : ⊥ = cc in absurd wrong
held_of (Some a) some = (a, refl)

pub reads_it : (r : Rehearsal) (files : List (List ℕ)) (text : Text) → Rehearsed r → HasMemory r → ReadsText files text r → (old : List ℕ) × (new : List ℕ) × Outcome r.report files r.crowd text old new
reads_it r files text run some reads =
    let held = held_of r.seen.held_now reads.told in
    let o = reads_as r files text held.0 run some reads held.1 in
    (o.0, held.0, o.1)

-- the same place
bad_same : (a b c d : ℕ) → answers.Bad a b ≡ answers.Bad c d → (a ≡ c) × (b ≡ d)
bad_same a b c d same = (cc, cc)

file_in : Option (ℕ × ℕ) → ℕ
file_in None = 0
file_in (Some place) = place.0

entry_in : Option (ℕ × ℕ) → ℕ
entry_in None = 0
entry_in (Some place) = place.1

-- no frame is cut where there is none
pub no_cut : (frames : ℕ) (files : List (List ℕ)) (crowd : Option (List Simulated)) (read : Reading) (old new : List ℕ) → read.items ≡ [] → IsCut frames files crowd read old new → ⊥
unfolding frames_of
no_cut frames files crowd read old new none cut =
    let parts = ap length (sym (frames_in_none files crowd read.items (ap frames_of none)) ∙ cut.parts) in
    omega (arith, parts, length-append cut.front (cut.frame ∷ cut.more))

-- nothing is refused where there is no header
pub gives_none : (files : List (List ℕ)) (read : Reading) → read.items ≡ [] → GivesReads files read
gives_none files read none = ap (refused_read files) none ∙ refused_none files

-- The text ended well.
pub by_ended : (status : Status) (report : Report) (files : List (List ℕ)) (crowd : Option (List Simulated)) (read : Reading) (old new : List ℕ) → report.status ≡ status → (report.status ≡ statuses.NoMemory → ⊥) → OutcomeOf status report files crowd read old new
    → GivesReads files read → (report.status ≡ statuses.WriteFailed → IsCut report.frames files crowd read old new → ⊥) → read.ending ≡ Ended → report.status ≡ statuses.Done
by_ended statuses.Done report files crowd read old new at some outcome given written ended = at
by_ended statuses.WordsRefused report files crowd read old new at some outcome given written ended = absurd outcome
by_ended statuses.FileRefused report files crowd read old new at some outcome given written ended = let is = outcome.0.is in let wrong : ⊥ = cc in absurd wrong
by_ended statuses.ScenarioRefused report files crowd read old new at some outcome given written ended = absurd (ended_not_bad read.ending report.line report.reason ended outcome.2)
by_ended statuses.ReadFailed report files crowd read old new at some outcome given written ended = let is = outcome.2 in let wrong : ⊥ = cc in absurd wrong
by_ended statuses.WriteFailed report files crowd read old new at some outcome given written ended = absurd (written at outcome.2)
by_ended statuses.NoMemory report files crowd read old new at some outcome given written ended = absurd (some at)

-- It is bad or unended.
pub by_bad : (status : Status) (report : Report) (files : List (List ℕ)) (crowd : Option (List Simulated)) (read : Reading) (old new : List ℕ) (line reason : ℕ) → report.status ≡ status → (report.status ≡ statuses.NoMemory → ⊥) → OutcomeOf status report files crowd read old new
    → GivesReads files read → (report.status ≡ statuses.WriteFailed → IsCut report.frames files crowd read old new → ⊥) → IsRefusedAt read line reason → (report.status ≡ statuses.ScenarioRefused) × (report.line ≡ line) × (report.reason ≡ reason)
by_bad statuses.Done report files crowd read old new line reason at some outcome given written bad = absurd (ended_not_bad read.ending line reason outcome.2 bad)
by_bad statuses.WordsRefused report files crowd read old new line reason at some outcome given written bad = absurd outcome
by_bad statuses.FileRefused report files crowd read old new line reason at some outcome given written bad = let is = outcome.0.is in let wrong : ⊥ = cc in absurd wrong
by_bad statuses.ScenarioRefused report files crowd read old new line reason at some outcome given written bad = let one = bad_same report.line report.reason line reason (sym outcome.2 ∙ bad) in (at, one.0, one.1)
by_bad statuses.ReadFailed report files crowd read old new line reason at some outcome given written bad = absurd (not_open_at_bad read.ending line reason (sym bad) outcome.2)
by_bad statuses.WriteFailed report files crowd read old new line reason at some outcome given written bad = absurd (written at outcome.2)
by_bad statuses.NoMemory report files crowd read old new line reason at some outcome given written bad = absurd (some at)

-- It is open.
pub by_open : (status : Status) (report : Report) (files : List (List ℕ)) (crowd : Option (List Simulated)) (read : Reading) (old new : List ℕ) → report.status ≡ status → (report.status ≡ statuses.NoMemory → ⊥) → OutcomeOf status report files crowd read old new
    → GivesReads files read → (report.status ≡ statuses.WriteFailed → IsCut report.frames files crowd read old new → ⊥) → read.ending ≡ Open → (report.status ≡ statuses.ReadFailed) × (report.file ≡ 0)
by_open statuses.Done report files crowd read old new at some outcome given written is_open = let is = outcome.2 in let wrong : ⊥ = cc in absurd wrong
by_open statuses.WordsRefused report files crowd read old new at some outcome given written is_open = absurd outcome
by_open statuses.FileRefused report files crowd read old new at some outcome given written is_open = let is = outcome.0.is in let wrong : ⊥ = cc in absurd wrong
by_open statuses.ScenarioRefused report files crowd read old new at some outcome given written is_open = absurd (not_open_at_bad read.ending report.line report.reason (sym outcome.2) is_open)
by_open statuses.ReadFailed report files crowd read old new at some outcome given written is_open = (at, outcome.0.file)
by_open statuses.WriteFailed report files crowd read old new at some outcome given written is_open = absurd (written at outcome.2)
by_open statuses.NoMemory report files crowd read old new at some outcome given written is_open = absurd (some at)

-- The map refuses the read of an entry.
pub by_unmapped : (status : Status) (report : Report) (files : List (List ℕ)) (crowd : Option (List Simulated)) (read : Reading) (old new : List ℕ) (file entry : ℕ) → report.status ≡ status → (report.status ≡ statuses.NoMemory → ⊥) → OutcomeOf status report files crowd read old new
    → refused_read files read.items ≡ Some (file, entry) → (report.status ≡ statuses.FileRefused) × (report.file ≡ file) × (report.line ≡ entry) × (report.reason ≡ 10)
unfolding file_in entry_in
by_unmapped statuses.Done report files crowd read old new file entry at some outcome is = let given = outcome.1 in let wrong : ⊥ = cc in absurd wrong
by_unmapped statuses.WordsRefused report files crowd read old new file entry at some outcome is = absurd outcome
by_unmapped statuses.FileRefused report files crowd read old new file entry at some outcome is = let same = sym outcome.0.is ∙ is in (at, ap file_in same, ap entry_in same, outcome.0.reason)
by_unmapped statuses.ScenarioRefused report files crowd read old new file entry at some outcome is = let given = outcome.1 in let wrong : ⊥ = cc in absurd wrong
by_unmapped statuses.ReadFailed report files crowd read old new file entry at some outcome is = let given = outcome.1 in let wrong : ⊥ = cc in absurd wrong
by_unmapped statuses.WriteFailed report files crowd read old new file entry at some outcome is = let given = outcome.1 in let wrong : ⊥ = cc in absurd wrong
by_unmapped statuses.NoMemory report files crowd read old new file entry at some outcome is = absurd (some at)

-- ---- a generated scenario

-- what the report says of it
drills_as : (r : Rehearsal) (files : List (List ℕ)) (k : ℕ) (new : List ℕ) → Rehearsed r
    → (r.report.status ≡ statuses.NoMemory → ⊥) → IsDrill k files r → r.seen.held_now ≡ Some new → (old : List ℕ) × DrillOutcome r.report files r.crowd k old new
drills_as r files k new run some drill tells = by_stage run.rehearses
  where
    by_stage : Rehearses r.report r.asked r.crowd r.seen r.before r.after → (old : List ℕ) × DrillOutcome r.report files r.crowd k old new
    by_stage (inl ends) = elim (ends_by r.report.status r.report r.before.files r.asked.files ends.count r.seen.is_open r.after.rest refl some ends.ends) [
      | inl refuses ↦ absurd (refused_taken r.report r.before.files r.asked.files files r.after.rest refuses.1 drill.taken)
      | inr fails_at ↦ absurd (not_failed r run drill.well fails_at.0)
    ]
    by_stage (inr (inl ends)) =
        let same : ends.files ≡ files = same_named r.before.files r.asked.files ends.files files ends.taken.named drill.taken.named in
        let none : tables_fault ends.files ≡ None = ap tables_fault same ∙ drill.loaded in
        let is = ends.refuses.is in
        let wrong : ⊥ = cc in
        absurd wrong
    by_stage (inr (inr runs)) =
        let ran : RunsDrill k r.report r.asked r.crowd r.seen r.before r.after = subst (λ (d : Option ℕ). RunsBy d r.report r.asked r.crowd r.seen r.before r.after) drill.drill runs in
        let inner = ran.outcome new tells in
        let same : ran.files ≡ files = same_named r.before.files r.asked.files ran.files files ran.taken.named drill.taken.named in
        (inner.0, subst (λ (fs : List (List ℕ)). DrillOutcome r.report fs r.crowd k inner.0 new) same inner.2)

pub drills_it : (r : Rehearsal) (files : List (List ℕ)) (k : ℕ) → Rehearsed r → HasMemory r → IsDrill k files r → (old : List ℕ) × (new : List ℕ) × DrillOutcome r.report files r.crowd k old new
drills_it r files k run some drill =
    let held = held_of r.seen.held_now drill.told in
    let o = drills_as r files k held.0 run some drill held.1 in
    (o.0, held.0, o.1)

-- The text ended well.
pub drill_ended : (status : Status) (report : Report) (files : List (List ℕ)) (crowd : Option (List Simulated)) (read : Reading) (old new : List ℕ) → report.status ≡ status → (report.status ≡ statuses.NoMemory → ⊥) → DrillOutcomeOf status report files crowd read old new
    → GivesReads files read → (report.status ≡ statuses.WriteFailed → ⊥) → report.status ≡ statuses.Done
drill_ended statuses.Done report files crowd read old new at some outcome given written = at
drill_ended statuses.WordsRefused report files crowd read old new at some outcome given written = absurd outcome
drill_ended statuses.FileRefused report files crowd read old new at some outcome given written = let is = outcome.0.is in let wrong : ⊥ = cc in absurd wrong
drill_ended statuses.ScenarioRefused report files crowd read old new at some outcome given written = absurd outcome
drill_ended statuses.ReadFailed report files crowd read old new at some outcome given written = absurd outcome
drill_ended statuses.WriteFailed report files crowd read old new at some outcome given written = absurd (written at)
drill_ended statuses.NoMemory report files crowd read old new at some outcome given written = absurd (some at)

-- The map refuses the read of an entry.
pub drill_unmapped : (status : Status) (report : Report) (files : List (List ℕ)) (crowd : Option (List Simulated)) (read : Reading) (old new : List ℕ) (file entry : ℕ) → report.status ≡ status → (report.status ≡ statuses.NoMemory → ⊥) → DrillOutcomeOf status report files crowd read old new
    → refused_read files read.items ≡ Some (file, entry) → (report.status ≡ statuses.FileRefused) × (report.file ≡ file) × (report.line ≡ entry) × (report.reason ≡ 10)
unfolding file_in entry_in
drill_unmapped statuses.Done report files crowd read old new file entry at some outcome is = let given = outcome.1 in let wrong : ⊥ = cc in absurd wrong
drill_unmapped statuses.WordsRefused report files crowd read old new file entry at some outcome is = absurd outcome
drill_unmapped statuses.FileRefused report files crowd read old new file entry at some outcome is = let same = sym outcome.0.is ∙ is in (at, ap file_in same, ap entry_in same, outcome.0.reason)
drill_unmapped statuses.ScenarioRefused report files crowd read old new file entry at some outcome is = absurd outcome
drill_unmapped statuses.ReadFailed report files crowd read old new file entry at some outcome is = absurd outcome
drill_unmapped statuses.WriteFailed report files crowd read old new file entry at some outcome is = let given = outcome.1 in let wrong : ⊥ = cc in absurd wrong
drill_unmapped statuses.NoMemory report files crowd read old new file entry at some outcome is = absurd (some at)
