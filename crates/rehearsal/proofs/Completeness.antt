-- A scenario that ends well is run to its end.
use Rattle.std.proofs.Common.{◌≡◌, ℕ, Bool, true, false, List, [], ◌++◌, length, refl, sym, ◌∙◌, ap, subst, arith, inl, inr, map, take, zero, suc, ◌+◌, ◌∷◌, Option, Some, None, IsTrue}
use Rattle.std.specs.Prelude.{◌==◌, ◌&&◌}
use Rattle.std.proofs.lemmas.Bool.Decides.{nat_tests}
use Rattle.std.proofs.lemmas.List.{take-map}
use Rattle.fsw_outside.specs.Told.{WhereTold}
use Rattle.fsw_outside.specs.Causes.{HasRisen}
use Rattle.fsw_outside.specs.Files.{Stored, Content, file_named}
use Rattle.fsw_outside.specs.TellingLaws.{told_map}
use Rattle.scenario.specs.declared.item.Item.TheVariants as answers
use Rattle.scenario.specs.Texts.{Text, Reading, Ending, Ended, Open, reading}
use Rattle.scenario.specs.Answers.{answer_at_end}
use Rattle.subjects.specs.Plans.{Simulated}
use Rattle.rehearsal.specs.declared.report.Status.{Status}
use Rattle.rehearsal.specs.declared.report.Status.TheVariants as statuses
use Rattle.rehearsal.specs.declared.report.Report.{Report}
use Rattle.rehearsal.specs.Words.{Asked, drill_in}
use Rattle.rehearsal.specs.Files.{refusal_of, refused_from, first_refusal, AreTaken, RefusesFile, EndsAtFileBy}
use Rattle.frame_exec.specs.Tables.{tables_fault}
use Rattle.rehearsal.specs.Outcome.{IsText, refused_read, GivesReads, OutcomeOf, Outcome, Seen, ReadsScenario, RunsBy, Rehearses, Completes}
use Rattle.rehearsal.proofs.Gathered.{none_before}
use Rattle.rehearsal.proofs.Outcomes.{tells_some, reading_whole, items_whole, refused_append, refused_some}
use Rattle.rehearsal.proofs.Endings.{not_open_at_bad}
use Rattle.rehearsal.proofs.Pieces.{empty_of}

-- the first of two tests
first_test : (a t : Bool) → (a && t) ≡ true → a ≡ true
first_test true t is = refl
first_test false t is = cc

-- a rest without length
rest_empty : (rest : List ℕ) (t : Bool) → ((length rest == 0) && t) ≡ true → rest ≡ []
rest_empty rest t is =
    let zero : (length rest == 0) ≡ true = first_test (length rest == 0) t is in
    let none : length rest ≡ 0 = grind (arith, nat_tests) in
    empty_of rest none

-- the same content
pub same_bytes : (a b : List ℕ) → Some a ≡ Some b → a ≡ b
same_bytes a b same = cc

-- the file's text, read to its end, is read as what was handed out of it, where that isn't open
pub file_reads : (before faults : ℕ) (bytes rest : List ℕ) (text : Text) → IsText true before faults (Some bytes) rest text → ((reading text).ending ≡ Open → ⊥)
    → reading (record { bytes = bytes; closed = true }) ≡ reading text
file_reads before faults bytes rest text is not_open =
    let parts = same_bytes bytes (text.bytes ++ rest) (is.front refl) in
    ap (λ (b : List ℕ). reading (record { bytes = b; closed = true })) parts
    ∙ reading_whole text rest true (λ closed. (rest_empty rest _ (sym is.closed ∙ closed), refl)) not_open

-- a text that ended isn't bad
pub ended_not_bad : (ending : Ending) (line reason : ℕ) → ending ≡ Ended → answer_at_end ending ≡ answers.Bad line reason → ⊥
ended_not_bad ending line reason ended bad =
    let good : answer_at_end ending ≡ answers.End = ap answer_at_end ended in
    cc

-- an entry whose read the map of a first part refuses is refused by the map of the whole file
pub refused_of_all : (files : List (List ℕ)) (before faults : ℕ) (bytes rest : List ℕ) (text : Text) (file entry : ℕ) → IsText true before faults (Some bytes) rest text → refused_read files (reading text).items ≡ Some (file, entry)
    → refused_read files (reading (record { bytes = bytes; closed = true })).items ≡ Some (file, entry)
refused_of_all files before faults bytes rest text file entry is refused =
    let parts = same_bytes bytes (text.bytes ++ rest) (is.front refl) in
    let grown = items_whole text rest true (λ closed. (rest_empty rest _ (sym is.closed ∙ closed), refl)) in
    let some = refused_some files (reading text).items (file, entry) refused in
    ap (λ (b : List ℕ). refused_read files (reading (record { bytes = b; closed = true })).items) parts
    ∙ ap (refused_read files) grown.1 ∙ refused_append files (reading text).items grown.0 some ∙ refused

-- what is refused isn't given
refused_given : (files : List (List ℕ)) (before faults : ℕ) (bytes rest : List ℕ) (text : Text) (file entry : ℕ) → IsText true before faults (Some bytes) rest text → refused_read files (reading text).items ≡ Some (file, entry)
    → GivesReads files (reading (record { bytes = bytes; closed = true })) → ⊥
refused_given files before faults bytes rest text file entry is refused given =
    let whole = refused_of_all files before faults bytes rest text file entry is refused in
    cc

-- what each status comes to
by_status : (files : List (List ℕ)) (crowd : Option (List Simulated)) (status : Status) (report : Report) (before faults : ℕ) (bytes rest : List ℕ) (text : Text) (old new : List ℕ) → report.status ≡ status → IsText true before faults (Some bytes) rest text
    → (reading (record { bytes = bytes; closed = true })).ending ≡ Ended → GivesReads files (reading (record { bytes = bytes; closed = true })) → (status ≡ statuses.ReadFailed → ⊥) → (status ≡ statuses.WriteFailed → ⊥)
    → OutcomeOf status report files crowd (reading text) old new → Completes report files crowd (record { bytes = bytes; closed = true }) old new
by_status files crowd statuses.Done report before faults bytes rest text old new same is ended given read write outcome =
    let not_open : (reading text).ending ≡ Open → ⊥ = λ open_now. cc (outcome.2) in
    inl (same, rw (file_reads before faults bytes rest text is not_open) outcome.3)
by_status files crowd statuses.WordsRefused report before faults bytes rest text old new same is ended given read write outcome = absurd outcome
by_status files crowd statuses.FileRefused report before faults bytes rest text old new same is ended given read write outcome = absurd (refused_given files before faults bytes rest text report.file report.line is outcome.0.is given)
by_status files crowd statuses.ScenarioRefused report before faults bytes rest text old new same is ended given read write outcome =
    let not_open = not_open_at_bad (reading text).ending report.line report.reason (sym outcome.2) in
    absurd (ended_not_bad (reading text).ending report.line report.reason (ap (λ (r : Reading). r.ending) (sym (file_reads before faults bytes rest text is not_open)) ∙ ended) outcome.2)
by_status files crowd statuses.ReadFailed report before faults bytes rest text old new same is ended given read write outcome = absurd (read refl)
by_status files crowd statuses.WriteFailed report before faults bytes rest text old new same is ended given read write outcome = absurd (write refl)
by_status files crowd statuses.NoMemory report before faults bytes rest text old new same is ended given read write outcome = inr (same, outcome.1, outcome.2)

-- no fault came, so none was told
pub not_risen : {A : Type 0} (told : Option A) (after : A) (before now : ℕ) → told ≡ Some after → now ≡ before → HasRisen told before now → ⊥
not_risen told after before now tells same risen =
    let rose = risen.strictly (tells_some told after tells) in
    omega (arith, rose, same)

-- an outcome without faults of a file that is open is complete
pub completes : (files : List (List ℕ)) (crowd : Option (List Simulated)) (report : Report) (is_open : Bool) (before faults : ℕ) (bytes rest : List ℕ) (file : Option (List ℕ)) (text : Text) (old new : List ℕ) → file ≡ Some bytes
    → IsText is_open before faults file rest text → (reading (record { bytes = bytes; closed = true })).ending ≡ Ended → GivesReads files (reading (record { bytes = bytes; closed = true })) → (report.status ≡ statuses.ReadFailed → ⊥) → ((report.status ≡ statuses.ReadFailed → ⊥) → (report.status ≡ statuses.NoMemory → ⊥) → IsTrue is_open)
    → (report.status ≡ statuses.WriteFailed → ⊥) → Outcome report files crowd text old new → Completes report files crowd (record { bytes = bytes; closed = true }) old new
completes files crowd report is_open before faults bytes rest file text old new same is ended given read opened write outcome = by_memory report.status refl
  where
    by_open : (report.status ≡ statuses.NoMemory → ⊥) → Completes report files crowd (record { bytes = bytes; closed = true }) old new
    by_open some =
        let is_true : is_open ≡ true = opened read some in
        let at_bytes = subst (λ (f : Option (List ℕ)). IsText is_open before faults f rest text) same is in
        let at_open = subst (λ (b : Bool). IsText b before faults (Some bytes) rest text) is_true at_bytes in
        by_status files crowd report.status report before faults bytes rest text old new refl at_open ended given read write outcome

    by_memory : (status : Status) → report.status ≡ status → Completes report files crowd (record { bytes = bytes; closed = true }) old new
    by_memory statuses.Done at = by_open (λ out. cc)
    by_memory statuses.WordsRefused at = by_open (λ out. cc)
    by_memory statuses.FileRefused at = by_open (λ out. cc)
    by_memory statuses.ScenarioRefused at = by_open (λ out. cc)
    by_memory statuses.ReadFailed at = by_open (λ out. cc)
    by_memory statuses.WriteFailed at = by_open (λ out. cc)
    by_memory statuses.NoMemory at = let none = subst (λ (s : Status). OutcomeOf s report files crowd (reading text) old new) at outcome in inr (at, none.1, none.2)

-- the same lists of contents
same_contents : (xs ys : List (List ℕ)) → map Some xs ≡ map Some ys → xs ≡ ys
same_contents [] [] same = refl
same_contents [] (y ∷ ys) same = cc
same_contents (x ∷ xs) [] same = cc
same_contents (x ∷ xs) (y ∷ ys) same =
    let first : ◌≡◌ {A = Option (List ℕ)} (Some x) (Some y) = cc in
    let rest : map Some xs ≡ map Some ys = cc in
    let here : x ≡ y = same_bytes x y first in
    λ i. here i ∷ same_contents xs ys rest i

-- files that names name are the only ones that they name
pub same_named : (stored : List Stored) (names xs ys : List (List ℕ)) → map (file_named stored) names ≡ map Some xs → map (file_named stored) names ≡ map Some ys → xs ≡ ys
same_named stored names xs ys first other = same_contents xs ys (sym first ∙ other)

-- a front of names names a front of their files
pub front_named : (stored : List Stored) (n : ℕ) (names xs ys : List (List ℕ)) → map (file_named stored) names ≡ map Some xs → map (file_named stored) (take n names) ≡ map Some ys → ys ≡ take n xs
front_named stored n names xs ys all front =
    same_contents ys (take n xs) (sym front ∙ sym (take-map (file_named stored) n names) ∙ ap (take n) all ∙ take-map Some n xs)

-- where none of the files is refused, none of a front of them is
pub none_of_front : (first : ℕ) (files : List (List ℕ)) (n : ℕ) → refused_from first files ≡ None → refused_from first (take n files) ≡ None
unfolding refused_from
none_of_front first files zero none = refl
none_of_front first [] (suc n) none = refl
none_of_front first (file ∷ files) (suc n) none =
    let parts = none_before first (refusal_of file) (refused_from (first + 1) files) none in
    rw parts.0 (none_of_front (first + 1) files n parts.1)

-- a FILE that is refused isn't one of files that are taken
pub refused_taken : (report : Report) (stored : List Stored) (names files : List (List ℕ)) (rest : List ℕ) → RefusesFile report stored names rest → AreTaken stored names files → ⊥
unfolding first_refusal
refused_taken report stored names files rest refuses taken =
    let read : List (List ℕ) = refuses.before ++ refuses.bytes ∷ [] in
    let front : read ≡ take report.file files = front_named stored report.file names files read taken.named refuses.named in
    let none : refused_from 1 read ≡ None = ap (refused_from 1) front ∙ none_of_front 1 files report.file taken.taken in
    let is = refuses.refused in
    cc

-- an end at a FILE is want of memory, where the files are taken and the shelf didn't fail
pub ends_complete : (status : Status) (report : Report) (stored : List Stored) (names files : List (List ℕ)) (count : ℕ) (is_open : Bool) (rest : List ℕ) → report.status ≡ status → EndsAtFileBy status report stored names count is_open rest
    → AreTaken stored names files → (status ≡ statuses.ReadFailed → ⊥) → (report.status ≡ statuses.NoMemory) × (report.frames ≡ 0)
ends_complete statuses.Done report stored names files count is_open rest same ends taken read = absurd ends
ends_complete statuses.WordsRefused report stored names files count is_open rest same ends taken read = absurd ends
ends_complete statuses.FileRefused report stored names files count is_open rest same ends taken read = absurd (refused_taken report stored names files rest ends.0 taken)
ends_complete statuses.ScenarioRefused report stored names files count is_open rest same ends taken read = absurd ends
ends_complete statuses.ReadFailed report stored names files count is_open rest same ends taken read = absurd (read refl)
ends_complete statuses.WriteFailed report stored names files count is_open rest same ends taken read = absurd ends
ends_complete statuses.NoMemory report stored names files count is_open rest same ends taken read = (same, ends.frames)

-- A rehearsal without faults of files that can be taken and of a scenario that ends well is complete.
pub rehearses_complete : (report : Report) (asked : Asked) (crowd : Option (List Simulated)) (seen : Seen) (start after : Content) (files : List (List ℕ)) (bytes : List ℕ)
    → Rehearses report asked crowd seen start after → drill_in asked.scenario ≡ None → AreTaken start.files asked.files files → file_named start.files asked.scenario ≡ Some bytes
    → tables_fault files ≡ None → (reading (record { bytes = bytes; closed = true })).ending ≡ Ended → GivesReads files (reading (record { bytes = bytes; closed = true })) → (report.status ≡ statuses.ReadFailed → ⊥)
    → ((report.status ≡ statuses.ReadFailed → ⊥) → (report.status ≡ statuses.NoMemory → ⊥) → IsTrue seen.is_open) → ((new : List ℕ) → seen.held_now ≡ Some new → report.status ≡ statuses.WriteFailed → ⊥)
    → WhereTold seen.held_before seen.held_now (Completes report files crowd (record { bytes = bytes; closed = true }))
rehearses_complete report asked crowd seen start after files bytes (inl ends) plain taken file loaded ended given read opened write =
    let out = ends_complete report.status report start.files asked.files files ends.count seen.is_open after.rest refl ends.ends taken read in
    told_map ends.unwritten (λ old new unwritten. inr (out.0, out.1, unwritten))
rehearses_complete report asked crowd seen start after files bytes (inr (inl ends)) plain taken file loaded ended given read opened write =
    let same : ends.files ≡ files = same_named start.files asked.files ends.files files ends.taken.named taken.named in
    let none : tables_fault ends.files ≡ None = ap tables_fault same ∙ loaded in
    let is = ends.refuses.is in
    let wrong : ⊥ = cc in
    absurd wrong
rehearses_complete report asked crowd seen start after files bytes (inr (inr runs)) plain taken file loaded ended given read opened write = λ new tells.
    let reads : ReadsScenario report asked crowd seen start after = subst (λ (d : Option ℕ). RunsBy d report asked crowd seen start after) plain runs in
    let inner = reads.outcome new tells in
    let same : reads.files ≡ files = same_named start.files asked.files reads.files files reads.taken.named taken.named in (
      inner.0,
      inner.1,
      subst (λ (fs : List (List ℕ)). Completes report fs crowd (record { bytes = bytes; closed = true }) inner.0 new) same
          (completes reads.files crowd report seen.is_open seen.faults_before seen.faults_now bytes after.rest (file_named start.files asked.scenario) reads.text inner.0 new file reads.is_text ended (subst (λ (fs : List (List ℕ)). GivesReads fs (reading (record { bytes = bytes; closed = true }))) (sym same) given) read opened (write new tells) inner.2),
    )
