-- The promise of accepted words that were carried out.
use Rattle.std.proofs.Common.{◌≡◌, ℕ, List, [], refl, subst, Option, Some, IsTrue}
use Rattle.std.specs.Prelude.{◌≢◌, ◌⊎◌}
use Rattle.fsw_outside.specs.Told.{WhereTold}
use Rattle.subjects.specs.Plans.{Simulated}
use Rattle.rehearsal.specs.Words.{Asked, accepted_words, words_to_open}
use Rattle.rehearsal.specs.Files.{AsksFor}
use Rattle.rehearsal.specs.Beside.{crowd_for}
use Rattle.rehearsal.specs.Outcome.{HasCauses, Rehearses}
use Rattle.rehearsal.specs.Report.{error_line, Tells}
use Rattle.rehearsal.specs.Promise.{ShelfUse, SinkUse, seen_of, CarriesOut, Promise}
use Rattle.rehearsal.specs.declared.report.Report.{Report}
use Rattle.rehearsal.specs.declared.report.Status.TheVariants as statuses
use Rattle.rehearsal.proofs.Completeness.{rehearses_complete, not_risen}
use Rattle.rehearsal.proofs.Drilled.{rehearses_sums}
use Rattle.rehearsal.proofs.Stages.{asked_once, asks_nothing, is_opened}

-- What is asked for is carried out, and is complete where nothing failed.
pub carries_out : {S O : Type 0} (report : Report) (asked : Asked) (crowd : Option (List Simulated)) (shelf : ShelfUse S) (out : SinkUse O)
    → WhereTold shelf.told_before shelf.told_now (Rehearses report asked crowd (seen_of shelf out))
    → WhereTold shelf.told_before shelf.told_now (λ before after. (count : ℕ) × AsksFor (words_to_open asked) count before after)
    → ((shelf.mark ≡ shelf.faults_before) ⊎ ((shelf.new ≡ shelf.old) × (words_to_open asked ≡ [])))
    → (report.status ≢ statuses.ReadFailed → IsTrue shelf.is_open ⊎ ((shelf.new ≡ shelf.old) × (words_to_open asked ≡ [])))
    → HasCauses report.status shelf.told_now shelf.faults_before shelf.faults_now out.held_now out.faults_before out.faults_now
    → CarriesOut report asked crowd shelf out
carries_out report asked crowd shelf out outcome opening mark opened causes = record {
  opening = opening;
  mark = asks_nothing _ _ _ report.status asked asked refl mark;
  opened = λ read. asks_nothing _ _ _ report.status asked asked refl (opened read);
  outcome = outcome;
  complete = λ files bytes plain run well after tells.
      let o = outcome after tells in (
        o.0,
        o.1,
        λ taken file.
            rehearses_complete report asked crowd (seen_of shelf out) o.0 after files bytes o.2 plain taken file run.loaded run.ended run.given
            (λ failed. not_risen shelf.told_now after _ _ tells well.0 (causes.read_failed failed))
            (λ reading _. is_opened _ _ _ asked plain (opened reading))
            (λ new told failed. not_risen out.held_now new _ _ told well.1 (causes.write_failed failed)),
      );
  complete_drill = λ files k drilled loaded given well after tells.
      let o = outcome after tells in (
        o.0,
        o.1,
        λ taken.
            rehearses_sums report asked crowd (seen_of shelf out) o.0 after files k o.2 drilled taken loaded given
            (λ failed. not_risen shelf.told_now after _ _ tells well.0 (causes.read_failed failed))
            (λ new told failed. not_risen out.held_now new _ _ told well.1 (causes.write_failed failed)),
      );
}

-- The promise of accepted words, by what was carried out of their plan.
pub keeps_promise : {S O E : Type 0} (report : Report) (words : List (List ℕ)) (plan : Asked) (subjects : List Simulated) (crowd : Option (List Simulated)) (shelf : ShelfUse S) (out : SinkUse O) (err : SinkUse E)
    → accepted_words words ≡ Some plan → crowd ≡ crowd_for plan.subjects subjects → report.status ≢ statuses.WordsRefused → CarriesOut report plan crowd shelf out
    → (report.status ≡ statuses.FileRefused → out.new ≡ out.old) → (report.status ≡ statuses.NoMemory → (out.new ≡ out.old) × (report.frames ≡ 0))
    → HasCauses report.status shelf.told_now shelf.faults_before shelf.faults_now out.held_now out.faults_before out.faults_now
    → WhereTold err.held_before err.held_now (Tells err.faults_before err.faults_now (error_line report))
    → Promise report words subjects shelf out err
keeps_promise report words plan subjects crowd shelf out err is beside accepted carried file_refused no_memory causes told = record {
  only = λ refused. absurd (accepted refused);
  refused = λ none. let wrong : ⊥ = cc in absurd wrong;
  accepted = λ asked by.
      subst (λ (a : Asked). CarriesOut report a (crowd_for a.subjects subjects) shelf out) (asked_once _ plan asked is by)
      (subst (λ (c : Option (List Simulated)). CarriesOut report plan c shelf out) beside carried);
  file_refused = file_refused;
  no_memory = no_memory;
  causes = causes;
  told = told;
}
