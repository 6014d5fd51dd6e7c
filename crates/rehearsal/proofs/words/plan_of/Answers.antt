use Rattle.std.proofs.Common.{ℕ, List, Bool, Option, Some, codes, sym, ◌∙◌, ap, ap₂}
use Rattle.clap.specs.Matches.{found_of}
use Rattle.clap.specs.Walk.{first_of, rows_of}
use Rattle.rehearsal.specs.Words.{Asked, is_said, asked_with, few_files, files_in}
use Rattle.rehearsal.proofs.Matched.{with_scenario, workers_are, subjects_are}
use Rattle.rehearsal.proofs.words.plan_of.Goals as goal

pub returns-in_default : goal.returns-in_default
returns-in_default c = with_scenario (found_of c.args.matches.now) _ c.in_default.ensures

pub returns-in_default-workers_said : goal.returns-in_default-workers_said
returns-in_default-workers_said c =
    with_scenario (found_of c.args.matches.now) _ c.in-Some.ensures
    ∙ ap (λ (n : Option ℕ). asked_with (is_said (first_of (codes "subjects") (rows_of (found_of c.args.matches.now)))) (Some c.in-Some.scenario.now) n (few_files (files_in (rows_of (found_of c.args.matches.now))))) (workers_are (found_of c.args.matches.now) _ _ c.get_str-2.ensures c.in_default-workers_said.ensures.value)

pub returns-in_default-files : goal.returns-in_default-files
returns-in_default-files c =
    with_scenario (found_of c.args.matches.now) _ c.in-Some.ensures
    ∙ ap₂ (asked_with (is_said (first_of (codes "subjects") (rows_of (found_of c.args.matches.now)))) (Some c.in-Some.scenario.now)) (workers_are (found_of c.args.matches.now) _ _ c.get_str-2.ensures c.in-Some-workers_said.ensures.value) (c.in_ok-files.ensures.value ∙ c.in_default-files.is)

pub returns : goal.returns
returns c =
    let made : List ℕ → Option Asked =
    λ scenario. Some (record { workers = c.in-Some-workers_said.workers; subjects = c.is_said-subjects.result; scenario = scenario; files = c.in-Some-files.files }) in
    with_scenario (found_of c.args.matches.now) _ c.in-Some.ensures
    ∙ ap₂ (asked_with (is_said (first_of (codes "subjects") (rows_of (found_of c.args.matches.now)))) (Some c.in-Some.scenario.now)) (workers_are (found_of c.args.matches.now) _ _ c.get_str-2.ensures c.in-Some-workers_said.ensures.value) (c.in_ok-files.ensures.value ∙ c.in-Some-files.is)
    ∙ ap (λ (subjects : Bool). asked_with subjects (Some c.in-Some.scenario.now) (Some c.in-Some-workers_said.workers) (Some c.in-Some-files.files)) (subjects_are (found_of c.args.matches.now) _ _ c.get_str-3.ensures c.is_said-subjects.ensures)
    ∙ ap made (sym c.in_ok-scenario.ensures.ok)
