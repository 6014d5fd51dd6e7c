use Rattle.std.proofs.Common.{◌<◌, ◌≤◌, ℕ, List, Some, length, map, sym, ◌∙◌, ap, Bor}
use Rattle.std.proofs.lemmas.List.{length-map}
use Rattle.clap.specs.Matches.{found_of}
use Rattle.rehearsal.specs.Words.{few_files}
use Rattle.rehearsal.proofs.Matched.{files_are, few_are_taken, many_are_refused}
use Rattle.rehearsal.proofs.words.files_of.Goals as goal

abbrev shown : Bor (List ℕ) → List ℕ
shown text = text.now

pub returns-in_default-clause-value : goal.returns-in_default-clause-value
returns-in_default-clause-value c = ap few_files (files_are (found_of c.args.matches.now) _ c.in_default.ensures) ∙ ap Some (sym c.in_ok-none.ensures)

pub returns-then-texts-gt-MOST_FILES-clause-value : goal.returns-then-texts-gt-MOST_FILES-clause-value
returns-then-texts-gt-MOST_FILES-clause-value c =
    let many : 100 < length (map shown c.in-Some.texts.now) = rw length-map c.if-texts-gt-MOST_FILES.true in
    ap few_files (files_are (found_of c.args.matches.now) _ c.in-Some.ensures) ∙ many_are_refused (map shown c.in-Some.texts.now) many

pub returns-clause-value : goal.returns-clause-value
returns-clause-value c =
    let few : length (map shown c.in-Some.texts.now) ≤ 100 = rw length-map c.if-texts-gt-MOST_FILES.false in
    ap few_files (files_are (found_of c.args.matches.now) _ c.in-Some.ensures) ∙ few_are_taken (map shown c.in-Some.texts.now) few ∙ ap Some (sym c.in_ok-files.ensures)

pub returns-clause-few : goal.returns-clause-few
returns-clause-few c =
    let few : length (map shown c.in-Some.texts.now) ≤ 100 = rw length-map c.if-texts-gt-MOST_FILES.false in
    rw c.in_ok-files.ensures few
