use Rattle.std.proofs.Common.{◌≡◌, ◌+◌, ◌<◌, List, [], ℕ, length, refl, sym, ◌∙◌, ap, subst, arith, slice_index_or}
use Rattle.fsw_outside.specs.Files.{Stored, file_named}
use Rattle.fsw_outside.specs.TellingLaws.{told_nothing, told_then, told_map}
use Rattle.rehearsal.specs.Files.{AsksFor, EndsAtFile, stop_report}
use Rattle.rehearsal.specs.declared.report.Report.{Report}
use Rattle.rehearsal.proofs.Gathered.{taken_none, taken_more, taken_all, stops_at, asks_none, asks_more}
use Rattle.rehearsal.proofs.files.take_files.Goals as goal

pub files-init : goal.files-init
files-init g c = record {
  count = ap length c.requires.empty;
  taken = told_nothing _ _ (λ content. (asks_none c.args.names.now c.args.files.now content c.requires.empty, taken_none content.files c.args.names.now c.args.files.now c.requires.empty, λ some. absurd (omega (arith, some))));
  well = refl;
  opened = λ some. absurd (omega (arith, some));
  mark = λ some. absurd (omega (arith, some));
  unasked = λ _. refl;
}

pub files-preserved : goal.files-preserved
files-preserved g c =
    let names = c.args.names.now in
    let held = c.files.invariant in
    let within : length c.files.files < length names = omega (arith, held.count, c.files-test.true, c.len-place-end.ensures) in
    let word = c.word.ensures ∙ ap (λ (n : ℕ). slice_index_or names n []) (sym held.count) in
    record {
      count = omega (arith, held.count, c.in-Ok.ensures.grown);
      taken = told_then held.taken c.in-Ok.ensures.content (λ before middle after first second.
          let asked = asks_more names (length c.files.files) c.word.result.now before middle after within word first.0 second.0 in
          let at = ap (file_named before.files) (sym word) ∙ ap (λ (stored : List Stored). file_named stored c.word.result.now) (sym first.0.files) ∙ second.1.1 in (
            subst (λ (n : ℕ). AsksFor names n before after) (sym c.in-Ok.ensures.grown) asked,
            taken_more before.files names c.files.files c.take_file.new.files second.1.0 within first.1 at second.1.2 second.1.3,
            λ _. second.1.4,
          ));
      well = c.in-Ok.ensures.well ∙ held.well;
      opened = λ _. c.in-Ok.ensures.opened;
      mark = λ _. c.take_file.ensures.mark ∙ held.well;
      unasked = λ none. absurd (omega (arith, none));
    }

pub returns-in-Err-clause-content : goal.returns-in-Err-clause-content
returns-in-Err-clause-content g c =
    let names = c.args.names.now in
    let held = c.files.invariant in
    let within : length c.files.files < length names = omega (arith, held.count, c.files-test.true, c.len-place-end.ensures) in
    let word = c.word.ensures ∙ ap (λ (n : ℕ). slice_index_or names n []) (sym held.count) in
    let size : length c.take_file.new.files ≡ length c.files.files = ap length c.in-Err.ensures.same in
    let number : c.files.place + 1 ≡ length c.files.files + 1 = omega (arith, held.count) in
    told_then held.taken c.in-Err.ensures.content (λ before middle after first second.
    let asked = asks_more names (length c.files.files) c.word.result.now before middle after within word first.0 second.0 in
    let file : file_named middle.files c.word.result.now ≡ file_named before.files (slice_index_or names (length c.files.files) []) =
    ap (λ (stored : List Stored). file_named stored c.word.result.now) first.0.files ∙ ap (file_named before.files) word in
    let stops = stops_at before.files names c.files.files c.in-Err.why (g.S.Shelf.is_open c.take_file.new.shelf) after.rest c.take_file.new.files within first.1 (rw (← file) second.1) in (
      rw size asked,
      rw size (subst (λ (report : Report). EndsAtFile report before.files names (length c.files.files + 1) (g.S.Shelf.is_open c.take_file.new.shelf) after.rest) (ap (λ (n : ℕ). stop_report c.in-Err.why n) (sym number) ∙ sym c.report_of.ensures) stops),
    ))

pub returns-clause-content : goal.returns-clause-content
returns-clause-content g c =
    let names = c.args.names.now in
    let held = c.files.invariant in
    let all : length c.files.files ≡ length names = let within = c.files.auto.place-end in omega (arith, held.count, c.files-test.false, within, c.len-place-end.ensures) in
    told_map held.taken (λ before after first. (
      subst (λ (n : ℕ). AsksFor names n before after) all first.0,
      taken_all before.files names c.files.files all first.1,
      λ some. first.2 (omega (arith, held.count, all, some)),
    ))
