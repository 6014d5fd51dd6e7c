-- The promise of a rehearsal that ended before anything was read.
use Rattle.std.proofs.Common.{◌≡◌, ℕ, List, Bool, Option, None, refl, sym, ap, inl, inr, arith, add-zero}
use Rattle.fsw_outside.specs.Told.{WhereTold}
use Rattle.fsw_outside.specs.Files.{Content}
use Rattle.fsw_outside.specs.TellingLaws.{told_nothing}
use Rattle.subjects.specs.Plans.{Simulated}
use Rattle.rehearsal.specs.Words.{Asked, accepted_words, words_to_open}
use Rattle.rehearsal.specs.Files.{AsksFor}
use Rattle.rehearsal.specs.Beside.{crowd_for}
use Rattle.rehearsal.specs.Report.{error_line, Tells}
use Rattle.rehearsal.specs.Promise.{shelf_use, SinkUse, sink_use, early_end, CarriesOut, Promise}
use Rattle.rehearsal.specs.declared.report.Report.{Report}
use Rattle.rehearsal.specs.declared.report.Status.TheVariants as statuses

-- nothing was asked for
asks_nothing : (words : List (List ℕ)) (content : Content) → AsksFor words 0 content content
asks_nothing words content = record {
  files = refl;
  within = omega arith;
  openings = sym (add-zero content.openings);
  name = λ some. absurd (omega (arith, some));
  nothing = λ _. refl;
}

-- The words are refused.
pub ends_refused : {S O E : Type 0} (report : Report) (words : List (List ℕ)) (subjects : List Simulated) (told : S → Option Content) (is_open : S → Bool) (faults mark : S → ℕ) (shelf : S)
    (held : O → Option (List ℕ)) (wrote : O → ℕ) (out : O) (err : SinkUse E) → report ≡ early_end statuses.WordsRefused → accepted_words words ≡ None
    → WhereTold err.held_before err.held_now (Tells err.faults_before err.faults_now (error_line report))
    → Promise report words subjects (shelf_use told is_open faults mark shelf shelf) (sink_use held wrote out out) err
ends_refused report words subjects told is_open faults mark shelf held wrote out err is none line = record {
  only = λ _. none;
  refused = λ _. record { ends = inl is; unread = refl; unwritten = refl };
  accepted = λ asked some. let wrong : ⊥ = cc in absurd wrong;
  file_refused = λ _. refl;
  no_memory = λ out_of. let wrong : ⊥ = cc (at) in absurd wrong;
  causes = record {
    read_failed = λ failed. let wrong : ⊥ = cc (at) in absurd wrong;
    read_well = λ _. refl;
    write_failed = λ failed. let wrong : ⊥ = cc (at) in absurd wrong;
    wrote_well = λ _. refl;
  };
  told = line;
}
  where
    at : report.status ≡ statuses.WordsRefused
    at = ap (λ (r : Report). r.status) is

-- Memory ran out before the first opening.
pub ends_without_memory : {S O E : Type 0} (report : Report) (words : List (List ℕ)) (subjects : List Simulated) (told : S → Option Content) (is_open : S → Bool) (faults mark : S → ℕ) (shelf : S)
    (held : O → Option (List ℕ)) (wrote : O → ℕ) (out : O) (err : SinkUse E) → report ≡ early_end statuses.NoMemory
    → WhereTold err.held_before err.held_now (Tells err.faults_before err.faults_now (error_line report))
    → Promise report words subjects (shelf_use told is_open faults mark shelf shelf) (sink_use held wrote out out) err
ends_without_memory {S} {O} {E} report words subjects told is_open faults mark shelf held wrote out err is line = record {
  only = λ refused. let wrong : ⊥ = cc (out_of) in absurd wrong;
  refused = λ _. record { ends = inr is; unread = refl; unwritten = refl };
  accepted = λ asked _. carried asked (crowd_for asked.subjects subjects);
  file_refused = λ _. refl;
  no_memory = λ _. (refl, ap (λ (r : Report). r.frames) is);
  causes = record {
    read_failed = λ failed. let wrong : ⊥ = cc (out_of) in absurd wrong;
    read_well = λ _. refl;
    write_failed = λ failed. let wrong : ⊥ = cc (out_of) in absurd wrong;
    wrote_well = λ _. refl;
  };
  told = line;
}
  where
    out_of : report.status ≡ statuses.NoMemory
    out_of = ap (λ (r : Report). r.status) is

    carried : (asked : Asked) (crowd : Option (List Simulated)) → CarriesOut report asked crowd (shelf_use told is_open faults mark shelf shelf) (sink_use held wrote out out)
    carried asked crowd = record {
      opening = told_nothing _ _ (λ content. (0, asks_nothing (words_to_open asked) content));
      mark = inr (refl, inl out_of);
      opened = λ _. inr (refl, inl out_of);
      outcome = told_nothing _ _ (λ content. rw is (inl (record {
        count = 0;
        asked = asks_nothing (words_to_open asked) content;
        ends = record { within = omega arith; file = refl; line = refl; reason = refl; frames = refl };
        unwritten = told_nothing _ _ (λ bytes. refl);
      })));
      complete = λ files bytes _ _ _. told_nothing _ _ (λ content _ _. told_nothing _ _ (λ bytes. inr (out_of, ap (λ (r : Report). r.frames) is, refl)));
      complete_drill = λ files k _ _ _ _. told_nothing _ _ (λ content _. told_nothing _ _ (λ bytes. inr (out_of, ap (λ (r : Report). r.frames) is, refl)));
    }
