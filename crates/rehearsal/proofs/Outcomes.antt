-- What the run of the frames comes to, by the text that was handed out.
use Rattle.std.proofs.Common.{◌≡◌, ℕ, ◌<◌, Bool, true, false, List, [], ◌∷◌, ◌++◌, length, refl, sym, ◌∙◌, ap, subst, append_assoc, append-nil, arith, inl, inr, Option, Some, None}
use Rattle.std.specs.Prelude.{◌==◌, ◌&&◌, IsSome}
use Rattle.std.proofs.lemmas.Bool.Decides.{nat_tests}
use Rattle.std.proofs.lemmas.Grind.{flat_map-append}
use Rattle.fsw_outside.specs.Files.{Content}
use Rattle.scenario.specs.declared.reader.Reader.{Reader}
use Rattle.scenario.specs.declared.item.Item.TheVariants as answers
use Rattle.scenario.specs.FrameLists.{Frame}
use Rattle.subjects.specs.Plans.{Simulated}
use Rattle.scenario.specs.Texts.{Text, Given, Head, Whole, Reading, Open, reading}
use Rattle.scenario.specs.Answers.{answer_at_end}
use Rattle.frame_exec.specs.Runs.{Setup, frame_lines}
use Rattle.frame_exec.specs.declared.bench.Bench.{Bench}
use Rattle.frame_exec.specs.Following.{Follows}
use Rattle.frame_exec.specs.Standing.{CanRun}
use Rattle.frame_exec.specs.RunLaws.{log_more, log_none}
use Rattle.frame_exec.specs.Crowds.{crowd_behind, frame_beside}
use Rattle.rehearsal.specs.Fed.{Fed}
use Rattle.rehearsal.specs.Text.{Holds, IsRead}
use Rattle.rehearsal.specs.Outcome.{frame_in_item, frames_of, setup_of, refused_read, frames_in, log_in, IsTextOf, IsWhole, Outcome}
use Rattle.rehearsal.specs.declared.report.Status.TheVariants as statuses
use Rattle.rehearsal.specs.declared.report.Report.{Report}
use Rattle.scenario.specs.TextLaws.{texts_grow}
use Rattle.rehearsal.proofs.Endings.{open_at_more, ended_at_end}
use Rattle.rehearsal.proofs.Beside.{run_length, run_more, run_grows, run_none, can_run_beside}

-- the text that was handed out: the bytes that were fed and those that are pending
abbrev pub whole_of : Text → List ℕ → Bool → Text
whole_of now pending end = record { bytes = now.bytes ++ pending; closed = end }

-- whether it is closed
abbrev pub is_closed : List ℕ → ℕ → ℕ → Bool
is_closed rest faults_before faults_now = (length rest == 0) && (faults_now == faults_before)

-- it is the text of the bytes that were read
pub text_of : (now : Text) (pending : List ℕ) (start after : Content) (before faults : ℕ) → IsRead now pending start after
    → IsTextOf before faults start after (whole_of now pending (is_closed after.rest before faults))
text_of now pending start after before faults read = record { same = read.same; parts = read.parts; closed = refl }

-- where the reader's text is closed nothing is pending, and all was handed out
pub closed_same : (reader : Reader) (f : Fed) (now : Text) (gave : List Given) (start after : Content) (before faults : ℕ) → Holds reader f now gave → IsRead now f.pending start after
    → faults ≡ before → now.closed ≡ true → (f.pending ≡ []) × (is_closed after.rest before faults ≡ true)
closed_same reader f now gave start after before faults h read same ended =
    let none : length after.rest ≡ 0 = ap length (read.ended ended) in
    (h.nothing (sym h.closed ∙ ended), grind (arith, nat_tests))

-- a fault leaves the text open
pub open_after : (rest : List ℕ) (before faults : ℕ) → before < faults → is_closed rest before faults ≡ false
open_after rest before faults rose =
    let other : (faults == before) ≡ false = grind (arith, nat_tests) in
    rw other (elim (length rest == 0) as (λ b. (b && false) ≡ false) [ true ↦ refl | false ↦ refl ])

-- what an object tells after a call is told
pub tells_some : {A : Type 0} (o : Option A) (a : A) → o ≡ Some a → IsSome o
tells_some o a tells = rw tells refl

-- the same bytes, closed alike
pub reading_same : (now : Text) (pending : List ℕ) (end : Bool) → pending ≡ [] → end ≡ now.closed → reading (whole_of now pending end) ≡ reading now
reading_same now pending end none same = rw (none, same, append-nil now.bytes) refl

-- what the reader said of a text that isn't open holds of the whole text
pub reading_whole : (now : Text) (pending : List ℕ) (end : Bool) → (now.closed ≡ true → (pending ≡ []) × (end ≡ true)) → ((reading now).ending ≡ Open → ⊥)
    → reading (whole_of now pending end) ≡ reading now
reading_whole now pending end same not_open = by_closed now.bytes now.closed same not_open
  where
    by_closed : (bytes : List ℕ) (closed : Bool) → (closed ≡ true → (pending ≡ []) × (end ≡ true)) → ((reading (record { bytes = bytes; closed = closed })).ending ≡ Open → ⊥)
        → reading (record { bytes = bytes ++ pending; closed = end }) ≡ reading (record { bytes = bytes; closed = closed })
    by_closed bytes true same not_open = let s = same refl in rw (s.0, s.1, append-nil bytes) refl
    by_closed bytes false same not_open = elim (texts_grow bytes pending end) [ inl grown ↦ absurd (not_open grown.0) | inr is ↦ is ]

-- the items of the whole text are those of the reader's text and more
pub items_whole : (now : Text) (pending : List ℕ) (end : Bool) → (now.closed ≡ true → (pending ≡ []) × (end ≡ true))
    → (more : List Given) × ((reading (whole_of now pending end)).items ≡ (reading now).items ++ more)
items_whole now pending end same = by_closed now.bytes now.closed same
  where
    by_closed : (bytes : List ℕ) (closed : Bool) → (closed ≡ true → (pending ≡ []) × (end ≡ true))
        → (more : List Given) × ((reading (record { bytes = bytes ++ pending; closed = end })).items ≡ (reading (record { bytes = bytes; closed = closed })).items ++ more)
    by_closed bytes true same = let s = same refl in ([], rw (s.0, s.1, append-nil bytes) (sym (append-nil _)))
    by_closed bytes false same = elim (texts_grow bytes pending end) [ inl grown ↦ (grown.1.0.items, ap (λ (r : Reading). r.items) grown.1.1) | inr is ↦ ([], ap (λ (r : Reading). r.items) is ∙ sym (append-nil _)) ]

-- the whole log was written
pub whole_log : (files : List (List ℕ)) (crowd : Option (List Simulated)) (frames : ℕ) (got : List Given) (read whole : Reading) (old new : List ℕ) → whole ≡ read → got ≡ read.items → frames ≡ length (frames_of got) → new ≡ old ++ log_in files crowd got
    → IsWhole frames files crowd whole old new
whole_log files crowd frames got read whole old new same all number written = rw (same, ← all) (record { number = number; written = written })

-- the frames of two lists of items
pub frames_append : (xs ys : List Given) → frames_of (xs ++ ys) ≡ frames_of xs ++ frames_of ys
unfolding frames_of
frames_append xs ys = flat_map-append frame_in_item xs ys

-- one frame more
pub frames_more : (got : List Given) (f : Frame) → frames_of (got ++ Whole f ∷ []) ≡ frames_of got ++ f ∷ []
unfolding frames_of
frames_more got f = flat_map-append frame_in_item got (Whole f ∷ [])

-- the header stands first
pub setup_append : (files : List (List ℕ)) (xs ys : List Given) → 0 < length xs → setup_of files (xs ++ ys) ≡ setup_of files xs
unfolding setup_of
setup_append files [] ys some = absurd (omega arith)
setup_append files (Head epoch regions ∷ xs) ys some = refl
setup_append files (Whole frame ∷ xs) ys some = refl

-- and so does what the map refuses
pub refused_append : (files : List (List ℕ)) (xs ys : List Given) → 0 < length xs → refused_read files (xs ++ ys) ≡ refused_read files xs
unfolding refused_read
refused_append files [] ys some = absurd (omega arith)
refused_append files (Head epoch regions ∷ xs) ys some = refl
refused_append files (Whole frame ∷ xs) ys some = refl

-- a header stands where something is refused
pub refused_some : (files : List (List ℕ)) (xs : List Given) (place : ℕ × ℕ) → refused_read files xs ≡ Some place → 0 < length xs
unfolding refused_read
refused_some files [] place is = let wrong : ⊥ = cc in absurd wrong
refused_some files (x ∷ xs) place is = omega arith

-- nothing is refused without a header
pub refused_none : (files : List (List ℕ)) → refused_read files [] ≡ None
unfolding refused_read
refused_none files = refl

-- what the map refuses, by the items that were read
refused_whole : (files : List (List ℕ)) (got : List Given) (read whole : Reading) → whole ≡ read → got ≡ read.items → refused_read files got ≡ None → refused_read files whole.items ≡ None
refused_whole files got read whole same all given = ap (λ (r : Reading). refused_read files r.items) same ∙ sym (ap (refused_read files) all) ∙ given

-- as many frames are run as the text has
pub count_in : (files : List (List ℕ)) (crowd : Option (List Simulated)) (got : List Given) (run : List Frame) → frames_in files crowd got ≡ run → length (frames_of got) ≡ length run
unfolding frames_in
count_in files crowd got run are = sym (run_length (setup_of files got) crowd (frames_of got)) ∙ ap (length {A = Frame}) are

-- a frame as it is run behind those of these items
abbrev pub run_next : List (List ℕ) → Option (List Simulated) → List Given → Frame → Frame
run_next files crowd got f = frame_beside (crowd_behind (setup_of files got) crowd (frames_of got)) f

-- one frame more is run
pub frames_in_more : (files : List (List ℕ)) (crowd : Option (List Simulated)) (got : List Given) (f : Frame) → 0 < length got
    → frames_in files crowd (got ++ Whole f ∷ []) ≡ frames_in files crowd got ++ run_next files crowd got f ∷ []
unfolding frames_in
frames_in_more files crowd got f some = rw (setup_append files got (Whole f ∷ []) some, frames_more got f) (run_more (setup_of files got) crowd (frames_of got) f)

-- the frames of more items
pub frames_in_append : (files : List (List ℕ)) (crowd : Option (List Simulated)) (got rest : List Given) → 0 < length got
    → (more : List Frame) × (frames_in files crowd (got ++ rest) ≡ frames_in files crowd got ++ more)
unfolding frames_in
frames_in_append files crowd got rest some =
    let grown = run_grows (setup_of files got) crowd (frames_of got) (frames_of rest) in
    (grown.0, rw (setup_append files got rest some, frames_append got rest) grown.1)

-- no frames are run where there are none
pub frames_in_none : (files : List (List ℕ)) (crowd : Option (List Simulated)) (got : List Given) → frames_of got ≡ [] → frames_in files crowd got ≡ []
unfolding frames_in
frames_in_none files crowd got none = rw none (run_none (setup_of files got) crowd)

-- the log of one frame more
pub log_in_more : (files : List (List ℕ)) (crowd : Option (List Simulated)) (got : List Given) (f : Frame) → 0 < length got
    → log_in files crowd (got ++ Whole f ∷ []) ≡ log_in files crowd got ++ frame_lines (setup_of files got) (frames_in files crowd got) (run_next files crowd got f)
unfolding log_in
log_in_more files crowd got f some = rw (frames_in_more files crowd got f some, setup_append files got (Whole f ∷ []) some) (log_more (setup_of files got) (frames_in files crowd got) (run_next files crowd got f))

-- the log of no frames
pub log_in_none : (files : List (List ℕ)) (crowd : Option (List Simulated)) (got : List Given) → frames_of got ≡ [] → log_in files crowd got ≡ []
unfolding log_in
log_in_none files crowd got none = rw (frames_in_none files crowd got none) (log_none (setup_of files got))

-- items that were read are a first part of those of the whole text
pub parts_whole : (got : List Given) (rest more all whole : List Given) → all ≡ got ++ rest → whole ≡ all ++ more → whole ≡ got ++ (rest ++ more)
parts_whole got rest more all whole first grown = grown ∙ ap (λ xs. xs ++ more) first ∙ append_assoc got rest more

-- the shelf failed, and the log of all frames was written
pub read_failed : (files : List (List ℕ)) (crowd : Option (List Simulated)) (report : Report) (frames : ℕ) (now whole : Text) (got : List Given) (old new : List ℕ) → report ≡ record { status = statuses.ReadFailed; file = 0; line = 0; reason = 0; frames = frames } → refused_read files got ≡ None
    → reading whole ≡ reading now → got ≡ (reading now).items → answers.More ≡ answer_at_end (reading now).ending → frames ≡ length (frames_of got) → new ≡ old ++ log_in files crowd got
    → Outcome report files crowd whole old new
read_failed files crowd report frames now whole got old new is given same all more number written =
    rw is (
      record { file = refl; line = refl; reason = refl },
      refused_whole files got (reading now) (reading whole) same all given,
      ap (λ (r : Reading). r.ending) same ∙ open_at_more (reading now).ending more,
      whole_log files crowd frames got (reading now) (reading whole) old new same all number written,
    )

-- the scenario ended well, and the log of all frames was written
pub done : (files : List (List ℕ)) (crowd : Option (List Simulated)) (report : Report) (frames : ℕ) (now whole : Text) (got : List Given) (old new : List ℕ) → report ≡ record { status = statuses.Done; file = 0; line = 0; reason = 0; frames = frames } → refused_read files got ≡ None
    → reading whole ≡ reading now → got ≡ (reading now).items → answers.End ≡ answer_at_end (reading now).ending → frames ≡ length (frames_of got) → new ≡ old ++ log_in files crowd got
    → Outcome report files crowd whole old new
done files crowd report frames now whole got old new is given same all end number written =
    rw is (
      record { file = refl; line = refl; reason = refl },
      refused_whole files got (reading now) (reading whole) same all given,
      ap (λ (r : Reading). r.ending) same ∙ ended_at_end (reading now).ending end,
      whole_log files crowd frames got (reading now) (reading whole) old new same all number written,
    )

-- the scenario is refused, and the log of the frames before the bad line was written
pub refused_at : (files : List (List ℕ)) (crowd : Option (List Simulated)) (report : Report) (line reason frames : ℕ) (now whole : Text) (got : List Given) (old new : List ℕ)
    → report ≡ record { status = statuses.ScenarioRefused; file = 0; line = line; reason = reason; frames = frames } → refused_read files got ≡ None
    → reading whole ≡ reading now → got ≡ (reading now).items → answers.Bad line reason ≡ answer_at_end (reading now).ending → frames ≡ length (frames_of got) → new ≡ old ++ log_in files crowd got
    → Outcome report files crowd whole old new
refused_at files crowd report line reason frames now whole got old new is given same all bad number written =
    rw is (refl, refused_whole files got (reading now) (reading whole) same all given, ap (λ (r : Reading). answer_at_end r.ending) same ∙ sym bad, whole_log files crowd frames got (reading now) (reading whole) old new same all number written)

-- the next frame can be run
pub runs_next : (files : List (List ℕ)) (crowd : Option (List Simulated)) (bench : Bench) (got : List Given) (earlier later : List Frame) (f : Frame) → Follows bench (setup_of files got) earlier later → frames_in files crowd got ≡ earlier ++ later
    → CanRun (setup_of files got) (frames_of got) f → (setup : Setup) × (earlier : List Frame) × (later : List Frame) × Follows bench setup earlier later × CanRun setup (earlier ++ later) f
unfolding frames_in
runs_next files crowd bench got earlier later f follows are can =
    (setup_of files got, earlier, later, follows, subst (λ (frames : List Frame). CanRun (setup_of files got) frames f) are (can_run_beside (setup_of files got) crowd (frames_of got) f can))
