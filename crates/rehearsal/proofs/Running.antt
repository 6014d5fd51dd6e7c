-- The run of the frames, at each step.
use Rattle.std.proofs.Common.{◌≡◌, ℕ, ◌+◌, ◌-◌, ◌<◌, ◌≤◌, Bool, true, List, [], ◌∷◌, ◌++◌, length, refl, sym, ◌∙◌, ap, subst, append_assoc, append-nil, length-append, arith, inl, inr, Option, Some, None}
use Rattle.std.specs.Prelude.{slice_index}
use Rattle.std.proofs.lemmas.Bool.Decides.{leb_tells}
use Rattle.fsw_outside.specs.Told.{WhereTold}
use Rattle.fsw_outside.specs.Files.{Content}
use Rattle.packet_log.specs.Blocks.{Waiting, empty_block, tells}
use Rattle.scenario.specs.declared.reader.Reader.{Reader}
use Rattle.scenario.specs.FrameLists.{Frame}
use Rattle.subjects.specs.Plans.{Simulated}
use Rattle.scenario.specs.Texts.{Text, Given, Whole, reading}
use Rattle.frame_exec.specs.Runs.{Setup, log_of}
use Rattle.frame_exec.specs.Crowds.{crowd_behind, frame_beside}
use Rattle.frame_exec.specs.Following.{Follows, IsCutAt}
use Rattle.frame_exec.specs.declared.bench.Bench.{Bench}
use Rattle.rehearsal.specs.declared.report.Report.{Report}
use Rattle.rehearsal.specs.declared.report.Status.TheVariants as statuses
use Rattle.rehearsal.specs.Fed.{Fed}
use Rattle.frame_exec.specs.Beside.{crowd_then}
use Rattle.rehearsal.specs.Text.{Holds, IsRead, IsFedOn, StopsAt}
use Rattle.rehearsal.specs.Outcome.{frames_of, setup_of, refused_read, frames_in, log_in, IsCut, Outcome, ReadsAhead}
use Rattle.rehearsal.specs.Run.{Begins, IsCutShort, HandsOn}
use Rattle.rehearsal.proofs.Ahead.{ahead_by, cut_ahead}
use Rattle.rehearsal.proofs.Beside.{crowd_none, crowd_more}
use Rattle.rehearsal.proofs.Outcomes.{whole_of, frames_more, frames_in_more, frames_in_none, frames_in_append, items_whole, parts_whole, setup_append, refused_append}
use Rattle.fsw_outside.specs.TellingLaws.{told_then, told_map}

-- Each of the frames from the least on was read at most a piece behind the end of its `tick` line.
abbrev pub IsNear : Text → List ℕ → ℕ → ℕ → Type 0
IsNear now pending least frames = (end : Bool) → (now.closed ≡ true → (pending ≡ []) × (end ≡ true)) → (k : ℕ) → least ≤ k → k < frames
    → length (now.bytes ++ pending) ≤ slice_index (reading (record { bytes = now.bytes ++ pending; closed = end })).stops (k + 1) + 4096

-- What a run has come to: the reader gave these items of this text, and the lines of their frames, as they were run, were handed on for the
-- earlier ones, and are with the bench for the later ones. The crowd, which was this one at the beginning, is as they left it.
pub record HasRun (files : List (List ℕ)) (crowd : Option (List Simulated)) (bench : Bench) (behind : Option (List Simulated)) (reader : Reader) (feed : Fed) (frames : ℕ) (now : Text) (got : List Given) : Type 0 where
  pub earlier : List Frame
  pub later : List Frame
  pub holds : Holds reader feed now got
  pub follows : Follows bench (setup_of files got) earlier later
  pub are : frames_in files crowd got ≡ earlier ++ later
  pub left : behind ≡ crowd_behind (setup_of files got) crowd (frames_of got)
  pub given : refused_read files got ≡ None
  pub some : 0 < length got
  pub number : frames ≡ length (frames_of got)
  pub near : IsNear now feed.pending (length earlier) frames

-- nothing was read ahead of no frames
pub none_near : (now : Text) (pending : List ℕ) (frames : ℕ) → IsNear now pending frames frames
none_near now pending frames = λ end same k least within. absurd (omega (arith, least, within))

-- at the beginning
pub has_begun : (files : List (List ℕ)) (crowd : Option (List Simulated)) (bench : Bench) (reader : Reader) (feed : Fed) (text : Text) (gave : List Given) → Holds reader feed text gave → Begins bench files gave
    → HasRun files crowd bench crowd reader feed 0 text gave
has_begun files crowd bench reader feed text gave holds begins = record {
  earlier = [];
  later = [];
  holds = holds;
  follows = begins.follows;
  are = frames_in_none files crowd gave begins.none;
  left = sym (ap (crowd_behind (setup_of files gave) crowd) begins.none ∙ crowd_none (setup_of files gave) crowd);
  given = begins.given;
  some = begins.some;
  number = sym (ap (length {A = Frame}) begins.none);
  near = none_near text feed.pending 0;
}

-- one frame more was run
pub run_after : (files : List (List ℕ)) (crowd behind : Option (List Simulated)) (got : List Given) (f : Frame) (frames : List Frame) → 0 < length got → frames_in files crowd got ≡ frames
    → behind ≡ crowd_behind (setup_of files got) crowd (frames_of got) → frames_in files crowd (got ++ Whole f ∷ []) ≡ frames ++ frame_beside behind f ∷ []
run_after files crowd behind got f frames some are left = frames_in_more files crowd got f some ∙ (λ i. are i ++ frame_beside (sym left i) f ∷ [])

-- and the crowd is as it left it
pub left_after : (files : List (List ℕ)) (crowd behind now : Option (List Simulated)) (got : List Given) (f : Frame) (frames : List Frame) → 0 < length got → frames_in files crowd got ≡ frames
    → behind ≡ crowd_behind (setup_of files got) crowd (frames_of got) → now ≡ crowd_then (setup_of files got) frames (frame_beside behind f) behind
    → now ≡ crowd_behind (setup_of files (got ++ Whole f ∷ [])) crowd (frames_of (got ++ Whole f ∷ []))
unfolding frames_in
left_after files crowd behind now got f frames some are left moved =
    rw (setup_append files got (Whole f ∷ []) some, frames_more got f)
    (moved ∙ (λ i. crowd_then (setup_of files got) (sym are i) (frame_beside (left i) f) (left i)) ∙ sym (crowd_more (setup_of files got) crowd (frames_of got) f))

-- the same bytes were read once some of the pending ones were fed
pub near_fed : (reader : Reader) (feed : Fed) (text now : Text) (gave : List Given) (left : List ℕ) (least frames : ℕ) → Holds reader feed text gave → IsFedOn text feed.pending now left
    → IsNear text feed.pending least frames → IsNear now left least frames
near_fed reader feed text now gave left least frames h fed near = λ end same k some within.
    let before : text.closed ≡ true → (feed.pending ≡ []) × (end ≡ true) = λ closed. (h.nothing (sym h.closed ∙ closed), (same (fed.closed ∙ closed)).1) in
    rw fed.bytes (near end before k some within)

pub read_by : (text now : Text) (pending left : List ℕ) (start after : Content) → IsFedOn text pending now left → (now.closed ≡ true → after.rest ≡ []) → IsRead text pending start after → IsRead now left start after
read_by text now pending left start after fed ended read = record {
  same = read.same;
  parts = read.parts ∙ ap (λ (bytes : List ℕ). bytes ++ after.rest) (sym fed.bytes);
  ended = ended;
}

-- and read still
pub read_still : (text now : Text) (pending left : List ℕ) (start after : Content) → IsFedOn text pending now left → IsRead text pending start after → IsRead now left start after
read_still text now pending left start after fed read = read_by text now pending left start after fed (λ closed. read.ended (sym fed.closed ∙ closed)) read

-- one frame more was given
pub near_more : (now : Text) (got rest : List Given) (f : Frame) (pending : List ℕ) (least frames : ℕ) → (reading now).items ≡ (got ++ Whole f ∷ []) ++ rest → length got ≡ length (frames_of got) + 1
    → frames ≡ length (frames_of got) → StopsAt now (length got) → length pending ≤ 4096 → IsNear now pending least frames → IsNear now pending least (frames + 1)
near_more now got rest f pending least frames items count number stop few near = λ end same k some within.
    elim (leb_tells frames k) [
      | inl there ↦ (
          let is : k ≡ frames = omega (arith, there.1, within) in
          cut_ahead now got rest f pending end k same items count (is ∙ number) stop few)
      | inr before ↦ near end same k some before.1
    ]

-- the output failed in the lines of a frame that was given
pub cut_outcome : (files : List (List ℕ)) (crowd : Option (List Simulated)) (report : Report) (whole : Text) (got rest : List Given) (frames : List Frame) (old new : List ℕ)
    → report ≡ record { status = statuses.WriteFailed; file = 0; line = 0; reason = 0; frames = report.frames } → refused_read files got ≡ None → 0 < length got → (reading whole).items ≡ got ++ rest
    → frames_in files crowd got ≡ frames → IsCutAt (setup_of files got) frames report.frames old new → Outcome report files crowd whole old new
unfolding log_in
cut_outcome files crowd report whole got rest frames old new is given some items are cut =
    let setup : setup_of files (reading whole).items ≡ setup_of files got = ap (setup_of files) items ∙ setup_append files got rest some in
    let grown = frames_in_append files crowd got rest some in
    let parts : IsCut report.frames files crowd (reading whole) old new = record {
      front = cut.front;
      frame = cut.frame;
      more = cut.more ++ grown.0;
      parts = ap (frames_in files crowd) items ∙ grown.1 ∙ ap (λ (fs : List Frame). fs ++ grown.0) (are ∙ cut.parts) ∙ append_assoc cut.front (cut.frame ∷ cut.more) grown.0;
      number = cut.number;
      written = rw setup cut.written;
    } in
    subst (λ (r : Report). Outcome r files crowd whole old new) (sym is) (record { file = refl; line = refl; reason = refl }, ap (refused_read files) items ∙ refused_append files got rest some ∙ given, parts)

-- and at most a piece was read past the end of its `tick` line
pub cut_is_near : (report : Report) (now : Text) (pending : List ℕ) (end : Bool) (least frames : ℕ) → report ≡ record { status = statuses.WriteFailed; file = 0; line = 0; reason = 0; frames = report.frames }
    → (now.closed ≡ true → (pending ≡ []) × (end ≡ true)) → least ≤ report.frames → report.frames < frames → IsNear now pending least frames → ReadsAhead report (record { bytes = now.bytes ++ pending; closed = end })
cut_is_near report now pending end least frames is same some within near = ahead_by report _ (record { bytes = now.bytes ++ pending; closed = end }) is (near end same report.frames some within)

-- a report of lines that were cut off
pub cut_short : (report : Report) (setup : Setup) (earlier later frames : List Frame) (late count : ℕ) (before after : Option (List ℕ))
    → report ≡ record { status = statuses.WriteFailed; file = 0; line = 0; reason = 0; frames = count - late } → count ≡ length (earlier ++ later) → late ≤ length later → count - late < length frames
    → WhereTold before after (λ old new. (start : List ℕ) → old ≡ start ++ log_of setup (earlier ++ later) → IsCutAt setup frames (length (earlier ++ later) - late) start new)
    → IsCutShort report setup (earlier ++ later) frames (length earlier) before after
cut_short report setup earlier later frames late count before after is number few within told =
    subst (λ (r : Report). IsCutShort r setup (earlier ++ later) frames (length earlier) before after) (sym is) (record {
      status = refl;
      least = let all = length-append earlier later in omega (arith, all, number, few);
      within = within;
      cut = rw number told;
    })

-- the log of the frames that were given
pub log_by : (files : List (List ℕ)) (crowd : Option (List Simulated)) (got : List Given) (setup : Setup) (added : List Frame) → setup_of files got ≡ setup → frames_in files crowd got ≡ added → log_in files crowd got ≡ log_of setup added
unfolding log_in
log_by files crowd got setup added same are = rw (same, are) refl

-- the output failed in the lines of a frame that was given
pub cut_ends : (files : List (List ℕ)) (crowd : Option (List Simulated)) (report : Report) (now : Text) (got rest : List Given) (added frames : List Frame) (pending : List ℕ) (end : Bool) (least : ℕ) (old between new : Option (List ℕ))
    → refused_read files got ≡ None → 0 < length got → (reading now).items ≡ got ++ rest → (now.closed ≡ true → (pending ≡ []) × (end ≡ true)) → frames_in files crowd got ≡ frames → IsNear now pending least (length frames)
    → WhereTold old between (λ a b. b ≡ a ++ log_of (setup_of files got) added) → IsCutShort report (setup_of files got) added frames least between new
    → ReadsAhead report (whole_of now pending end) × WhereTold old new (Outcome report files crowd (whole_of now pending end))
cut_ends files crowd report now got rest added frames pending end least old between new given some items closed are near told short =
    let grown = items_whole now pending end closed in
    let whole = parts_whole got rest grown.0 (reading now).items (reading (whole_of now pending end)).items items grown.1 in (
      cut_is_near report now pending end least (length frames) short.status closed short.least short.within near,
      told_then told short.cut (λ a b c written part. cut_outcome files crowd report (whole_of now pending end) got (rest ++ grown.0) frames a c short.status given some whole are (part a written)),
    )

-- All that waited was handed on where reading ended, or the output failed.
pub ends : (files : List (List ℕ)) (crowd : Option (List Simulated)) (result report : Report) (now : Text) (got : List Given) (earlier later : List Frame) (pending : List ℕ) (end : Bool) (old between new : Option (List ℕ))
    → refused_read files got ≡ None → 0 < length got → got ≡ (reading now).items → (now.closed ≡ true → (pending ≡ []) × (end ≡ true)) → frames_in files crowd got ≡ earlier ++ later → IsNear now pending (length earlier) (length (earlier ++ later))
    → WhereTold old between (λ a b. b ≡ a ++ log_in files crowd got) → HandsOn result report (setup_of files got) earlier later between new
    → (result ≡ report → ReadsAhead result (whole_of now pending end) × ((a b : List ℕ) → b ≡ a ++ log_in files crowd got → Outcome result files crowd (whole_of now pending end) a b))
    → ReadsAhead result (whole_of now pending end) × WhereTold old new (Outcome result files crowd (whole_of now pending end))
ends files crowd result report now got earlier later pending end old between new given some all closed are near told hands good = elim hands [
  | inl whole ↦
      let g = good whole.0 in
      (g.0, told_then told whole.1 (λ a b c written same. g.1 a c (same ∙ written)))
  | inr short ↦
      cut_ends files crowd result now got [] (earlier ++ later) (earlier ++ later) pending end (length earlier) old between new given some (sym all ∙ sym (append-nil got)) closed are near
      (told_map told (λ a b written. written ∙ ap (λ (log : List ℕ). a ++ log) (log_by files crowd got _ _ refl are))) short
]

-- what is told beside an empty block is what the sink tells
pub tells_alone : (held : Option (List ℕ)) (block : Waiting) → block ≡ empty_block → tells held block ≡ held
tells_alone held block empty = ap (λ (b : Waiting). tells held b) empty ∙ alone held
  where
    alone : (h : Option (List ℕ)) → tells h empty_block ≡ h
    alone None = refl
    alone (Some bytes) = ap (λ (b : List ℕ). Some b) (append-nil bytes)

pub told_alone : (before held : Option (List ℕ)) (block : Waiting) (P : List ℕ → List ℕ → Type 0) → block ≡ empty_block → WhereTold before (tells held block) P → WhereTold before held P
told_alone before held block P empty told = subst (λ (h : Option (List ℕ)). WhereTold before h P) (tells_alone held block empty) told
