-- A bench whose lines may wait, at one more frame and once they were handed on.
use Rattle.std.proofs.Common.{◌≡◌, ℕ, ◌+◌, ◌-◌, ◌<◌, ◌≤◌, Bool, true, false, List, [], ◌∷◌, ◌++◌, length, take, sym, ◌∙◌, ap, subst, append-nil, append_assoc, length-append, zero-add, arith, Option, Some}
use Rattle.std.specs.Prelude.{Result, Ok, Err, OnErr, MatchResult}
use Rattle.std.proofs.Math.Seq.{take-append_seam}
use Rattle.std.proofs.lemmas.Bool.{false≢true}
use Rattle.fsw_outside.specs.Told.{WhereTold}
use Rattle.packet_log.specs.Blocks.{Waiting, Notes, Puts, empty_block, late_in, ends_from, joined, tells}
use Rattle.packet_log.proofs.Cuts.{ends_none, ends_more}
use Rattle.scenario.specs.FrameLists.{Frame}
use Rattle.frame_exec.specs.declared.applications.TheConstants.{EVENTS_ROOM}
use Rattle.frame_exec.specs.declared.bench.Bench.{Bench}
use Rattle.fsw_outside.specs.TellingLaws.{told_then}
use Rattle.frame_runs.specs.Runs.{Setup, State, run_of, frame_lines, log_of}
use Rattle.app_suite.specs.Jobs.{jobs_of}
use Rattle.frame_exec.specs.Standing.{Has, IsReady, IsNoted, Stands, has_failed}
use Rattle.frame_exec.specs.Following.{lines_behind, Follows, IsCutAt, Adds}
use Rattle.frame_wires.proofs.Handing.{notes_begin}
use Rattle.frame_exec.proofs.Cutting.{behind_more, behind_none, late_later, late_some, cut_adding, cut_waiting}

-- where it isn't noted that a bench is idle, what is noted holds
pub not_noted : {A : Type 0} (idle : Bool) → idle ≡ false → idle ≡ true → A
not_noted idle none noted = absurd (false≢true (sym none ∙ noted))

-- nothing waits where no later frames are
nothing_noted : (setup : Setup) (earlier : List Frame) → Notes (ends_from 0 (lines_behind setup earlier [])) (length (joined (lines_behind setup earlier []))) empty_block
nothing_noted setup earlier = rw (behind_none setup earlier, ends_none 0) notes_begin

-- the lines that wait are no part of what a run has come to
pub has_beside : (b : Bench) (block : Waiting) (jobs : b.apps.crew.jobs ≡ jobs_of b.wires.bus.watched) (there : b.apps.lc.there ≡ b.wires.bus.watched) (told : b.apps.activations.room ≡ EVENTS_ROOM) (s : State) → Has b s → Has (record b { lines = record b.lines { block = block }; manned = jobs; there = there; activations_room = told }) s
has_beside b block jobs there told s has = record {
  number = has.number;
  tables = has.tables;
  apps = record { hs = has.apps.hs; cs = has.apps.cs; sc = has.apps.sc; mm = has.apps.mm; md = has.apps.md; lc = has.apps.lc };
  pipes = has.pipes;
  made = has.made;
  memory = has.memory;
}

pub ready_beside : (b : Bench) (block : Waiting) (jobs : b.apps.crew.jobs ≡ jobs_of b.wires.bus.watched) (there : b.apps.lc.there ≡ b.wires.bus.watched) (told : b.apps.activations.room ≡ EVENTS_ROOM) → IsReady b → IsReady (record b { lines = record b.lines { block = block }; manned = jobs; there = there; activations_room = told })
ready_beside b block jobs there told ready = record { sc = ready.sc; md = ready.md; given = ready.given }

-- a bench whose block is empty stands for all frames as earlier ones
pub begins_behind : (b : Bench) (setup : Setup) (frames : List Frame) → b.epoch ≡ setup.epoch → b.tables.files ≡ setup.files → has_failed b ≡ false → Has b (run_of setup frames) → IsReady b → IsNoted b → b.lines.block ≡ empty_block → Follows b setup frames []
begins_behind b setup frames epoch files well has ready idle empty = record {
  epoch = epoch;
  files = files;
  well = well;
  has = subst (λ (fs : List Frame). Has b (run_of setup fs)) (sym (append-nil frames)) has;
  ready = ready;
  idle = idle;
  notes = subst (Notes (ends_from 0 (lines_behind setup frames [])) (length (joined (lines_behind setup frames [])))) (sym empty) (nothing_noted setup frames);
}

-- a bench that stands for frames follows them
pub standing_follows : (b : Bench) (setup : Setup) (frames : List Frame) → Stands b setup frames → Follows b setup frames []
standing_follows b setup frames stands = begins_behind b setup frames stands.epoch stands.files stands.well stands.has stands.ready stands.idle stands.waits

-- the ends and the size of the lines, with one later frame more
pub notes_behind : (setup : Setup) (earlier later : List Frame) (frame : Frame) (block : Waiting)
    → Notes (ends_from 0 (lines_behind setup earlier later) ++ (length (joined (lines_behind setup earlier later)) + length (frame_lines setup (earlier ++ later) frame)) ∷ [])
    (length (joined (lines_behind setup earlier later)) + length (frame_lines setup (earlier ++ later) frame)) block
    → Notes (ends_from 0 (lines_behind setup earlier (later ++ frame ∷ []))) (length (joined (lines_behind setup earlier (later ++ frame ∷ [])))) block
notes_behind setup earlier later frame block notes =
    let texts = lines_behind setup earlier later in
    let lines = frame_lines setup (earlier ++ later) frame in
    let more : length (joined (texts ++ lines ∷ [])) ≡ length (joined texts) + length lines = ap (length {A = ℕ}) (joined_more texts lines) ∙ length-append (joined texts) lines in
    let ends : ends_from 0 (texts ++ lines ∷ []) ≡ ends_from 0 texts ++ (length (joined texts) + length lines) ∷ [] =
    ends_more texts 0 lines ∙ ap (λ (n : ℕ). ends_from 0 texts ++ n ∷ []) (zero-add (length (joined (texts ++ lines ∷ []))) ∙ more) in
    subst (λ (ts : List (List ℕ)). Notes (ends_from 0 ts) (length (joined ts)) block) (sym (behind_more setup earlier later frame))
    (rw (ends, more) notes)
  where
    joined_more : (ts : List (List ℕ)) (t : List ℕ) → joined (ts ++ t ∷ []) ≡ joined ts ++ t
    joined_more [] t = append-nil t
    joined_more (s ∷ ts) t = ap (λ (bytes : List ℕ). s ++ bytes) (joined_more ts t) ∙ sym (append_assoc s (joined ts) t)

-- what is told beside what waits, by what the sink tells
pub beside : (held : Option (List ℕ)) (block : Waiting) (after : List ℕ) → held ≡ Some after → tells held block ≡ Some (after ++ block.bytes)
beside held block after is = ap (λ (h : Option (List ℕ)). tells h block) is

-- a part of a text was put, and bytes wait
pub adds_part : {E : Type 0} (error : E) (text : List ℕ) (old new : Waiting) (before after : Option (List ℕ)) → Puts (Err error) text old new before after → 0 < length new.bytes → Adds (Err error) text old new before after
adds_part error text old new before after puts left = record { count = puts.count; size = (omega (arith, puts.size), left); notes = puts.notes; told = puts.told }

-- a text was put, and then its end was noted, or that failed
pub adds_marked : {E : Type 0} (result : Result Unit E) (text : List ℕ) (old middle new : Waiting) (start between end : Option (List ℕ)) → Puts {E = E} (Ok tt) text old middle start between
    → WhereTold (tells between middle) (tells end new) (λ before after. after ≡ before)
    → ((ends : List ℕ) (given : ℕ) → Notes ends given middle → MatchResult result (λ _. Notes (ends ++ given ∷ []) given new) (λ _. Notes ends given new)) → OnErr result (0 < length new.bytes)
    → Adds result text old new start end
adds_marked (Ok done) text old middle new start between end puts told marked left = record {
  count = puts.count;
  size = puts.size;
  notes = λ ends given noted. marked ends (given + puts.count) (puts.notes ends given noted);
  told = told_then puts.told told (λ before middle after first second. second ∙ first);
}
adds_marked (Err error) text old middle new start between end puts told marked left = record {
  count = puts.count;
  size = (omega (arith, puts.size), left);
  notes = λ ends given noted. marked ends (given + puts.count) (puts.notes ends given noted);
  told = told_then puts.told told (λ before middle after first second. second ∙ first);
}

-- one later frame more, whose lines were put behind those that wait
pub follows_next : {E : Type 0} (b : Bench) (setup : Setup) (earlier later : List Frame) (frame : Frame) (text : List ℕ) (old new : Waiting) (before after : Option (List ℕ)) → b.epoch ≡ setup.epoch → b.tables.files ≡ setup.files → has_failed b ≡ false
    → Has b (run_of setup ((earlier ++ later) ++ frame ∷ [])) → IsReady b → IsNoted b → b.lines.block ≡ new → text ≡ frame_lines setup (earlier ++ later) frame
    → Notes (ends_from 0 (lines_behind setup earlier later)) (length (joined (lines_behind setup earlier later))) old → Adds {E = E} (Ok tt) text old new before after → Follows b setup earlier (later ++ frame ∷ [])
follows_next b setup earlier later frame text old new before after epoch files well has ready idle same lines notes adds =
    let size : adds.count ≡ length (frame_lines setup (earlier ++ later) frame) = adds.size ∙ ap (length {A = ℕ}) lines in
    let given = length (joined (lines_behind setup earlier later)) in
    let ends = ends_from 0 (lines_behind setup earlier later) in
    let noted : Notes (ends ++ (given + length (frame_lines setup (earlier ++ later) frame)) ∷ []) (given + length (frame_lines setup (earlier ++ later) frame)) new =
    subst (λ (n : ℕ). Notes (ends ++ (given + n) ∷ []) (given + n) new) size (adds.notes ends given notes) in
    record {
      epoch = epoch;
      files = files;
      well = well;
      has = subst (λ (frames : List Frame). Has b (run_of setup frames)) (append_assoc earlier later (frame ∷ [])) has;
      ready = ready;
      idle = idle;
      notes = subst (Notes (ends_from 0 (lines_behind setup earlier (later ++ frame ∷ []))) (length (joined (lines_behind setup earlier (later ++ frame ∷ []))))) (sym same) (notes_behind setup earlier later frame new noted);
    }

-- how many of the later frames aren't whole in the sink, by all that is noted of a block
abbrev pub IsLate : ℕ → Waiting → Type 0
IsLate late block = (ends : List ℕ) (given : ℕ) → Notes ends given block → late ≡ late_in ends (given - length block.bytes)

-- the lines of one frame more couldn't all be put
pub cut_added : {E : Type 0} (error : E) (setup : Setup) (earlier later : List Frame) (frame : Frame) (text : List ℕ) (old new : Waiting) (before after : Option (List ℕ)) (late : ℕ)
    → text ≡ frame_lines setup (earlier ++ later) frame → Notes (ends_from 0 (lines_behind setup earlier later)) (length (joined (lines_behind setup earlier later))) old
    → Adds (Err error) text old new before after → IsLate late new
    → (late ≤ length later) × WhereTold (tells before old) after (λ a b. (start : List ℕ) → a ≡ start ++ log_of setup (earlier ++ later) → IsCutAt setup ((earlier ++ later) ++ frame ∷ []) (length (earlier ++ later) - late) start b)
cut_added error setup earlier later frame text old new before after late lines notes adds is_late =
    let noted = adds.notes _ _ notes in
    let same = is_late _ _ noted in
    let within : adds.count ≤ length (frame_lines setup (earlier ++ later) frame) = subst (λ (bytes : List ℕ). adds.count ≤ length bytes) lines adds.size.0 in (
      subst (λ (n : ℕ). n ≤ length later) (sym same) (late_later setup earlier later _),
      λ b is.
          let told = adds.told (b ++ new.bytes) (beside after new b is) in (
            told.0,
            told.1,
            λ start log.
                subst (λ (n : ℕ). IsCutAt setup ((earlier ++ later) ++ frame ∷ []) (length (earlier ++ later) - n) start b) (sym same)
                (cut_adding setup earlier later frame new adds.count start told.0 b noted within adds.size.1 log (told.2 ∙ ap (λ (bytes : List ℕ). told.0 ++ take adds.count bytes) lines)),
          ),
    )

-- what waits couldn't all be handed on
pub cut_flushed : (setup : Setup) (earlier later : List Frame) (old new : Waiting) (before after : Option (List ℕ)) (late : ℕ)
    → Notes (ends_from 0 (lines_behind setup earlier later)) (length (joined (lines_behind setup earlier later))) new → 0 < length new.bytes
    → WhereTold (tells before old) (tells after new) (λ a b. b ≡ a) → IsLate late new
    → (0 < late) × (late ≤ length later) × WhereTold (tells before old) after (λ a b. (start : List ℕ) → a ≡ start ++ log_of setup (earlier ++ later) → IsCutAt setup (earlier ++ later) (length (earlier ++ later) - late) start b)
cut_flushed setup earlier later old new before after late notes left told is_late =
    let same = is_late _ _ notes in (
      subst (λ (n : ℕ). 0 < n) (sym same) (late_some (lines_behind setup earlier later) _ (omega (arith, left, notes.size))),
      subst (λ (n : ℕ). n ≤ length later) (sym same) (late_later setup earlier later _),
      λ b is.
          let there = told (b ++ new.bytes) (beside after new b is) in (
            there.0,
            there.1,
            λ start log.
                subst (λ (n : ℕ). IsCutAt setup (earlier ++ later) (length (earlier ++ later) - n) start b) (sym same)
                (cut_waiting setup earlier later new start there.0 b notes left log there.2),
          ),
    )

-- what is told once one frame more was added
pub told_added : {E : Type 0} (text lines : List ℕ) (start old middle new : Waiting) (before after : Option (List ℕ)) → text ≡ lines → old ≡ start → new ≡ middle → Adds {E = E} (Ok tt) text old middle before after
    → WhereTold (tells before start) (tells after new) (λ a b. b ≡ a ++ lines)
told_added text lines start old middle new before after is same kept adds = λ b told.
    let there = adds.told b (sym (ap (tells after) kept) ∙ told) in (
      there.0,
      ap (tells before) (sym same) ∙ there.1,
      there.2 ∙ ap (λ (n : ℕ). there.0 ++ take n text) adds.size ∙ ap (λ (bytes : List ℕ). there.0 ++ bytes) (take_whole text ∙ is),
    )
  where
    take_whole : (xs : List ℕ) → take (length xs) xs ≡ xs
    take_whole xs = ap (take (length xs)) (sym (append-nil xs)) ∙ take-append_seam xs []
