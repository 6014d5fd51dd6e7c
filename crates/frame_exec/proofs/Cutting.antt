-- Where a log is cut whose last bytes wait in a block.
use Rattle.std.proofs.Common.{◌≡◌, ℕ, suc, zero, ◌+◌, ◌-◌, ◌<◌, ◌≤◌, cond, List, [], ◌∷◌, ◌++◌, length, take, get_or, refl, sym, ◌∙◌, ap, subst, arith, append-nil, append_assoc, length-append, inl, inr, Bool, true, false}
use Rattle.std.specs.Prelude.{nat_lt}
use Rattle.std.proofs.lemmas.Bool.Decides.{nat_tests, leb_tells}
use Rattle.std.proofs.Math.Seq.{take-append_seam, take-append-add}
use Rattle.fsw_outside.specs.Written.{AppendsPart}
use Rattle.histories.specs.Words.{along, along_after, joined_along}
use Rattle.histories.proofs.Along.{along_more, along_both, along_none, joined_both}
use Rattle.packet_log.specs.Blocks.{Waiting, Notes, late_in, ends_from, joined}
use Rattle.packet_log.proofs.Blocks.{late_none, late_one, late_both}
use Rattle.packet_log.proofs.Cuts.{cut_in_texts, ends_more}
use Rattle.scenario.specs.FrameLists.{Frame}
use Rattle.frame_runs.specs.Runs.{Setup, frame_lines, log_of}
use Rattle.frame_exec.specs.Following.{lines_behind, IsCutAt}
use Rattle.frame_wires.proofs.Handing.{cut}

-- the lines of one later frame more
pub behind_more : (setup : Setup) (earlier later : List Frame) (frame : Frame) → lines_behind setup earlier (later ++ frame ∷ []) ≡ lines_behind setup earlier later ++ frame_lines setup (earlier ++ later) frame ∷ []
unfolding lines_behind
behind_more setup earlier later frame = along_more (λ (between : List Frame) (f : Frame). frame_lines setup (earlier ++ between) f) later frame

-- no later frames have no lines
pub behind_none : (setup : Setup) (earlier : List Frame) → lines_behind setup earlier [] ≡ []
unfolding lines_behind
behind_none setup earlier = along_none (λ (between : List Frame) (f : Frame). frame_lines setup (earlier ++ between) f)

-- the log of frames is that of the earlier ones, and the lines of the later ones behind it
pub log_behind : (setup : Setup) (earlier later : List Frame) → log_of setup (earlier ++ later) ≡ log_of setup earlier ++ joined (lines_behind setup earlier later)
unfolding lines_behind log_of joined_along
log_behind setup earlier later = joined_both (frame_lines setup) earlier later

-- the lines of the later frames, a frame among them
behind_parts : (setup : Setup) (earlier front : List Frame) (frame : Frame) (more : List Frame)
    → (rest : List (List ℕ)) × (lines_behind setup earlier (front ++ frame ∷ more) ≡ lines_behind setup earlier front ++ frame_lines setup (earlier ++ front) frame ∷ rest)
unfolding lines_behind along along_after
behind_parts setup earlier front frame more =
    let f = λ (between : List Frame) (g : Frame). frame_lines setup (earlier ++ between) g in
    let rest = along_after (λ (between : List Frame) (g : Frame). f (front ++ between) g) (frame ∷ []) more in
    (rest, along_both f front (frame ∷ more) ∙ ap (λ (before : List Frame). along f front ++ frame_lines setup (earlier ++ before) frame ∷ rest) (append-nil front))

length_along : {A B : Type 0} (f : List A → A → B) (before xs : List A) → length (along_after f before xs) ≡ length xs
unfolding along_after
length_along f before [] = refl
length_along f before (x ∷ xs) = ap suc (length_along f (before ++ x ∷ []) xs)

-- a frame has its lines
pub length_behind : (setup : Setup) (earlier later : List Frame) → length (lines_behind setup earlier later) ≡ length later
unfolding lines_behind along
length_behind setup earlier later = length_along (λ (between : List Frame) (f : Frame). frame_lines setup (earlier ++ between) f) [] later

-- what stands behind the end
get_beyond : {A : Type 0} (xs : List A) (k : ℕ) (d : A) → length xs ≤ k → get_or xs k d ≡ d
get_beyond [] k d beyond = refl
get_beyond (x ∷ xs) zero d beyond = absurd (omega (arith, beyond))
get_beyond (x ∷ xs) (suc k) d beyond = get_beyond xs k d (omega (arith, beyond))

-- what stands behind a front
get_seam : {A : Type 0} (front : List A) (x : A) (more : List A) (d : A) → get_or (front ++ x ∷ more) (length front) d ≡ x
get_seam [] x more d = refl
get_seam (y ∷ front) x more d = get_seam front x more d

-- a list, in front of an element, that one, and behind it
pub record Around {A : Type 0} (xs : List A) (k : ℕ) : Type 0 where
  pub front : List A
  pub element : A
  pub more : List A
  pub parts : xs ≡ front ++ element ∷ more
  pub size : k ≡ length front

pub around : {A : Type 0} (xs : List A) (k : ℕ) → k < length xs → Around xs k
around [] k within = absurd (omega (arith, within))
around (x ∷ xs) zero within = record { front = []; element = x; more = xs; parts = refl; size = refl }
around (x ∷ xs) (suc k) within =
    let rest = around xs k (omega (arith, within)) in
    record { front = x ∷ rest.front; element = rest.element; more = rest.more; parts = ap (λ ys. x ∷ ys) rest.parts; size = ap suc rest.size }

-- a text that isn't there isn't cut
cut_within : (texts : List (List ℕ)) (k : ℕ) (old new : List ℕ) → AppendsPart (get_or texts k []) old new → k < length texts
cut_within texts k old new part = elim (leb_tells (length texts) k) [
  | inl beyond ↦ (
      let none : length (get_or texts k []) ≡ 0 = ap (length {A = ℕ}) (get_beyond texts k [] beyond.1) in
      absurd (omega (arith, none, part.short)))
  | inr within ↦ within.1
]

-- A log is cut among the later frames: the sink took so many bytes of their lines.
module _ (setup : Setup) (earlier later : List Frame) (taken : ℕ) (short : taken < length (joined (lines_behind setup earlier later))) (start after : List ℕ)
    (written : after ≡ (start ++ log_of setup earlier) ++ take taken (joined (lines_behind setup earlier later))) where
  abbrev texts : List (List ℕ)
  texts = lines_behind setup earlier later

  abbrev late : ℕ
  late = late_in (ends_from 0 texts) taken

  part : AppendsPart (get_or texts (length texts - late) []) (joined (take (length texts - late) texts)) (take taken (joined texts))
  part =
      let all = cut_in_texts texts [] taken (omega (arith, short)) in
      subst (λ (bytes : List ℕ). AppendsPart (get_or texts (length texts - late) []) (joined (take (length texts - late) texts)) (take taken bytes)) (append-nil (joined texts)) all

  pub cut_among : late ≤ length later → IsCutAt setup (earlier ++ later) (length (earlier ++ later) - late) start after
  cut_among few =
      let size = length_behind setup earlier later in
      let within = cut_within texts (length texts - late) _ _ part in
      let place : length texts - late < length later = omega (arith, size, within) in
      let a = around later (length texts - late) place in
      let lines = behind_parts setup earlier a.front a.element a.more in
      let split : texts ≡ lines_behind setup earlier a.front ++ frame_lines setup (earlier ++ a.front) a.element ∷ lines.0 = ap (lines_behind setup earlier) a.parts ∙ lines.1 in
      let seam : length texts - late ≡ length (lines_behind setup earlier a.front) = a.size ∙ sym (length_behind setup earlier a.front) in
      let cut_lines : get_or texts (length texts - late) [] ≡ frame_lines setup (earlier ++ a.front) a.element =
      ap (λ (xs : List (List ℕ)). get_or xs (length texts - late) []) split ∙ ap (λ (n : ℕ). get_or (lines_behind setup earlier a.front ++ frame_lines setup (earlier ++ a.front) a.element ∷ lines.0) n []) seam
      ∙ get_seam (lines_behind setup earlier a.front) (frame_lines setup (earlier ++ a.front) a.element) lines.0 [] in
      let front : take (length texts - late) texts ≡ lines_behind setup earlier a.front =
      ap (take (length texts - late)) split ∙ ap (λ (n : ℕ). take n (lines_behind setup earlier a.front ++ frame_lines setup (earlier ++ a.front) a.element ∷ lines.0)) seam
      ∙ take-append_seam (lines_behind setup earlier a.front) (frame_lines setup (earlier ++ a.front) a.element ∷ lines.0) in
      record {
        front = earlier ++ a.front;
        frame = a.element;
        more = a.more;
        parts = ap (λ (frames : List Frame). earlier ++ frames) a.parts ∙ sym (append_assoc earlier a.front (a.element ∷ a.more));
        number =
            let all = length-append earlier later in
            let some = length-append earlier a.front in
            omega (arith, all, some, a.size, size, few);
        written = record {
          count = part.count;
          short = let same = ap (length {A = ℕ}) cut_lines in omega (arith, part.short, same);
          appended =
              written ∙ ap (λ (bytes : List ℕ). (start ++ log_of setup earlier) ++ bytes) part.appended
              ∙ ap (λ (xs : List (List ℕ)). (start ++ log_of setup earlier) ++ (joined xs ++ take part.count (get_or texts (length texts - late) []))) front
              ∙ ap (λ (bytes : List ℕ). (start ++ log_of setup earlier) ++ (joined (lines_behind setup earlier a.front) ++ take part.count bytes)) cut_lines
              ∙ sym (append_assoc (start ++ log_of setup earlier) (joined (lines_behind setup earlier a.front)) (take part.count (frame_lines setup (earlier ++ a.front) a.element)))
              ∙ ap (λ (bytes : List ℕ). bytes ++ take part.count (frame_lines setup (earlier ++ a.front) a.element))
              (append_assoc start (log_of setup earlier) (joined (lines_behind setup earlier a.front)) ∙ ap (λ (bytes : List ℕ). start ++ bytes) (sym (log_behind setup earlier a.front)));
        };
      }

-- some texts are late where the sink didn't take all of them
pub late_some : (texts : List (List ℕ)) (taken : ℕ) → taken < length (joined texts) → 0 < late_in (ends_from 0 texts) taken
late_some texts taken short =
    let within = cut_within texts (length texts - late_in (ends_from 0 texts) taken) _ _ (cut_in_texts texts [] taken (omega (arith, short))) in
    omega (arith, within)

-- no more ends are late than there are
late_few : (ends : List ℕ) (taken : ℕ) → late_in ends taken ≤ length ends
late_few [] taken = let none = late_none taken in omega (arith, none)
late_few (end ∷ ends) taken =
    let rest = late_few ends taken in
    let one = late_one end taken ends in
    let small = at_most_one (nat_lt taken end) in
    omega (arith, rest, one, small)
  where
    at_most_one : (b : Bool) → cond {A = ℕ} b 1 0 ≤ 1
    at_most_one b = elim b as (λ c. cond {A = ℕ} c 1 0 ≤ 1) [ true ↦ omega arith | false ↦ omega arith ]

length_ends : (start : ℕ) (texts : List (List ℕ)) → length (ends_from start texts) ≡ length texts
unfolding ends_from
length_ends start [] = refl
length_ends start (text ∷ texts) = ap suc (length_ends (start + length text) texts)

-- so many of the later frames have lines that the sink didn't take whole
pub late_later : (setup : Setup) (earlier later : List Frame) (taken : ℕ) → late_in (ends_from 0 (lines_behind setup earlier later)) taken ≤ length later
late_later setup earlier later taken =
    let few = late_few (ends_from 0 (lines_behind setup earlier later)) taken in
    let ends = length_ends 0 (lines_behind setup earlier later) in
    let size = length_behind setup earlier later in
    omega (arith, few, ends, size)

-- What waits of the later frames' lines was cut off.
pub cut_waiting : (setup : Setup) (earlier later : List Frame) (block : Waiting) (start before after : List ℕ)
    → Notes (ends_from 0 (lines_behind setup earlier later)) (length (joined (lines_behind setup earlier later))) block → 0 < length block.bytes
    → before ≡ start ++ log_of setup (earlier ++ later) → after ++ block.bytes ≡ before
    → IsCutAt setup (earlier ++ later) (length (earlier ++ later) - late_in (ends_from 0 (lines_behind setup earlier later)) (length (joined (lines_behind setup earlier later)) - length block.bytes)) start after
cut_waiting setup earlier later block start before after notes left log told =
    let all = joined (lines_behind setup earlier later) in
    let few : length block.bytes ≤ length all = omega (arith, notes.size) in
    let whole : take (length all) all ≡ all = take_whole all in
    let same : after ++ block.bytes ≡ (start ++ log_of setup earlier) ++ take (length all) all =
    told ∙ log ∙ ap (λ (bytes : List ℕ). start ++ bytes) (log_behind setup earlier later) ∙ sym (append_assoc start (log_of setup earlier) all) ∙ ap (λ (bytes : List ℕ). (start ++ log_of setup earlier) ++ bytes) (sym whole) in
    let taken = cut all (start ++ log_of setup earlier) after block.bytes (length all) (omega arith) few same in
    cut_among setup earlier later (length all - length block.bytes) (omega (arith, left, few)) start after taken (late_later setup earlier later (length all - length block.bytes))
  where
    take_whole : (xs : List ℕ) → take (length xs) xs ≡ xs
    take_whole xs = ap (take (length xs)) (sym (append-nil xs)) ∙ take-append_seam xs []

-- one text more is late where the sink didn't take all of it
late_with : (texts : List (List ℕ)) (text : List ℕ) (taken : ℕ) → taken < length (joined (texts ++ text ∷ [])) → late_in (ends_from 0 (texts ++ text ∷ [])) taken ≡ late_in (ends_from 0 texts) taken + 1
late_with texts text taken short =
    let end = 0 + length (joined (texts ++ text ∷ [])) in
    let behind : nat_lt taken end ≡ true = grind (arith, nat_tests) in
    ap (λ (ends : List ℕ). late_in ends taken) (ends_more texts 0 text) ∙ late_both (ends_from 0 texts) (end ∷ []) taken
    ∙ ap (λ (n : ℕ). late_in (ends_from 0 texts) taken + n) (late_one end taken [] ∙ ap (λ (b : Bool). cond {A = ℕ} b 1 0 + late_in [] taken) behind ∙ ap (λ (n : ℕ). 1 + n) (late_none taken))

-- A frame's lines couldn't all be put behind those that wait.
pub cut_adding : (setup : Setup) (earlier later : List Frame) (frame : Frame) (block : Waiting) (count : ℕ) (start before after : List ℕ)
    → Notes (ends_from 0 (lines_behind setup earlier later)) (length (joined (lines_behind setup earlier later)) + count) block → count ≤ length (frame_lines setup (earlier ++ later) frame)
    → 0 < length block.bytes → before ≡ start ++ log_of setup (earlier ++ later) → after ++ block.bytes ≡ before ++ take count (frame_lines setup (earlier ++ later) frame)
    → IsCutAt setup ((earlier ++ later) ++ frame ∷ []) (length (earlier ++ later) - late_in (ends_from 0 (lines_behind setup earlier later)) (length (joined (lines_behind setup earlier later)) + count - length block.bytes)) start after
cut_adding setup earlier later frame block count start before after notes within left log told =
    let texts = lines_behind setup earlier later in
    let lines = frame_lines setup (earlier ++ later) frame in
    let all = joined texts in
    let few : length block.bytes ≤ length all + count = omega (arith, notes.size) in
    let more : joined (lines_behind setup earlier (later ++ frame ∷ [])) ≡ all ++ lines = ap joined (behind_more setup earlier later frame) ∙ joined_more texts lines in
    let size : length (joined (lines_behind setup earlier (later ++ frame ∷ []))) ≡ length all + length lines = ap (length {A = ℕ}) more ∙ length-append all lines in
    let same : after ++ block.bytes ≡ (start ++ log_of setup earlier) ++ take (length all + count) (all ++ lines) =
    told ∙ ap (λ (bytes : List ℕ). bytes ++ take count lines) (log ∙ ap (λ (bytes : List ℕ). start ++ bytes) (log_behind setup earlier later) ∙ sym (append_assoc start (log_of setup earlier) all))
    ∙ append_assoc (start ++ log_of setup earlier) all (take count lines) ∙ ap (λ (bytes : List ℕ). (start ++ log_of setup earlier) ++ bytes) (sym (take-append-add all lines count)) in
    let long = length-append all lines in
    let taken = cut (all ++ lines) (start ++ log_of setup earlier) after block.bytes (length all + count) (omega (arith, long, within)) few same in
    let short : length all + count - length block.bytes < length (joined (lines_behind setup earlier (later ++ frame ∷ []))) = omega (arith, size, within, left, few) in
    let one : late_in (ends_from 0 (lines_behind setup earlier (later ++ frame ∷ []))) (length all + count - length block.bytes) ≡ late_in (ends_from 0 texts) (length all + count - length block.bytes) + 1 =
    ap (λ (ts : List (List ℕ)). late_in (ends_from 0 ts) (length all + count - length block.bytes)) (behind_more setup earlier later frame)
    ∙ late_with texts lines (length all + count - length block.bytes) (subst (λ (ts : List (List ℕ)). length all + count - length block.bytes < length (joined ts)) (behind_more setup earlier later frame) short) in
    let there : IsCutAt setup (earlier ++ (later ++ frame ∷ [])) (length (earlier ++ (later ++ frame ∷ [])) - late_in (ends_from 0 (lines_behind setup earlier (later ++ frame ∷ []))) (length all + count - length block.bytes)) start after =
    cut_among setup earlier (later ++ frame ∷ []) (length all + count - length block.bytes) short start after
    (taken ∙ ap (λ (bytes : List ℕ). (start ++ log_of setup earlier) ++ take (length all + count - length block.bytes) bytes) (sym more))
    (late_later setup earlier (later ++ frame ∷ []) (length all + count - length block.bytes)) in
    let frames = append_assoc earlier later (frame ∷ []) in
    let sizes = ap (length {A = Frame}) (sym frames) ∙ length-append (earlier ++ later) (frame ∷ []) in
    let place : length (earlier ++ (later ++ frame ∷ [])) - late_in (ends_from 0 (lines_behind setup earlier (later ++ frame ∷ []))) (length all + count - length block.bytes)
    ≡ length (earlier ++ later) - late_in (ends_from 0 texts) (length all + count - length block.bytes) = omega (arith, one, sizes) in
    subst (λ (n : ℕ). IsCutAt setup ((earlier ++ later) ++ frame ∷ []) n start after) place
    (subst (λ (fs : List Frame). IsCutAt setup fs (length (earlier ++ (later ++ frame ∷ [])) - late_in (ends_from 0 (lines_behind setup earlier (later ++ frame ∷ []))) (length all + count - length block.bytes)) start after) (sym frames) there)
  where
    joined_more : (ts : List (List ℕ)) (t : List ℕ) → joined (ts ++ t ∷ []) ≡ joined ts ++ t
    joined_more [] t = append-nil t
    joined_more (s ∷ ts) t = ap (λ (bytes : List ℕ). s ++ bytes) (joined_more ts t) ∙ sym (append_assoc s (joined ts) t)
