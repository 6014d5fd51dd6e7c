-- The generated scenario, frame after frame and byte after byte.
use Rattle.std.proofs.Common.{◌≡◌, ◌<◌, ◌≤◌, ◌+◌, ℕ, zero, suc, List, [], ◌++◌, length, take, drop, refl, sym, ap, ◌∙◌, append_assoc, append-nil, length-append, arith}
use Rattle.std.specs.Prelude.{codes}
use Rattle.std.proofs.lemmas.List.{take-append-drop, drop_all, length-take-le}
use Rattle.std.proofs.Math.Seq.{take-append_seam}
use Rattle.scenario.specs.Drill.{draws_of, frame_lines, frames_text, text_left, drill_header, drill_text}

-- one frame is left: its lines, and `end`
pub last_made : (frames left x y : ℕ) (lines : List ℕ) → frames ≡ 1 → left ≡ 0 → lines ≡ frame_lines (draws_of x) ++ codes "end\n" → text_left frames x ≡ lines ++ text_left left y
unfolding text_left frames_text
last_made frames left x y lines one none made =
    rw (one, none, made) (ap (λ (text : List ℕ). text ++ codes "end\n") (append-nil (frame_lines (draws_of x))) ∙ sym (append-nil (frame_lines (draws_of x) ++ codes "end\n")))

-- more than one frame is left: the lines of the first one, and what is left behind it
pub next_made : (frames left x : ℕ) (lines : List ℕ) → frames ≡ left + 1 → 0 < left → lines ≡ frame_lines (draws_of x) → text_left frames x ≡ lines ++ text_left left (draws_of x).x
unfolding text_left frames_text
next_made frames zero x lines one some made = absurd (omega arith)
next_made frames (suc n) x lines one some made =
    let more : frames ≡ suc (suc n) = omega arith in
    rw (more, made) (append_assoc (frame_lines (draws_of x)) (frames_text (suc n) (draws_of x).x) (codes "end\n"))

-- nothing is left behind the last frame
pub none_left : (x : ℕ) → text_left 0 x ≡ []
unfolding text_left
none_left x = refl

-- the whole text is the header and what is left then
pub whole_left : (k : ℕ) → drill_header ++ text_left 2000 k ≡ drill_text k
unfolding text_left drill_text
whole_left k = sym (append_assoc drill_header (frames_text 2000 k) (codes "end\n"))

-- nothing is behind lines that were all handed out
pub all_handed : (lines behind : List ℕ) (at : ℕ) → length lines ≤ at → drop at lines ++ behind ≡ behind
all_handed lines behind at past = ap (λ (bytes : List ℕ). bytes ++ behind) (drop_all at lines past)

-- the first bytes of lines that are new
pub moved_first : (lines behind taken : List ℕ) (count : ℕ) → taken ≡ take count lines → lines ++ behind ≡ taken ++ (drop count lines ++ behind)
moved_first lines behind taken count is =
    ap (λ (bytes : List ℕ). bytes ++ behind) (sym (take-append-drop count lines) ∙ ap (λ (bytes : List ℕ). bytes ++ drop count lines) (sym is)) ∙ append_assoc taken (drop count lines) behind

-- more lines are written behind the bytes that the buffer is filled with
pub filled_more : (text buf new lines behind next : List ℕ) (filled : ℕ) → filled + length lines ≤ length buf
    → text ≡ take filled buf ++ behind → behind ≡ lines ++ next → new ≡ take filled buf ++ (lines ++ drop (filled + length lines) buf)
    → text ≡ take (filled + length lines) new ++ next
filled_more text buf new lines behind next filled room before made written =
    let size : length (take filled buf ++ lines) ≡ filled + length lines = length-append (take filled buf) lines ∙ ap (λ (n : ℕ). n + length lines) (length-take-le filled buf (omega arith)) in
    before ∙ ap (λ (xs : List ℕ). take filled buf ++ xs) made
    ∙ sym (append_assoc (take filled buf) lines next)
    ∙ ap (λ (xs : List ℕ). xs ++ next) (
    sym (take-append_seam (take filled buf ++ lines) (drop (filled + length lines) buf))
    ∙ ap (λ (n : ℕ). take n ((take filled buf ++ lines) ++ drop (filled + length lines) buf)) size
    ∙ ap (take (filled + length lines)) (append_assoc (take filled buf) lines (drop (filled + length lines) buf) ∙ sym written))

-- nothing is left of lines that were handed out
pub none_behind : (lines behind : List ℕ) (at : ℕ) → at ≡ length lines → drop at lines ++ behind ≡ behind
none_behind lines behind at all = all_handed lines behind at (omega (arith, all))
