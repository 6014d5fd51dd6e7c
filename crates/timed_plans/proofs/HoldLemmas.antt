-- Lemmas on lines that are held.
use Rattle.std.proofs.Common.{◌≡◌, ℕ, zero, suc, ◌+◌, ◌-◌, ◌<◌, ◌≤◌, Bool, true, false, List, [], ◌∷◌, ◌++◌, map, refl, ap, sym, ◌∙◌, arith, append_assoc, append-nil}
use Rattle.std.specs.Prelude.{if◌then◌else◌, nat_le, codes, decimal}
use Rattle.std.proofs.lemmas.List.{map-append}
use Rattle.std.proofs.lemmas.Simd.{map-map}
use Rattle.std.proofs.lemmas.Bool.Decides.{nat_tests}
use Rattle.row_forms.specs.Rows.{spaced}
use Rattle.plan_text.specs.Lines.{line_text}
use Rattle.timed_plans.specs.declared.heading.Heading.{Heading}
use Rattle.timed_plans.specs.declared.scheduled.ScheduledLine.{ScheduledLine}
use Rattle.timed_plans.specs.Headings.{stepped, frames_in}
use Rattle.timed_plans.specs.Schedules.{Timed, timed, lines_in, spread, app_line, counted_in, LineText, shown, held, held_in, texts_in}

abbrev pub as_text : ℕ → ℕ → List ℕ → LineText
as_text frame number text = record { frame = frame; number = number; text = text }

-- one line more is held
pub line_added : (xs new : List ScheduledLine) (x : ScheduledLine) (text : List ℕ) → new ≡ xs ++ x ∷ [] → x.text.items ≡ text → held_in new ≡ held_in xs ++ record { frame = x.frame; number = x.number; text = text } ∷ []
line_added xs new x text e same =
    ap held_in e ∙ map-append held xs (x ∷ []) ∙ ap (λ (t : List ℕ). held_in xs ++ as_text x.frame x.number t ∷ []) same

-- ---- the frames of a heading

pub stepped_zero : (n step last : ℕ) → stepped 0 n step last ≡ []
unfolding stepped
stepped_zero n step last = refl

pub stepped_more : (k n step last : ℕ) → n ≤ last → stepped (suc k) n step last ≡ n ∷ stepped k (n + step) step last
unfolding stepped
stepped_more k n step last within =
    let t : nat_le n last ≡ true = grind (arith, nat_tests) in
    ap (λ (b : Bool). if b then n ∷ stepped k (n + step) step last else []) t

pub stepped_past : (k n step last : ℕ) → last < n → stepped k n step last ≡ []
unfolding stepped
stepped_past zero n step last past = refl
stepped_past (suc k) n step last past =
    let t : nat_le n last ≡ false = grind (arith, nat_tests) in
    ap (λ (b : Bool). if b then n ∷ stepped k (n + step) step last else []) t

-- one more of the frames that are left
pub each_more : (f : ℕ → LineText) (count d n step last : ℕ) (old mid whole : List LineText) → old ++ map f (stepped (count - d) n step last) ≡ whole → d < count → n ≤ last → mid ≡ old ++ f n ∷ [] → mid ++ map f (stepped (count - (d + 1)) (n + step) step last) ≡ whole
each_more f count d n step last old mid whole is some within added =
    let k : count - d ≡ suc (count - (d + 1)) = omega arith in
    ap (λ (t : List LineText). t ++ map f (stepped (count - (d + 1)) (n + step) step last)) added
    ∙ append_assoc old (f n ∷ []) (map f (stepped (count - (d + 1)) (n + step) step last))
    ∙ ap (λ (ns : List ℕ). old ++ map f ns) (sym (ap (λ (j : ℕ). stepped j n step last) k ∙ stepped_more (count - (d + 1)) n step last within))
    ∙ is

-- none of the frames is left
pub each_past : (f : ℕ → LineText) (count d n step last : ℕ) (old whole : List LineText) → old ++ map f (stepped (count - d) n step last) ≡ whole → last < n → old ≡ whole
each_past f count d n step last old whole is past =
    sym (append-nil old) ∙ ap (λ (ns : List ℕ). old ++ map f ns) (sym (stepped_past (count - d) n step last past)) ∙ is

pub each_done : (f : ℕ → LineText) (count d n step last : ℕ) (old whole : List LineText) → old ++ map f (stepped (count - d) n step last) ≡ whole → count ≤ d → old ≡ whole
each_done f count d n step last old whole is over =
    let z : count - d ≡ 0 = omega (arith, over) in
    sym (append-nil old) ∙ ap (λ (ns : List ℕ). old ++ map f ns) (sym (ap (λ (j : ℕ). stepped j n step last) z ∙ stepped_zero n step last)) ∙ is

-- ---- lines in so many frames

pub lines_shown : (h : Heading) (later number : ℕ) (line : List (List ℕ)) → map shown (lines_in h later number line) ≡ texts_in h later number (line_text line)
lines_shown h later number line = map-map shown (λ n. timed number line (n + later)) (frames_in h)

pub spread_zero : (h : Heading) (number : ℕ) (line : List (List ℕ)) → spread 0 h number line ≡ []
unfolding spread
spread_zero h number line = refl

pub spread_more : (k : ℕ) (h : Heading) (number : ℕ) (line : List (List ℕ)) → spread (suc k) h number line ≡ spread k h number line ++ lines_in h k number line
unfolding spread
spread_more k h number line = refl

pub spread_next : (k : ℕ) (h : Heading) (number : ℕ) (line : List (List ℕ)) (text : List ℕ) (old mid new : List LineText) → text ≡ line_text line → mid ≡ old ++ map shown (spread k h number line) → new ≡ mid ++ texts_in h k number text → new ≡ old ++ map shown (spread (k + 1) h number line)
spread_next k h number line text old mid new same is added =
    let one : k + 1 ≡ suc k = omega arith in
    added
    ∙ ap (λ (t : List LineText). t ++ texts_in h k number text) is
    ∙ append_assoc old (map shown (spread k h number line)) (texts_in h k number text)
    ∙ ap (λ (t : List ℕ). old ++ (map shown (spread k h number line) ++ texts_in h k number t)) same
    ∙ ap (λ (t : List LineText). old ++ (map shown (spread k h number line) ++ t)) (sym (lines_shown h k number line))
    ∙ ap (λ (t : List LineText). old ++ t) (sym (map-append shown (spread k h number line) (lines_in h k number line)))
    ∙ ap (λ (ts : List Timed). old ++ map shown ts) (sym (ap (λ (j : ℕ). spread j h number line) one ∙ spread_more k h number line))

pub spread_none : (h : Heading) (number : ℕ) (line : List (List ℕ)) (old : List LineText) → old ≡ old ++ map shown (spread 0 h number line)
spread_none h number line old = sym (ap (λ (ts : List Timed). old ++ map shown ts) (spread_zero h number line) ∙ append-nil old)

-- ---- counters

pub counted_shown : (h : Heading) (number : ℕ) (name : List ℕ) → map shown (counted_in h number name) ≡ map (λ n. as_text n number (line_text (app_line name (n + 1)))) (frames_in h)
counted_shown h number name = map-map shown (λ n. timed number (app_line name (n + 1)) n) (frames_in h)

-- a counter's line was written
pub app_put : (name : List ℕ) (value : ℕ) (old a b c d e : List ℕ) → a ≡ old ++ codes "app " → b ≡ a ++ name → c ≡ b ++ 32 ∷ [] → d ≡ c ++ decimal value → e ≡ d ++ 10 ∷ [] → e ≡ old ++ line_text (app_line name value)
unfolding spaced
app_put name value old a b c d e p q r s t = simp (t, s, r, q, p, append_assoc, append-nil)
