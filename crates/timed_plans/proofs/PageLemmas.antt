-- Lemmas on lines that are written.
use Rattle.std.proofs.Common.{◌≡◌, ℕ, zero, suc, ◌+◌, ◌-◌, ◌<◌, ◌≤◌, List, [], ◌∷◌, ◌++◌, map, refl, ap, sym, ◌∙◌, arith, length, get_or, drop, drop-cons, append_assoc, append-nil}
use Rattle.std.specs.Prelude.{replicate}
use Rattle.std.specs.List.{flat_map}
use Rattle.std.proofs.lemmas.List.{map-append}
use Rattle.std.proofs.lemmas.List.Concat.{flat_map-append}
use Rattle.timed_plans.specs.declared.scheduled.ScheduledLine.{ScheduledLine}
use Rattle.timed_plans.specs.Schedules.{LineText, PageText, held, held_in}
use Rattle.timed_plans.specs.Pages.{Row, row, with_rows, tick_row, end_row, row_of, merged}

texts : List Row → List ℕ
texts rows = flat_map (λ (r : Row). r.text) rows

-- rows behind rows
pub rows_then : (p : PageText) (xs ys : List Row) → with_rows (with_rows p xs) ys ≡ with_rows p (xs ++ ys)
rows_then p xs ys =
    ap (λ (t : List ℕ). record { text = t; numbers = (p.numbers ++ map (λ (r : Row). r.number) xs) ++ map (λ (r : Row). r.number) ys })
    (append_assoc p.text (flat_map (λ (r : Row). r.text) xs) (flat_map (λ (r : Row). r.text) ys) ∙ ap (λ (t : List ℕ). p.text ++ t) (sym (flat_map-append (λ (r : Row). r.text) xs ys)))
    ∙ ap (λ (ns : List ℕ). record { text = p.text ++ flat_map (λ (r : Row). r.text) (xs ++ ys); numbers = ns })
    (append_assoc p.numbers (map (λ (r : Row). r.number) xs) (map (λ (r : Row). r.number) ys) ∙ ap (λ (t : List ℕ). p.numbers ++ t) (sym (map-append (λ (r : Row). r.number) xs ys)))

pub no_rows : (p : PageText) → with_rows p [] ≡ p
no_rows p =
    ap (λ (t : List ℕ). record { text = t; numbers = p.numbers ++ [] }) (append-nil p.text)
    ∙ ap (λ (ns : List ℕ). record { text = p.text; numbers = ns }) (append-nil p.numbers)

-- one row was written
pub row_put : (p : PageText) (number : ℕ) (text : List ℕ) (t ns : List ℕ) → t ≡ p.text ++ text → ns ≡ p.numbers ++ number ∷ [] → record { text = t; numbers = ns } ≡ with_rows p (row number text ∷ [])
row_put p number text t ns e f =
    ap (λ (t : List ℕ). record { text = t; numbers = ns }) (e ∙ ap (λ (t : List ℕ). p.text ++ t) (sym (append-nil text)))
    ∙ ap (λ (ns : List ℕ). record { text = p.text ++ (text ++ []); numbers = ns }) f

ticks_last : (n : ℕ) (r : Row) → replicate (suc n) r ≡ replicate n r ++ r ∷ []
ticks_last zero r = refl
ticks_last (suc n) r = ap (λ (rs : List Row). r ∷ rs) (ticks_last n r)

-- one tick more
pub tick_next : (p q new : PageText) (d number : ℕ) → q ≡ with_rows p (replicate d (tick_row number)) → new ≡ with_rows q (tick_row number ∷ []) → new ≡ with_rows p (replicate (d + 1) (tick_row number))
tick_next p q new d number is put =
    let one : d + 1 ≡ suc d = omega arith in
    put
    ∙ ap (λ (x : PageText). with_rows x (tick_row number ∷ [])) is
    ∙ rows_then p (replicate d (tick_row number)) (tick_row number ∷ [])
    ∙ ap (with_rows p) (sym (ap (λ (k : ℕ). replicate k (tick_row number)) one ∙ ticks_last d (tick_row number)))

pub merged_nil : (come frames number : ℕ) → merged come frames number [] ≡ replicate (frames - come) (tick_row number)
unfolding merged
merged_nil come frames number = refl

pub merged_cons : (come frames number : ℕ) (t : LineText) (more : List LineText) → merged come frames number (t ∷ more) ≡ replicate (t.frame - come) (tick_row number) ++ row_of t ∷ merged t.frame frames number more
unfolding merged
merged_cons come frames number t more = refl

-- one line more of a frame
pub frame_next : (p q r whole : PageText) (come frames number : ℕ) (t : LineText) (more : List LineText) → with_rows p (merged come frames number (t ∷ more)) ≡ whole → q ≡ with_rows p (replicate (t.frame - come) (tick_row number)) → r ≡ with_rows q (row_of t ∷ []) → with_rows r (merged t.frame frames number more) ≡ whole
frame_next p q r whole come frames number t more is ticks put =
    ap (λ (x : PageText). with_rows x (merged t.frame frames number more)) (put ∙ ap (λ (x : PageText). with_rows x (row_of t ∷ [])) ticks)
    ∙ ap (λ (x : PageText). with_rows x (merged t.frame frames number more)) (rows_then p (replicate (t.frame - come) (tick_row number)) (row_of t ∷ []))
    ∙ rows_then p (replicate (t.frame - come) (tick_row number) ++ row_of t ∷ []) (merged t.frame frames number more)
    ∙ ap (with_rows p) (append_assoc (replicate (t.frame - come) (tick_row number)) (row_of t ∷ []) (merged t.frame frames number more))
    ∙ ap (with_rows p) (sym (merged_cons come frames number t more))
    ∙ is

-- all lines of frames were written, then the ticks behind them and the end
pub frames_end : (p q r whole start : PageText) (come frames number : ℕ) (all : List Row) → whole ≡ with_rows start all → with_rows p (merged come frames number []) ≡ whole → q ≡ with_rows p (replicate (frames - come) (tick_row number)) → r ≡ with_rows q (end_row number ∷ []) → r ≡ with_rows start (all ++ end_row number ∷ [])
frames_end p q r whole start come frames number all w is ticks put =
    put
    ∙ ap (λ (x : PageText). with_rows x (end_row number ∷ [])) (ticks ∙ ap (with_rows p) (sym (merged_nil come frames number)) ∙ is ∙ w)
    ∙ rows_then start all (end_row number ∷ [])

-- the lines from place i on
pub lines_from : (lines : List ScheduledLine) (i : ℕ) (x : ScheduledLine) → i < length lines → x ≡ get_or lines i x → held_in (drop i lines) ≡ held x ∷ held_in (drop (i + 1) lines)
lines_from lines i x within is =
    let one : suc i ≡ i + 1 = omega arith in
    ap held_in (drop-cons lines i x within) ∙ ap (λ (y : ScheduledLine). held y ∷ held_in (drop (suc i) lines)) (sym is) ∙ ap (λ (j : ℕ). held x ∷ held_in (drop j lines)) one

pub past_lines : (lines : List ScheduledLine) (i : ℕ) → length lines ≤ i → held_in (drop i lines) ≡ []
past_lines [] zero past = refl
past_lines [] (suc i) past = refl
past_lines (x ∷ xs) zero past = absurd (omega (arith, past))
past_lines (x ∷ xs) (suc i) past = past_lines xs i (omega (arith, past))
