-- Lemmas on lines in the order of their frames.
use Rattle.std.proofs.Common.{◌≡◌, ℕ, zero, suc, ◌+◌, ◌-◌, ◌<◌, ◌≤◌, Bool, true, false, List, [], ◌∷◌, ◌++◌, map, filter, length, get_or, nat_cmp, is_lt, refl, ap, sym, ◌∙◌, arith, append_assoc, suc-le-suc, zero-le, subst}
use Rattle.std.specs.Prelude.{◌==◌, if◌then◌else◌, replicate}
use Rattle.std.specs.List.{AllByRecursion, flat_map}
use Rattle.std.specs.List.Sorted.{ties, IsNonDecreasingBy, IsStableByKey, IsPermutation}
use Rattle.std.proofs.lemmas.Bool.Decides.{nat_tests}
use Rattle.std.proofs.lemmas.List.{map-append}
use Rattle.std.proofs.lemmas.List.Elements.{All-from_recursion, recursion_from_All}
use Rattle.std.proofs.lemmas.List.Sorted.{All-permutation, length_permutation}
use Rattle.row_forms.specs.Rows.{spaced}
use Rattle.table_texts.specs.Lines.{Numbered}
use Rattle.plan_text.specs.Lines.{line_text, text_of, tick, end}
use Rattle.plan_text.proofs.WritingLemmas.{text_nil, text_cons}
use Rattle.timed_plans.specs.declared.scheduled.ScheduledLine.{ScheduledLine}
use Rattle.timed_plans.specs.declared.plan.HeldSchedule.{HeldSchedule}
use Rattle.timed_plans.specs.Schedules.{Timed, Schedule, LineText, PageText, numbered, lines_at, frames_from, scenario_lines, words_of, numbers_of, shown, held, held_in}
use Rattle.timed_plans.specs.Pages.{Row, with_rows, tick_row, end_row, row_of, rows_of, numbered_row, merged}
use Rattle.timed_plans.specs.Checks.{page_of}
use Rattle.timed_plans.specs.Drafts.{Texts, texts_of, held_texts, AreWithin}
use Rattle.timed_plans.proofs.PageLemmas.{rows_then, merged_nil, merged_cons}

-- ---- the lines of a frame

abbrev rows_at : ℕ → List LineText → List Row
rows_at n [] = []
rows_at n (t ∷ more) = if t.frame == n then row_of t ∷ rows_at n more else rows_at n more

abbrev rows_from : ℕ → ℕ → ℕ → List LineText → List Row
rows_from zero n last ts = []
rows_from (suc k) n last ts = (rows_at n ts ++ tick_row last ∷ []) ++ rows_from k (n + 1) last ts

at_shown : (n : ℕ) (ts : List Timed) → rows_at n (map shown ts) ≡ map numbered_row (lines_at n ts)
unfolding lines_at
at_shown n [] = refl
at_shown n (t ∷ more) = by (t.frame == n) (at_shown n more) where
  by : (b : Bool) → rows_at n (map shown more) ≡ map numbered_row (lines_at n more) → (if b then row_of (shown t) ∷ rows_at n (map shown more) else rows_at n (map shown more)) ≡ map numbered_row (if b then numbered t ∷ lines_at n more else lines_at n more)
  by true e = ap (λ (rs : List Row). row_of (shown t) ∷ rs) e
  by false e = e

tick_shown : (last : ℕ) → tick_row last ≡ numbered_row (record { number = last; words = tick })
unfolding spaced
tick_shown last = refl

end_shown : (last : ℕ) → end_row last ≡ numbered_row (record { number = last; words = end })
unfolding spaced
end_shown last = refl

frames_shown : (k n last : ℕ) (ts : List Timed) → rows_from k n last (map shown ts) ≡ map numbered_row (frames_from k n last ts)
unfolding frames_from
frames_shown zero n last ts = refl
frames_shown (suc k) n last ts =
    ap (λ (rs : List Row). (rs ++ tick_row last ∷ []) ++ rows_from k (n + 1) last (map shown ts)) (at_shown n ts)
    ∙ ap (λ (r : Row). (map numbered_row (lines_at n ts) ++ r ∷ []) ++ rows_from k (n + 1) last (map shown ts)) (tick_shown last)
    ∙ ap (λ (rs : List Row). (map numbered_row (lines_at n ts) ++ numbered_row (record { number = last; words = tick }) ∷ []) ++ rs) (frames_shown k (n + 1) last ts)
    ∙ ap (λ (rs : List Row). rs ++ map numbered_row (frames_from k (n + 1) last ts)) (sym (map-append numbered_row (lines_at n ts) (record { number = last; words = tick } ∷ [])))
    ∙ sym (map-append numbered_row (lines_at n ts ++ record { number = last; words = tick } ∷ []) (frames_from k (n + 1) last ts))

head_shown : (ts : List Timed) → rows_of (map shown ts) ≡ map numbered_row (map numbered ts)
head_shown [] = refl
head_shown (t ∷ more) = ap (λ (rs : List Row). row_of (shown t) ∷ rs) (head_shown more)

-- ---- what numbered lines are as a page

texts_are : (ls : List Numbered) → flat_map (λ (r : Row). r.text) (map numbered_row ls) ≡ text_of (words_of ls)
texts_are [] = sym text_nil
texts_are (l ∷ more) = ap (λ (t : List ℕ). line_text l.words ++ t) (texts_are more) ∙ sym (text_cons l.words (words_of more))

numbers_are : (ls : List Numbered) → map (λ (r : Row). r.number) (map numbered_row ls) ≡ numbers_of ls
numbers_are [] = refl
numbers_are (l ∷ more) = ap (λ (ns : List ℕ). l.number ∷ ns) (numbers_are more)

page_is : (ls : List Numbered) → with_rows (record { text = []; numbers = [] }) (map numbered_row ls) ≡ record { text = text_of (words_of ls); numbers = numbers_of ls }
page_is ls =
    ap (λ (t : List ℕ). record { text = t; numbers = map (λ (r : Row). r.number) (map numbered_row ls) }) (texts_are ls)
    ∙ ap (λ (ns : List ℕ). record { text = text_of (words_of ls); numbers = ns }) (numbers_are ls)

-- ---- lines that rise

-- the lines stand in the order of their frames, none before frame n, each before frame f
abbrev RisesFrom : ℕ → ℕ → List LineText → Type 0
RisesFrom n f [] = n ≤ f
RisesFrom n f (t ∷ more) = (n ≤ t.frame) × (t.frame < f) × RisesFrom t.frame f more

abbrev AreFrom : ℕ → List LineText → Type 0
AreFrom n [] = Unit {0}
AreFrom n (t ∷ more) = (n ≤ t.frame) × AreFrom n more

from_later : (m n : ℕ) (ts : List LineText) → m ≤ n → AreFrom n ts → AreFrom m ts
from_later m n [] le all = tt
from_later m n (t ∷ more) le all = let h = all.0 in (omega (arith, h), from_later m n more le all.1)

rising_from : (n f : ℕ) (ts : List LineText) → RisesFrom n f ts → AreFrom n ts
rising_from n f [] up = tt
rising_from n f (t ∷ more) up = (up.0, from_later n t.frame more up.0 (rising_from t.frame f more up.2))

-- no line stands in a frame before these
none_at : (m n : ℕ) (ts : List LineText) → m < n → AreFrom n ts → rows_at m ts ≡ []
none_at m n [] before all = refl
none_at m n (t ∷ more) before all =
    let h = all.0 in
    let other : (t.frame == m) ≡ false = grind (arith, nat_tests, h) in
    ap (λ (b : Bool). if b then row_of t ∷ rows_at m more else rows_at m more) other ∙ none_at m n more before all.1

-- frames without lines
skipped : (d k n last : ℕ) (ts : List LineText) → AreFrom (n + d) ts → rows_from (d + k) n last ts ≡ replicate d (tick_row last) ++ rows_from k (n + d) last ts
skipped zero k n last ts all =
    let a : 0 + k ≡ k = omega arith in
    let b : n ≡ n + 0 = omega arith in
    ap (λ (j : ℕ). rows_from j n last ts) a ∙ ap (λ (m : ℕ). rows_from k m last ts) b
skipped (suc d) k n last ts all =
    let a : suc d + k ≡ suc (d + k) = omega arith in
    let b : n + 1 + d ≡ n + suc d = omega arith in
    let before : n < n + suc d = omega arith in
    ap (λ (j : ℕ). rows_from j n last ts) a
    ∙ ap (λ (rs : List Row). (rs ++ tick_row last ∷ []) ++ rows_from (d + k) (n + 1) last ts) (none_at n (n + suc d) ts before all)
    ∙ ap (λ (rs : List Row). tick_row last ∷ rs) (skipped d k (n + 1) last ts (subst (λ (m : ℕ). AreFrom m ts) (sym b) all))
    ∙ ap (λ (m : ℕ). tick_row last ∷ (replicate d (tick_row last) ++ rows_from k m last ts)) b

-- a line of an earlier frame
past_at : (m : ℕ) (t : LineText) (more : List LineText) → t.frame < m → rows_at m (t ∷ more) ≡ rows_at m more
past_at m t more past =
    let other : (t.frame == m) ≡ false = grind (arith, nat_tests) in
    ap (λ (b : Bool). if b then row_of t ∷ rows_at m more else rows_at m more) other

past_from : (k m last : ℕ) (t : LineText) (more : List LineText) → t.frame < m → rows_from k m last (t ∷ more) ≡ rows_from k m last more
past_from zero m last t more past = refl
past_from (suc k) m last t more past =
    let later : t.frame < m + 1 = omega arith in
    ap (λ (rs : List Row). (rs ++ tick_row last ∷ []) ++ rows_from k (m + 1) last (t ∷ more)) (past_at m t more past)
    ∙ ap (λ (rs : List Row). (rows_at m more ++ tick_row last ∷ []) ++ rs) (past_from k (m + 1) last t more later)

-- the first line of a frame
first_from : (k last : ℕ) (t : LineText) (more : List LineText) → rows_from (suc k) t.frame last (t ∷ more) ≡ row_of t ∷ rows_from (suc k) t.frame last more
first_from k last t more =
    let own : (t.frame == t.frame) ≡ true = grind (arith, nat_tests) in
    let past : t.frame < t.frame + 1 = omega arith in
    ap (λ (b : Bool). ((if b then row_of t ∷ rows_at t.frame more else rows_at t.frame more) ++ tick_row last ∷ []) ++ rows_from k (t.frame + 1) last (t ∷ more)) own
    ∙ ap (λ (rs : List Row). row_of t ∷ ((rows_at t.frame more ++ tick_row last ∷ []) ++ rs)) (past_from k (t.frame + 1) last t more past)

-- only ticks
ticks_from : (k n last : ℕ) → rows_from k n last [] ≡ replicate k (tick_row last)
ticks_from zero n last = refl
ticks_from (suc k) n last = ap (λ (rs : List Row). tick_row last ∷ rs) (ticks_from k (n + 1) last)

-- lines that rise are written frame by frame
pub merged_rows : (n f last : ℕ) (ts : List LineText) → RisesFrom n f ts → merged n f last ts ≡ rows_from (f - n) n last ts
merged_rows n f last [] up = merged_nil n f last ∙ sym (ticks_from (f - n) n last)
merged_rows n f last (t ∷ more) up =
    let low = up.0 in
    let high = up.1 in
    let all : f - n ≡ (t.frame - n) + (f - t.frame) = omega (arith, low, high) in
    let here : n + (t.frame - n) ≡ t.frame = omega (arith, low) in
    let one : f - t.frame ≡ suc (f - t.frame - 1) = omega (arith, high) in
    let from : AreFrom t.frame (t ∷ more) = (let same : t.frame ≤ t.frame = omega arith in same, rising_from t.frame f more up.2) in
    merged_cons n f last t more
    ∙ ap (λ (rs : List Row). replicate (t.frame - n) (tick_row last) ++ row_of t ∷ rs) (merged_rows t.frame f last more up.2)
    ∙ ap (λ (k : ℕ). replicate (t.frame - n) (tick_row last) ++ row_of t ∷ rows_from k t.frame last more) one
    ∙ ap (λ (rs : List Row). replicate (t.frame - n) (tick_row last) ++ rs) (sym (first_from (f - t.frame - 1) last t more))
    ∙ ap (λ (k : ℕ). replicate (t.frame - n) (tick_row last) ++ rows_from k t.frame last (t ∷ more)) (sym one)
    ∙ ap (λ (m : ℕ). replicate (t.frame - n) (tick_row last) ++ rows_from (f - t.frame) m last (t ∷ more)) (sym here)
    ∙ sym (skipped (t.frame - n) (f - t.frame) n last (t ∷ more) (subst (λ (m : ℕ). AreFrom m (t ∷ more)) (sym here) from))
    ∙ ap (λ (k : ℕ). rows_from k n last (t ∷ more)) (sym all)

-- ---- a stable sort

same_rows : (k n last : ℕ) (xs ys : List LineText) → ((m : ℕ) → rows_at m xs ≡ rows_at m ys) → rows_from k n last xs ≡ rows_from k n last ys
same_rows zero n last xs ys same = refl
same_rows (suc k) n last xs ys same =
    ap (λ (rs : List Row). (rs ++ tick_row last ∷ []) ++ rows_from k (n + 1) last xs) (same n)
    ∙ ap (λ (rs : List Row). (rows_at n ys ++ tick_row last ∷ []) ++ rs) (same_rows k (n + 1) last xs ys same)

abbrev pub frame_key : ScheduledLine → ℕ
frame_key l = l.frame

abbrev in_frame : ScheduledLine → ScheduledLine → Bool
in_frame = ties (λ x y. is_lt (nat_cmp (frame_key x) (frame_key y)))

tied : (m n : ℕ) → ties (λ x y. is_lt (nat_cmp x y)) m n ≡ (n == m)
tied m n = by (n == m) refl where
  by : (b : Bool) → (n == m) ≡ b → ties (λ x y. is_lt (nat_cmp x y)) m n ≡ b
  by true e = grind (arith, nat_tests)
  by false e = grind (arith, nat_tests)

-- the lines of a frame, by the test of the sort
at_filtered : (x : ScheduledLine) (xs : List ScheduledLine) → rows_at x.frame (held_in xs) ≡ map (λ l. row_of (held l)) (filter (in_frame x) xs)
at_filtered x [] = refl
at_filtered x (y ∷ ys) = by (y.frame == x.frame) (in_frame x y) (tied x.frame y.frame) (at_filtered x ys) where
  by : (b d : Bool) → d ≡ b → rows_at x.frame (held_in ys) ≡ map (λ l. row_of (held l)) (filter (in_frame x) ys) → (if b then row_of (held y) ∷ rows_at x.frame (held_in ys) else rows_at x.frame (held_in ys)) ≡ map (λ l. row_of (held l)) (if d then y ∷ filter (in_frame x) ys else filter (in_frame x) ys)
  by true true same e = ap (λ (rs : List Row). row_of (held y) ∷ rs) e
  by false false same e = e
  by true false same e = absurd (cc)
  by false true same e = absurd (cc)

stable_at : (x : ScheduledLine) (xs ys : List ScheduledLine) → IsStableByKey frame_key nat_cmp xs ys → rows_at x.frame (held_in ys) ≡ rows_at x.frame (held_in xs)
stable_at x xs ys stable = at_filtered x ys ∙ ap (map (λ l. row_of (held l))) (stable x) ∙ sym (at_filtered x xs)

sorted_at : (xs ys : List ScheduledLine) → IsPermutation xs ys → IsStableByKey frame_key nat_cmp xs ys → (m : ℕ) → rows_at m (held_in ys) ≡ rows_at m (held_in xs)
sorted_at [] [] moved stable m = refl
sorted_at [] (y ∷ ys) moved stable m = absurd (let e = length_permutation [] (y ∷ ys) moved in omega (arith, e))
sorted_at (x ∷ xs) ys moved stable m = stable_at (record x { frame = m }) (x ∷ xs) ys stable

-- lines that rise, by their places
sorted_rise : (n f : ℕ) (ys : List ScheduledLine) → n ≤ f → ((j : ℕ) (d : ScheduledLine) → j < length ys → n ≤ (get_or ys j d).frame) → IsNonDecreasingBy frame_key ys → AllByRecursion (λ l. l.frame < f) ys → RisesFrom n f (held_in ys)
sorted_rise n f [] low from up all = low
sorted_rise n f (y ∷ ys) low from up all =
    let high = all.0 in
    (from zero y (suc-le-suc zero-le), high, sorted_rise y.frame f ys (omega (arith, high)) (λ j d lt. up zero (suc j) d zero-le (suc-le-suc lt)) (λ i j d le lt. up (suc i) (suc j) d (suc-le-suc le) (suc-le-suc lt)) all.1)

shown_within : (f : ℕ) (ts : List Timed) → AreWithin f ts → AllByRecursion (λ (t : LineText). t.frame < f) (map shown ts)
shown_within f [] all = tt
shown_within f (t ∷ more) all = (all.0, shown_within f more all.1)

held_within : (f : ℕ) (xs : List ScheduledLine) → AllByRecursion (λ (t : LineText). t.frame < f) (held_in xs) → AllByRecursion (λ (l : ScheduledLine). l.frame < f) xs
held_within f [] all = tt
held_within f (x ∷ xs) all = (all.0, held_within f xs all.1)

within_held : (f : ℕ) (ts : List Timed) (xs : List ScheduledLine) → map shown ts ≡ held_in xs → AreWithin f ts → AllByRecursion (λ (l : ScheduledLine). l.frame < f) xs
within_held f ts xs e all = held_within f xs (subst (AllByRecursion (λ (t : LineText). t.frame < f)) e (shown_within f ts all))

-- ---- the page

-- what is written of sorted lines is the page of their schedule
pub page_written : (s : Schedule) (held_ : HeldSchedule) (ys : List ScheduledLine) (q r page : PageText) → texts_of s ≡ held_texts held_ → AreWithin s.frames s.lines → IsPermutation held_.lines.items ys → IsStableByKey frame_key nat_cmp held_.lines.items ys → IsNonDecreasingBy frame_key ys
    → q ≡ record { text = []; numbers = [] } → r ≡ with_rows q (rows_of (held_in held_.head.items)) → page ≡ with_rows r (merged 0 held_.frames held_.last (held_in ys) ++ end_row held_.last ∷ []) → page ≡ page_of s
page_written s held_ ys q r page same within moved stable up none head lines =
    let heads : map shown s.head ≡ held_in held_.head.items = ap (λ (t : Texts). t.head) same in
    let bodies : map shown s.lines ≡ held_in held_.lines.items = ap (λ (t : Texts). t.lines) same in
    let count : s.frames ≡ held_.frames = ap (λ (t : Texts). t.frames) same in
    let last : s.last ≡ held_.last = ap (λ (t : Texts). t.last) same in
    let few : AllByRecursion (λ (l : ScheduledLine). l.frame < s.frames) ys =
    recursion_from_All (λ (l : ScheduledLine). l.frame < s.frames) ys (All-permutation (λ (l : ScheduledLine). l.frame < s.frames) held_.lines.items ys moved (All-from_recursion (λ (l : ScheduledLine). l.frame < s.frames) held_.lines.items (within_held s.frames s.lines held_.lines.items bodies within))) in
    let rises : RisesFrom 0 s.frames (held_in ys) = sorted_rise 0 s.frames ys zero-le (λ j d lt. zero-le) up few in
    let no_less : s.frames - 0 ≡ s.frames = omega arith in
    let rows : merged 0 s.frames s.last (held_in ys) ≡ map numbered_row (frames_from s.frames 0 s.last s.lines) =
    merged_rows 0 s.frames s.last (held_in ys) rises
    ∙ ap (λ (k : ℕ). rows_from k 0 s.last (held_in ys)) no_less
    ∙ same_rows s.frames 0 s.last (held_in ys) (held_in held_.lines.items) (sorted_at held_.lines.items ys moved stable)
    ∙ ap (rows_from s.frames 0 s.last) (sym bodies)
    ∙ frames_shown s.frames 0 s.last s.lines in
    lines
    ∙ ap (λ (p : PageText). with_rows p (merged 0 held_.frames held_.last (held_in ys) ++ end_row held_.last ∷ [])) (head ∙ ap (λ (p : PageText). with_rows p (rows_of (held_in held_.head.items))) none)
    ∙ rows_then (record { text = []; numbers = [] }) (rows_of (held_in held_.head.items)) (merged 0 held_.frames held_.last (held_in ys) ++ end_row held_.last ∷ [])
    ∙ ap (λ (t : List LineText). with_rows (record { text = []; numbers = [] }) (rows_of t ++ (merged 0 held_.frames held_.last (held_in ys) ++ end_row held_.last ∷ []))) (sym heads)
    ∙ ap (λ (k : ℕ). with_rows (record { text = []; numbers = [] }) (rows_of (map shown s.head) ++ (merged 0 k held_.last (held_in ys) ++ end_row held_.last ∷ []))) (sym count)
    ∙ ap (λ (k : ℕ). with_rows (record { text = []; numbers = [] }) (rows_of (map shown s.head) ++ (merged 0 s.frames k (held_in ys) ++ end_row k ∷ []))) (sym last)
    ∙ ap (λ (rs : List Row). with_rows (record { text = []; numbers = [] }) (rs ++ (merged 0 s.frames s.last (held_in ys) ++ end_row s.last ∷ []))) (head_shown s.head)
    ∙ ap (λ (rs : List Row). with_rows (record { text = []; numbers = [] }) (map numbered_row (map numbered s.head) ++ (rs ++ end_row s.last ∷ []))) rows
    ∙ ap (λ (r : Row). with_rows (record { text = []; numbers = [] }) (map numbered_row (map numbered s.head) ++ (map numbered_row (frames_from s.frames 0 s.last s.lines) ++ r ∷ []))) (end_shown s.last)
    ∙ ap (with_rows (record { text = []; numbers = [] })) (joined (map numbered s.head) (frames_from s.frames 0 s.last s.lines) (record { number = s.last; words = end }))
    ∙ page_is (scenario_lines s) where
      joined : (xs ys : List Numbered) (z : Numbered) → map numbered_row xs ++ (map numbered_row ys ++ numbered_row z ∷ []) ≡ map numbered_row ((xs ++ ys) ++ z ∷ [])
      joined xs ys z =
          sym (append_assoc (map numbered_row xs) (map numbered_row ys) (numbered_row z ∷ []))
          ∙ ap (λ (rs : List Row). rs ++ numbered_row z ∷ []) (sym (map-append numbered_row xs ys))
          ∙ sym (map-append numbered_row (xs ++ ys) (z ∷ []))
