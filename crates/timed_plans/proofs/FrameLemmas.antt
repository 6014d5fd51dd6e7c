-- Lemmas on the frames that a scenario's reader gives.
use Rattle.std.proofs.Common.{◌≡◌, ℕ, zero, suc, ◌+◌, ◌<◌, Bool, true, false, List, [], ◌∷◌, ◌++◌, map, Option, refl, ap, sym, ◌∙◌, arith, append-nil, subst}
use Rattle.std.specs.Prelude.{◌==◌, if◌then◌else◌, Result, Ok, Err}
use Rattle.std.specs.List.{AllByRecursion}
use Rattle.std.proofs.lemmas.Bool.Decides.{nat_tests}
use Rattle.std.proofs.lemmas.List.{map-append}
use Rattle.scenario.specs.FrameLists.{Frame, no_items}
use Rattle.scenario.specs.Texts.{Given, Whole, Ended, reading}
use Rattle.telecommands.specs.declared.command.Command.{Command}
use Rattle.telecommands.specs.Commands.{are_good}
use Rattle.table_texts.specs.Lines.{Numbered}
use Rattle.plan_text.specs.declared.fault.PlanFault.{PlanFault}
use Rattle.plan_text.specs.Lines.{text_of, tick, end}
use Rattle.plan_text.specs.Items.{FrameItem, verb_in, items_by, ticks_by, ticks_in, items_of as line_items}
use Rattle.plan_text.specs.Frames.{sentence_said, with_said, with_items_of, frames_said, head_said}
use Rattle.plan_text.proofs.ItemLemmas.{items_nil, items_cons, ticks_nil, ticks_cons, items_append, tick_verb, end_verb}
use Rattle.plan_text.proofs.MadeLemmas.{AreTextLines, tick_line_is, end_line_is, lines_append}
use Rattle.plan_text.proofs.FrameLemmas.{items_none, items_first, item_of_other, frames_zero, frames_more, frames_past, lines_given}
use Rattle.timed_plans.specs.Schedules.{Timed, numbered, lines_at, frames_from, Schedule, scenario_lines, words_of, timed_items}
use Rattle.timed_plans.specs.Plans.{schedule_said}
use Rattle.timed_plans.specs.Checks.{page_of, read_page, read_schedule, scenario_said}
use Rattle.timed_plans.proofs.CheckLemmas.{page_good}
use Rattle.timed_plans.proofs.GoodLemmas.{IsHead, IsItem, IsItemIn, IsGood, schedule_good}

-- ---- the items of frames, one frame after another

-- the items of a frame
abbrev at_frame : ℕ → List Timed → List FrameItem
at_frame n ts = map (λ (l : Numbered). record { frame = n; line = l.words }) (lines_at n ts)

abbrev in_order : ℕ → ℕ → List Timed → List FrameItem
in_order zero n ts = []
in_order (suc k) n ts = at_frame n ts ++ in_order k (n + 1) ts

items_then : (n : ℕ) (f : Frame) (xs ys : List FrameItem) → with_items_of n f (xs ++ ys) ≡ with_items_of n (with_items_of n f xs) ys
items_then n f [] ys = ap (λ (g : Frame). with_items_of n g ys) (sym (items_none n f))
items_then n f (x ∷ xs) ys =
    items_first n f x (xs ++ ys)
    ∙ items_then n (if x.frame == n then with_said f (sentence_said x.line) else f) xs ys
    ∙ ap (λ (g : Frame). with_items_of n g ys) (sym (items_first n f x xs))

-- items of one other frame
all_other : (n m : ℕ) (f : Frame) (ls : List Numbered) → n < m → with_items_of n f (map (λ (l : Numbered). record { frame = m; line = l.words }) ls) ≡ f
all_other n m f [] before = items_none n f
all_other n m f (l ∷ ls) before =
    let other : (m == n) ≡ false = grind (arith, nat_tests) in
    item_of_other n m f l.words (map (λ (l : Numbered). record { frame = m; line = l.words }) ls) other ∙ all_other n m f ls before

-- frames behind have no items of this one
later_none : (k n m : ℕ) (f : Frame) (ts : List Timed) → n < m → with_items_of n f (in_order k m ts) ≡ f
later_none zero n m f ts before = items_none n f
later_none (suc k) n m f ts before =
    let later : n < m + 1 = omega (arith, before) in
    items_then n f (at_frame m ts) (in_order k (m + 1) ts)
    ∙ ap (λ (g : Frame). with_items_of n g (in_order k (m + 1) ts)) (all_other n m f (lines_at m ts) before)
    ∙ later_none k n (m + 1) f ts later

-- the items of a frame are those that have its number
own_items : (n : ℕ) (f : Frame) (ts : List Timed) → with_items_of n f (at_frame n ts) ≡ with_items_of n f (timed_items ts)
unfolding lines_at
own_items n f [] = refl
own_items n f (t ∷ more) = by (t.frame == n) refl (λ g. own_items n g more) where
  same : (n == n) ≡ true
  same = grind (arith, nat_tests)

  by : (b : Bool) → (t.frame == n) ≡ b → ((g : Frame) → with_items_of n g (at_frame n more) ≡ with_items_of n g (timed_items more)) → with_items_of n f (map (λ (l : Numbered). record { frame = n; line = l.words }) (if b then numbered t ∷ lines_at n more else lines_at n more)) ≡ with_items_of n f (record { frame = t.frame; line = t.line } ∷ timed_items more)
  by true e rest =
      items_first n f (record { frame = n; line = t.line }) (at_frame n more)
      ∙ ap (λ (b : Bool). with_items_of n (if b then with_said f (sentence_said t.line) else f) (at_frame n more)) same
      ∙ rest (with_said f (sentence_said t.line))
      ∙ ap (λ (b : Bool). with_items_of n (if b then with_said f (sentence_said t.line) else f) (timed_items more)) (sym e)
      ∙ sym (items_first n f (record { frame = t.frame; line = t.line }) (timed_items more))
  by false e rest =
      rest f
      ∙ ap (λ (b : Bool). with_items_of n (if b then with_said f (sentence_said t.line) else f) (timed_items more)) (sym e)
      ∙ sym (items_first n f (record { frame = t.frame; line = t.line }) (timed_items more))

-- items of a frame before these
past_items : (k n m : ℕ) (ls : List Numbered) (more : List FrameItem) → n < m → frames_said k m (map (λ (l : Numbered). record { frame = n; line = l.words }) ls ++ more) ≡ frames_said k m more
past_items k n m [] more before = refl
past_items k n m (l ∷ ls) more before =
    frames_past k m n l.words (map (λ (l : Numbered). record { frame = n; line = l.words }) ls ++ more) before ∙ past_items k n m ls more before

-- so many frames are those of the items in the text's order
pub frames_in_order : (k n : ℕ) (ts : List Timed) → frames_said k n (in_order k n ts) ≡ frames_said k n (timed_items ts)
frames_in_order zero n ts = frames_zero n (in_order zero n ts) ∙ sym (frames_zero n (timed_items ts))
frames_in_order (suc k) n ts =
    let next : n < n + 1 = omega arith in
    frames_more k n (at_frame n ts ++ in_order k (n + 1) ts)
    ∙ ap (λ (f : Frame). Whole f ∷ frames_said k (n + 1) (at_frame n ts ++ in_order k (n + 1) ts))
    (items_then n no_items (at_frame n ts) (in_order k (n + 1) ts) ∙ later_none k n (n + 1) (with_items_of n no_items (at_frame n ts)) ts next ∙ own_items n no_items ts)
    ∙ ap (λ (fs : List Given). Whole (with_items_of n no_items (timed_items ts)) ∷ fs) (past_items k n (n + 1) (lines_at n ts) (in_order k (n + 1) ts) next ∙ frames_in_order k (n + 1) ts)
    ∙ sym (frames_more k n (timed_items ts))

-- ---- the lines of a schedule

ticks_append : (xs ys : List (List (List ℕ))) → ticks_in (xs ++ ys) ≡ ticks_in xs + ticks_in ys
ticks_append [] ys = let z = ticks_nil in let e : ticks_in ys ≡ ticks_in [] + ticks_in ys = omega (arith, z) in e
ticks_append (x ∷ xs) ys =
    let a = ticks_append xs ys in
    let b = ticks_cons x (xs ++ ys) in
    let d = ticks_cons x xs in
    omega (arith, a, b, d)

words_append : (xs ys : List Numbered) → words_of (xs ++ ys) ≡ words_of xs ++ words_of ys
words_append xs ys = map-append (λ (l : Numbered). l.words) xs ys

-- lines of the header
head_items : (n : ℕ) (ts : List Timed) → AllByRecursion IsHead ts → line_items n (words_of (map numbered ts)) ≡ []
head_items n [] all = items_nil n
head_items n (t ∷ ts) all =
    let s = all.0.still in
    let same : n + ticks_by (verb_in t.line) ≡ n = omega (arith, s) in
    items_cons n t.line (words_of (map numbered ts))
    ∙ ap (λ (is : List FrameItem). is ++ line_items (n + ticks_by (verb_in t.line)) (words_of (map numbered ts))) (all.0.none n)
    ∙ ap (λ (m : ℕ). line_items m (words_of (map numbered ts))) same
    ∙ head_items n ts all.1

head_ticks : (ts : List Timed) → AllByRecursion IsHead ts → ticks_in (words_of (map numbered ts)) ≡ 0
head_ticks [] all = ticks_nil
head_ticks (t ∷ ts) all =
    let s = all.0.still in
    let a = head_ticks ts all.1 in
    let b = ticks_cons t.line (words_of (map numbered ts)) in
    omega (arith, s, a, b)

head_lines : (ts : List Timed) → AllByRecursion IsHead ts → AreTextLines (words_of (map numbered ts))
head_lines [] all = tt
head_lines (t ∷ ts) all = (all.0.words, head_lines ts all.1)

-- lines of a frame
abbrev AreItems : List Numbered → Type 0
AreItems ls = AllByRecursion (λ (l : Numbered). IsItem l.words) ls

items_at : (n f : ℕ) (ts : List Timed) → AllByRecursion (IsItemIn f) ts → AreItems (lines_at n ts)
unfolding lines_at
items_at n f [] all = tt
items_at n f (t ∷ ts) all = by (t.frame == n) (items_at n f ts all.1) where
  by : (b : Bool) → AreItems (lines_at n ts) → AreItems (if b then numbered t ∷ lines_at n ts else lines_at n ts)
  by true more = (all.0.is, more)
  by false more = more

frame_items : (n : ℕ) (ls : List Numbered) → AreItems ls → line_items n (words_of ls) ≡ map (λ (l : Numbered). record { frame = n; line = l.words }) ls
frame_items n [] all = items_nil n
frame_items n (l ∷ ls) all =
    let s = all.0.still in
    let same : n + ticks_by (verb_in l.words) ≡ n = omega (arith, s) in
    items_cons n l.words (words_of ls)
    ∙ ap (λ (is : List FrameItem). is ++ line_items (n + ticks_by (verb_in l.words)) (words_of ls)) (all.0.item n)
    ∙ ap (λ (m : ℕ). record { frame = n; line = l.words } ∷ line_items m (words_of ls)) same
    ∙ ap (λ (is : List FrameItem). record { frame = n; line = l.words } ∷ is) (frame_items n ls all.1)

frame_ticks : (ls : List Numbered) → AreItems ls → ticks_in (words_of ls) ≡ 0
frame_ticks [] all = ticks_nil
frame_ticks (l ∷ ls) all =
    let s = all.0.still in
    let a = frame_ticks ls all.1 in
    let b = ticks_cons l.words (words_of ls) in
    omega (arith, s, a, b)

frame_lines : (ls : List Numbered) → AreItems ls → AreTextLines (words_of ls)
frame_lines [] all = tt
frame_lines (l ∷ ls) all = (all.0.words, frame_lines ls all.1)

abbrev tick_on : ℕ → Numbered
tick_on last = record { number = last; words = tick }

abbrev end_on : ℕ → Numbered
end_on last = record { number = last; words = end }

one_tick : (last : ℕ) → ticks_in (words_of (tick_on last ∷ [])) ≡ 1
one_tick last =
    let a = ticks_cons tick [] in
    let b = ticks_nil in
    let d = ap ticks_by tick_verb in
    omega (arith, a, b, d)

no_item : (n last : ℕ) → line_items n (words_of (tick_on last ∷ [])) ≡ []
no_item n last = items_cons n tick [] ∙ ap (λ (v : Option _). items_by n v tick ++ line_items (n + ticks_by v) []) tick_verb ∙ items_nil (n + 1)

last_tick : (last : ℕ) → ticks_in (words_of (end_on last ∷ [])) ≡ 0
last_tick last =
    let a = ticks_cons end [] in
    let b = ticks_nil in
    let d = ap ticks_by end_verb in
    omega (arith, a, b, d)

last_item : (n last : ℕ) → line_items n (words_of (end_on last ∷ [])) ≡ []
last_item n last = items_cons n end [] ∙ ap (λ (v : Option _). items_by n v end ++ line_items (n + ticks_by v) []) end_verb ∙ items_nil (n + 0)

-- one frame with its tick
whole_ticks : (n f last : ℕ) (ts : List Timed) → AllByRecursion (IsItemIn f) ts → ticks_in (words_of (lines_at n ts ++ tick_on last ∷ [])) ≡ 1
whole_ticks n f last ts all =
    let a = ticks_append (words_of (lines_at n ts)) (words_of (tick_on last ∷ [])) in
    let b = frame_ticks (lines_at n ts) (items_at n f ts all) in
    let d = one_tick last in
    ap ticks_in (words_append (lines_at n ts) (tick_on last ∷ [])) ∙ (let e : ticks_in (words_of (lines_at n ts) ++ words_of (tick_on last ∷ [])) ≡ 1 = omega (arith, a, b, d) in e)

whole_items : (n f last : ℕ) (ts : List Timed) → AllByRecursion (IsItemIn f) ts → line_items n (words_of (lines_at n ts ++ tick_on last ∷ [])) ≡ at_frame n ts
whole_items n f last ts all =
    ap (line_items n) (words_append (lines_at n ts) (tick_on last ∷ []))
    ∙ items_append n (words_of (lines_at n ts)) (words_of (tick_on last ∷ []))
    ∙ ap (λ (is : List FrameItem). is ++ line_items (n + ticks_in (words_of (lines_at n ts))) (words_of (tick_on last ∷ []))) (frame_items n (lines_at n ts) (items_at n f ts all))
    ∙ ap (λ (is : List FrameItem). at_frame n ts ++ is) (no_item (n + ticks_in (words_of (lines_at n ts))) last)
    ∙ append-nil (at_frame n ts)

record Frames (k n last : ℕ) (ts : List Timed) : Type 0 where
  items : line_items n (words_of (frames_from k n last ts)) ≡ in_order k n ts
  ticks : ticks_in (words_of (frames_from k n last ts)) ≡ k
  lines : AreTextLines (words_of (frames_from k n last ts))

frames_zero_from : (n last : ℕ) (ts : List Timed) → frames_from 0 n last ts ≡ []
unfolding frames_from
frames_zero_from n last ts = refl

frames_more_from : (k n last : ℕ) (ts : List Timed) → frames_from (suc k) n last ts ≡ (lines_at n ts ++ tick_on last ∷ []) ++ frames_from k (n + 1) last ts
unfolding frames_from
frames_more_from k n last ts = refl

frames_are : (k n f last : ℕ) (ts : List Timed) → AllByRecursion (IsItemIn f) ts → Frames k n last ts
frames_are zero n f last ts all = record {
  items = ap (λ (ls : List Numbered). line_items n (words_of ls)) (frames_zero_from n last ts) ∙ items_nil n;
  ticks = ap (λ (ls : List Numbered). ticks_in (words_of ls)) (frames_zero_from n last ts) ∙ ticks_nil;
  lines = subst (λ (ls : List Numbered). AreTextLines (words_of ls)) (sym (frames_zero_from n last ts)) tt;
}
frames_are (suc k) n f last ts all =
    let rest = frames_are k (n + 1) f last ts all in
    let own = lines_at n ts ++ tick_on last ∷ [] in
    let more = frames_from k (n + 1) last ts in
    let cut : words_of (frames_from (suc k) n last ts) ≡ words_of own ++ words_of more = ap words_of (frames_more_from k n last ts) ∙ words_append own more in
    let one = whole_ticks n f last ts all in
    let next : n + ticks_in (words_of own) ≡ n + 1 = ap (λ (m : ℕ). n + m) one in
    let a = ticks_append (words_of own) (words_of more) in
    let b = rest.ticks in
    record {
      items = ap (line_items n) cut ∙ items_append n (words_of own) (words_of more)
          ∙ ap (λ (is : List FrameItem). is ++ line_items (n + ticks_in (words_of own)) (words_of more)) (whole_items n f last ts all)
          ∙ ap (λ (m : ℕ). at_frame n ts ++ line_items m (words_of more)) next
          ∙ ap (λ (is : List FrameItem). at_frame n ts ++ is) rest.items;
      ticks = ap ticks_in cut ∙ (let e : ticks_in (words_of own ++ words_of more) ≡ suc k = omega (arith, a, b, one) in e);
      lines = subst AreTextLines (sym cut) (lines_append (words_of own) (words_of more)
          (subst AreTextLines (sym (words_append (lines_at n ts) (tick_on last ∷ []))) (lines_append (words_of (lines_at n ts)) (words_of (tick_on last ∷ [])) (frame_lines (lines_at n ts) (items_at n f ts all)) (tick_line_is, tt)))
          rest.lines);
    }

-- ---- the whole scenario

record Scenario (s : Schedule) : Type 0 where
  items : line_items 0 (words_of (scenario_lines s)) ≡ in_order s.frames 0 s.lines
  ticks : ticks_in (words_of (scenario_lines s)) ≡ s.frames
  lines : AreTextLines (words_of (scenario_lines s))

scenario_is : (s : Schedule) → IsGood 0 s → Scenario s
scenario_is s good =
    let head = words_of (map numbered s.head) in
    let body = words_of (frames_from s.frames 0 s.last s.lines) in
    let last = words_of (end_on s.last ∷ []) in
    let cut : words_of (scenario_lines s) ≡ (head ++ body) ++ last =
    words_append (map numbered s.head ++ frames_from s.frames 0 s.last s.lines) (end_on s.last ∷ []) ∙ ap (λ (ls : List (List (List ℕ))). ls ++ last) (words_append (map numbered s.head) (frames_from s.frames 0 s.last s.lines)) in
    let f = frames_are s.frames 0 s.frames s.last s.lines good.lines in
    let none = head_ticks s.head good.head in
    let start : 0 + ticks_in head ≡ 0 = omega (arith, none) in
    let a = ticks_append (head ++ body) last in
    let b = ticks_append head body in
    let d = f.ticks in
    let e = last_tick s.last in
    record {
      items = ap (line_items 0) cut ∙ items_append 0 (head ++ body) last
          ∙ ap (λ (is : List FrameItem). line_items 0 (head ++ body) ++ is) (last_item (0 + ticks_in (head ++ body)) s.last)
          ∙ append-nil (line_items 0 (head ++ body))
          ∙ items_append 0 head body
          ∙ ap (λ (is : List FrameItem). is ++ line_items (0 + ticks_in head) body) (head_items 0 s.head good.head)
          ∙ ap (λ (m : ℕ). line_items m body) start
          ∙ f.items;
      ticks = ap ticks_in cut ∙ (let t : ticks_in ((head ++ body) ++ last) ≡ s.frames = omega (arith, a, b, d, e, none) in t);
      lines = subst AreTextLines (sym cut) (lines_append (head ++ body) last (lines_append head body (head_lines s.head good.head) f.lines) (end_line_is, tt));
    }

-- a plan whose scenario is made says a schedule, of which the page is read well
made_page : (r : Result Schedule PlanFault) (made : List ℕ) → read_schedule r ≡ Ok made → (s : Schedule) × (r ≡ Ok s) × (read_page (page_of s) ≡ Ok made)
made_page (Ok s) made e = (s, refl, e)
made_page (Err fault) made e = absurd (cc)

same_schedule : (s t : Schedule) → ◌≡◌ {A = Result Schedule PlanFault} (Ok s) (Ok t) → s ≡ t
same_schedule s t e = cc

-- a scenario that is made ends well
pub made_ends : (cs : List Command) (text made : List ℕ) → scenario_said cs text ≡ Ok made → (reading (record { bytes = made; closed = true })).ending ≡ Ended
unfolding scenario_said
made_ends cs text made e = let m = made_page (schedule_said cs text) made e in (page_good (page_of m.0) made m.2).1

-- it gives its plan's header and frames
pub made_given : (cs : List Command) (text made : List ℕ) (s : Schedule) → are_good cs ≡ true → scenario_said cs text ≡ Ok made → schedule_said cs text ≡ Ok s
    → (reading (record { bytes = made; closed = true })).items ≡ head_said [] (words_of (scenario_lines s)) ∷ frames_said s.frames 0 (timed_items s.lines)
unfolding scenario_said
made_given cs text made s good e said =
    let m = made_page (schedule_said cs text) made e in
    let same : m.0 ≡ s = same_schedule m.0 s (sym m.1 ∙ said) in
    let page = page_good (page_of m.0) made m.2 in
    let is : made ≡ text_of (words_of (scenario_lines s)) = page.0 ∙ ap (λ (t : Schedule). text_of (words_of (scenario_lines t))) same in
    let whole = scenario_is s (schedule_good cs text s good said) in
    let lines = words_of (scenario_lines s) in
    ap (λ (t : List ℕ). (reading (record { bytes = t; closed = true })).items) is
    ∙ lines_given lines whole.lines (sym (ap (λ (t : List ℕ). (reading (record { bytes = t; closed = true })).ending) is) ∙ page.1)
    ∙ ap (λ (k : ℕ). head_said [] lines ∷ frames_said k 0 (line_items 0 lines)) whole.ticks
    ∙ ap (λ (is : List FrameItem). head_said [] lines ∷ frames_said s.frames 0 is) whole.items
    ∙ ap (λ (fs : List Given). head_said [] lines ∷ fs) (frames_in_order s.frames 0 s.lines)
