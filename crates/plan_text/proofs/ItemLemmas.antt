-- Lemmas on the items of plans and of their scenarios.
use Rattle.std.proofs.Common.{◌≡◌, ℕ, zero, suc, ◌+◌, ◌-◌, ◌≤◌, Bool, true, false, ◌&&◌, List, [], ◌∷◌, ◌++◌, Option, Some, None, refl, ap, sym, ◌∙◌, arith, append_assoc, append-nil}
use Rattle.std.specs.Prelude.{◌==◌, if◌then◌else◌, nat_lt, replicate, codes, Result, Ok, Err}
use Rattle.std.specs.Str.{bytes_eq}
use Rattle.std.proofs.lemmas.Bool.Decides.{nat_tests}
use Rattle.row_forms.specs.Words.{number}
use Rattle.row_forms.specs.declared.fault.Reason.TheVariants as words
use Rattle.telecommands.specs.declared.command.Command.{Command}
use Rattle.telecommands.specs.declared.fault.CommandFault.{CommandFault}
use Rattle.table_texts.specs.Lines.{Numbered, kept_of}
use Rattle.plan_text.specs.declared.fault.PlanReason.{PlanReason}
use Rattle.plan_text.specs.declared.fault.PlanReason.TheVariants as reasons
use Rattle.plan_text.specs.declared.fault.PlanFault.{PlanFault}
use Rattle.plan_text.specs.declared.stage.Course.{Course}
use Rattle.plan_text.specs.declared.stage.Stage.{Stage}
use Rattle.plan_text.specs.declared.stage.Stage.TheVariants as stages
use Rattle.plan_text.specs.declared.verb.Verb.{Verb}
use Rattle.plan_text.specs.declared.verb.Verb.TheVariants as verbs
use Rattle.plan_text.specs.Verbs.{verb_of}
use Rattle.plan_text.specs.Lines.{tick, end, sent_line}
use Rattle.plan_text.specs.Plans.{◌>>=◌, Made, passed, none, one, or_else, word_fault, epoch_line, start_line, moved, forwarded, closed, last_of, time_line, end_line, item_line, packet_sent, as_plan, course_line, header_line, opening_line, of_verb, line_said, then_lines, with_lines, lines_said, plan_said, finished}
use Rattle.plan_text.specs.Items.{FrameItem, item_at, verb_in, items_by, ticks_by, ticks_in, items_of, sent_item, course_items, staged_items, line_items, items_behind, plan_items}
use Rattle.plan_text.proofs.PlanLemmas.{lines_cons}

-- ---- lines of a scenario

pub items_nil : (n : ℕ) → items_of n [] ≡ []
unfolding items_of
items_nil n = refl

pub items_cons : (n : ℕ) (line : List (List ℕ)) (more : List (List (List ℕ))) → items_of n (line ∷ more) ≡ items_by n (verb_in line) line ++ items_of (n + ticks_by (verb_in line)) more
unfolding items_of
items_cons n line more = refl

pub ticks_cons : (line : List (List ℕ)) (more : List (List (List ℕ))) → ticks_in (line ∷ more) ≡ ticks_by (verb_in line) + ticks_in more
unfolding ticks_in
ticks_cons line more = refl

pub ticks_nil : ticks_in [] ≡ 0
unfolding ticks_in
ticks_nil = refl

-- the items of lines, and of those behind them
pub items_append : (n : ℕ) (xs ys : List (List (List ℕ))) → items_of n (xs ++ ys) ≡ items_of n xs ++ items_of (n + ticks_in xs) ys
items_append n [] ys = ap (λ (k : ℕ). items_of k ys) (let z = ticks_nil in let e : n ≡ n + ticks_in [] = omega (arith, z) in e) ∙ ap (λ (t : List FrameItem). t ++ items_of (n + ticks_in []) ys) (sym (items_nil n))
items_append n (x ∷ xs) ys =
    let t = ticks_by (verb_in x) in
    let c = ticks_cons x xs in
    let e : n + t + ticks_in xs ≡ n + ticks_in (x ∷ xs) = omega (arith, c) in
    items_cons n x (xs ++ ys)
    ∙ ap (λ (is : List FrameItem). items_by n (verb_in x) x ++ is) (items_append (n + t) xs ys)
    ∙ sym (append_assoc (items_by n (verb_in x) x) (items_of (n + t) xs) (items_of (n + t + ticks_in xs) ys))
    ∙ ap (λ (is : List FrameItem). is ++ items_of (n + t + ticks_in xs) ys) (sym (items_cons n x xs))
    ∙ ap (λ (k : ℕ). items_of n (x ∷ xs) ++ items_of k ys) e

pub tick_verb : verb_in tick ≡ Some verbs.Tick
unfolding verb_of
tick_verb = refl

pub end_verb : verb_in end ≡ Some verbs.End
unfolding verb_of
end_verb = refl

pub sent_verb : (packet : List ℕ) → verb_in (sent_line packet) ≡ Some verbs.Send
unfolding verb_of
sent_verb packet = refl

-- ticks are no items, and end as many frames
pub no_items : (n k : ℕ) → items_of n (replicate k tick) ≡ []
no_items n zero = items_nil n
no_items n (suc k) =
    items_cons n tick (replicate k tick)
    ∙ ap (λ (v : Option Verb). items_by n v tick ++ items_of (n + ticks_by v) (replicate k tick)) tick_verb
    ∙ no_items (n + 1) k

pub all_ticks : (k : ℕ) → ticks_in (replicate k tick) ≡ k
all_ticks zero = ticks_nil
all_ticks (suc k) =
    let more = all_ticks k in
    ticks_cons tick (replicate k tick) ∙ ap (λ (v : Option Verb). ticks_by v + ticks_in (replicate k tick)) tick_verb
    ∙ (let e : 1 + ticks_in (replicate k tick) ≡ suc k = omega (arith, more) in e)

-- one line
one_items : (n : ℕ) (line : List (List ℕ)) → items_of n (line ∷ []) ≡ items_by n (verb_in line) line
one_items n line = items_cons n line [] ∙ ap (λ (is : List FrameItem). items_by n (verb_in line) line ++ is) (items_nil (n + ticks_by (verb_in line))) ∙ append-nil (items_by n (verb_in line) line)

one_ticks : (line : List (List ℕ)) → ticks_in (line ∷ []) ≡ ticks_by (verb_in line)
one_ticks line = ticks_cons line [] ∙ (let z = ticks_nil in let e : ticks_by (verb_in line) + ticks_in [] ≡ ticks_by (verb_in line) = omega (arith, z) in e)

-- ---- lines of a plan

-- so many ticks came before the frame that has come
abbrev Follows : ℕ → Stage → Type 0
Follows n stages.Opening = n ≡ 0
Follows n (stages.Header epoch) = n ≡ 0
Follows n (stages.Frames c) = n ≡ c.frame
Follows n stages.Ended = Unit {0}

-- what a line makes has these items, and as many ticks as frames pass
record Steps (n : ℕ) (items : List FrameItem) (made : Made) : Type 0 where
  same : items_of n made.lines ≡ items
  ticks : Follows (n + ticks_in made.lines) made.stage

abbrev StepsIf : ℕ → List FrameItem → Result Made PlanReason → Type 0
StepsIf n items (Ok made) = Steps n items made
StepsIf n items (Err reason) = Unit {0}

-- a line by itself, which is no tick
passes : (n : ℕ) (stage : Stage) (line : List (List ℕ)) (items : List FrameItem) → items_by n (verb_in line) line ≡ items → ticks_by (verb_in line) ≡ 0 → Follows n stage → StepsIf n items (passed stage line)
passes n stage line items is still follows = record {
  same = one_items n line ∙ is;
  ticks = followed (n + ticks_in (line ∷ [])) n stage (let t = one_ticks line in omega (arith, t, still)) follows;
} where
  followed : (m n : ℕ) (stage : Stage) → m ≡ n → Follows n stage → Follows m stage
  followed m n stage e f = rw e f

forward_when : (c : Course) (n : ℕ) (a b : Bool) → nat_lt n c.frame ≡ a → StepsIf c.frame [] (if a then Err reasons.Past else if b then Err reasons.Frames else Ok (record { lines = replicate (n - c.frame) tick; stage = stages.Frames (moved c n) }))
forward_when c n true b e = tt
forward_when c n false true e = tt
forward_when c n false false e = record {
  same = no_items c.frame (n - c.frame);
  ticks = let t = all_ticks (n - c.frame) in let low : c.frame ≤ n = grind (arith, nat_tests) in (let s : c.frame + ticks_in (replicate (n - c.frame) tick) ≡ n = omega (arith, t, low) in s) ∙ moved_frame c n (n == c.frame) refl;
} where
  moved_frame : (c : Course) (n : ℕ) (b : Bool) → (n == c.frame) ≡ b → n ≡ (moved c n).frame
  moved_frame c n true e = let same : n ≡ c.frame = grind (arith, nat_tests) in rw e same
  moved_frame c n false e = rw e refl

forwards : (c : Course) (n : ℕ) → StepsIf c.frame [] (forwarded c n)
unfolding forwarded
forwards c n = forward_when c n (nat_lt n c.frame) (nat_lt 100000 n) refl

close_when : (c : Course) (n : ℕ) (a b d : Bool) → StepsIf c.frame [] (if a then Err reasons.Past else if b then Err reasons.Frames else if d then Err reasons.Begun else Ok (record { lines = replicate (n - c.frame) tick ++ end ∷ []; stage = stages.Ended }))
close_when c n true b d = tt
close_when c n false true d = tt
close_when c n false false true = tt
close_when c n false false false =
    let k = n - c.frame in
    record {
      same = items_append c.frame (replicate k tick) (end ∷ [])
          ∙ ap (λ (is : List FrameItem). is ++ items_of (c.frame + ticks_in (replicate k tick)) (end ∷ [])) (no_items c.frame k)
          ∙ one_items (c.frame + ticks_in (replicate k tick)) end
          ∙ ap (λ (v : Option Verb). items_by (c.frame + ticks_in (replicate k tick)) v end) end_verb;
      ticks = tt;
    }

closes : (c : Course) (n : ℕ) → StepsIf c.frame [] (closed c n)
unfolding closed
closes c n = close_when c n (nat_lt n c.frame) (nat_lt 100000 n) ((n == c.frame) && nat_lt 0 c.items)

-- behind a value
then_steps : {A : Type 0} (n : ℕ) (items : List FrameItem) (r : Result A PlanReason) (f : A → Result Made PlanReason) → ((x : A) → StepsIf n items (f x)) → StepsIf n items (r >>= f)
then_steps n items (Ok x) f steps = steps x
then_steps n items (Err reason) f steps = tt

-- one more item
item_steps : (c : Course) (line : List (List ℕ)) → items_by c.frame (verb_in line) line ≡ item_at c.frame line → ticks_by (verb_in line) ≡ 0 → StepsIf c.frame (item_at c.frame line) (item_line c line)
item_steps c line is still = by (nat_lt c.items 64) where
  by : (room : Bool) → StepsIf c.frame (item_at c.frame line) ((if room then Ok (record { epoch = c.epoch; frame = c.frame; items = c.items + 1 }) else Err reasons.Items) >>= (λ more. passed (stages.Frames more) line))
  by true = passes c.frame (stages.Frames (record { epoch = c.epoch; frame = c.frame; items = c.items + 1 })) line (item_at c.frame line) is still refl
  by false = tt

send_steps : (c : Course) (said : Result (List ℕ) CommandFault) → StepsIf c.frame (sent_item c.frame said) (as_plan said >>= (λ packet. item_line c (sent_line packet)))
send_steps c (Err fault) = tt
send_steps c (Ok packet) =
    item_steps c (sent_line packet) (ap (λ (v : Option Verb). items_by c.frame v (sent_line packet)) (sent_verb packet)) (ap ticks_by (sent_verb packet))

end_steps : (c : Course) (others : List (List ℕ)) → StepsIf c.frame [] (end_line c others)
end_steps c [] = closes c (last_of c)
end_steps c (word ∷ others) = by (bytes_eq word (codes "at")) where
  by : (b : Bool) → StepsIf c.frame [] (if b then time_line c.epoch 3 others >>= (λ n. closed c n) else Err (word_fault 2 words.Extra))
  by true = then_steps c.frame [] (time_line c.epoch 3 others) (λ n. closed c n) (closes c)
  by false = tt

-- a line behind `start`
course_steps : (cs : List Command) (c : Course) (verb : Verb) (first : List ℕ) (others : List (List ℕ)) → verb_of first ≡ Some verb → StepsIf c.frame (course_items cs c (Some verb) first others) (course_line cs c verb first others)
course_steps cs c verbs.Epoch first others e = tt
course_steps cs c verbs.Region first others e = tt
course_steps cs c verbs.Start first others e = tt
course_steps cs c verbs.Send first others e = send_steps c (packet_sent cs c.epoch others)
course_steps cs c verbs.Item first others e = item_steps c (first ∷ others) (ap (λ (v : Option Verb). items_by c.frame v (first ∷ others)) e) (ap ticks_by e)
course_steps cs c verbs.Frame first others e = then_steps c.frame [] (one 2 others) (λ word. or_else (word_fault 2 words.Number32) (number 4294967295 word) >>= (λ n. forwarded c n)) (λ word. then_steps c.frame [] (or_else (word_fault 2 words.Number32) (number 4294967295 word)) (λ n. forwarded c n) (forwards c))
course_steps cs c verbs.At first others e = then_steps c.frame [] (time_line c.epoch 2 others) (λ n. forwarded c n) (forwards c)
course_steps cs c verbs.Tick first others e = then_steps c.frame [] (none 2 others) (λ u. forwarded c (c.frame + 1)) (λ u. forwards c (c.frame + 1))
course_steps cs c verbs.End first others e = end_steps c others

start_steps : (epoch : ℕ) (first : List ℕ) (others : List (List ℕ)) → verb_of first ≡ Some verbs.Start → StepsIf 0 [] (start_line epoch first others)
start_steps epoch first others e =
    then_steps 0 [] (none 2 others) (λ u. passed (stages.Frames (record { epoch = epoch; frame = 0; items = 0 })) (first ∷ others)) (λ u.
    passes 0 (stages.Frames (record { epoch = epoch; frame = 0; items = 0 })) (first ∷ others) [] (ap (λ (v : Option Verb). items_by 0 v (first ∷ others)) e) (ap ticks_by e) refl)

header_steps : (epoch : ℕ) (verb : Verb) (first : List ℕ) (others : List (List ℕ)) → verb_of first ≡ Some verb → StepsIf 0 [] (header_line epoch verb first others)
header_steps epoch verbs.Epoch first others e = tt
header_steps epoch verbs.Region first others e = passes 0 (stages.Header epoch) (first ∷ others) [] (ap (λ (v : Option Verb). items_by 0 v (first ∷ others)) e) (ap ticks_by e) refl
header_steps epoch verbs.Start first others e = start_steps epoch first others e
header_steps epoch verbs.Send first others e = tt
header_steps epoch verbs.Item first others e = tt
header_steps epoch verbs.Frame first others e = tt
header_steps epoch verbs.At first others e = tt
header_steps epoch verbs.Tick first others e = tt
header_steps epoch verbs.End first others e = tt

epoch_steps : (first : List ℕ) (others : List (List ℕ)) → verb_of first ≡ Some verbs.Epoch → StepsIf 0 [] (epoch_line first others)
epoch_steps first others e =
    then_steps 0 [] (one 2 others) (λ word. or_else reasons.Epoch (number 4294000000 word) >>= (λ epoch. passed (stages.Header epoch) (first ∷ others))) (λ word.
    then_steps 0 [] (or_else reasons.Epoch (number 4294000000 word)) (λ epoch. passed (stages.Header epoch) (first ∷ others)) (λ epoch.
    passes 0 (stages.Header epoch) (first ∷ others) [] (ap (λ (v : Option Verb). items_by 0 v (first ∷ others)) e) (ap ticks_by e) refl))

opening_steps : (verb : Verb) (first : List ℕ) (others : List (List ℕ)) → verb_of first ≡ Some verb → StepsIf 0 [] (opening_line verb first others)
opening_steps verbs.Epoch first others e = epoch_steps first others e
opening_steps verbs.Region first others e = tt
opening_steps verbs.Start first others e = tt
opening_steps verbs.Send first others e = tt
opening_steps verbs.Item first others e = tt
opening_steps verbs.Frame first others e = tt
opening_steps verbs.At first others e = tt
opening_steps verbs.Tick first others e = tt
opening_steps verbs.End first others e = tt

verb_steps : (cs : List Command) (k : ℕ) (stage : Stage) (verb : Option Verb) (first : List ℕ) (others : List (List ℕ)) → Follows k stage → verb_of first ≡ verb → StepsIf k (staged_items cs stage verb first others) (of_verb cs stage verb first others)
verb_steps cs k stage None first others at e = tt
verb_steps cs k stages.Opening (Some verb) first others at e = rw at (opening_steps verb first others e)
verb_steps cs k (stages.Header epoch) (Some verb) first others at e = rw at (header_steps epoch verb first others e)
verb_steps cs k (stages.Frames c) (Some verb) first others at e = rw at (course_steps cs c verb first others e)
verb_steps cs k stages.Ended (Some verb) first others at e = tt

-- any line
line_steps : (cs : List Command) (k : ℕ) (stage : Stage) (ws : List (List ℕ)) → Follows k stage → StepsIf k (line_items cs stage ws) (line_said cs stage ws)
unfolding line_said
line_steps cs k stage [] at = tt
line_steps cs k stage (first ∷ others) at = verb_steps cs k stage (verb_of first) first others at refl

-- ---- all lines

abbrev Said : Type 0
Said = Result (List (List (List ℕ))) PlanFault

lines_in : Said → List (List (List ℕ))
lines_in (Ok lines) = lines
lines_in (Err fault) = []

lines_are : (a b : List (List (List ℕ))) → ◌≡◌ {A = Said} (Ok a) (Ok b) → a ≡ b
unfolding lines_in
lines_are a b e = ap lines_in e

-- a line, and those behind it
then_items : (k : ℕ) (items : List FrameItem) (r : Result Made PlanReason) (m : ℕ) (next : Stage → Said) (behind : Stage → List FrameItem) (lines : List (List (List ℕ))) → StepsIf k items r → then_lines m r next ≡ Ok lines → ((s : Stage) (j : ℕ) (rest : List (List (List ℕ))) → next s ≡ Ok rest → Follows j s → items_of j rest ≡ behind s) → items_of k lines ≡ items ++ items_behind r behind
then_items k items (Err reason) m next behind lines steps e more = absurd (cc)
then_items k items (Ok made) m next behind lines steps e more = by (next made.stage) refl e where
  by : (q : Said) → next made.stage ≡ q → with_lines made.lines q ≡ Ok lines → items_of k lines ≡ items ++ behind made.stage
  by (Err fault) n e = absurd (cc)
  by (Ok rest) n e =
      ap (items_of k) (sym (lines_are (made.lines ++ rest) lines e))
      ∙ items_append k made.lines rest
      ∙ ap (λ (is : List FrameItem). is ++ items_of (k + ticks_in made.lines) rest) steps.same
      ∙ ap (λ (is : List FrameItem). items ++ is) (more made.stage (k + ticks_in made.lines) rest n steps.ticks)

lines_nil : (cs : List Command) (stage : Stage) (n : ℕ) → lines_said cs stage n [] ≡ finished stage n
unfolding lines_said
lines_nil cs stage n = refl

plan_nil : (cs : List Command) (stage : Stage) → plan_items cs stage [] ≡ []
unfolding plan_items
plan_nil cs stage = refl

plan_cons : (cs : List Command) (stage : Stage) (line : Numbered) (more : List Numbered) → plan_items cs stage (line ∷ more) ≡ line_items cs stage line.words ++ items_behind (line_said cs stage line.words) (λ s. plan_items cs s more)
unfolding plan_items
plan_cons cs stage line more = refl

none_finished : (k n : ℕ) (stage : Stage) (lines : List (List (List ℕ))) → finished stage n ≡ Ok lines → items_of k lines ≡ []
none_finished k n stages.Opening lines e = absurd (cc)
none_finished k n (stages.Header epoch) lines e = absurd (cc)
none_finished k n (stages.Frames c) lines e = absurd (cc)
none_finished k n stages.Ended lines e = ap (items_of k) (sym (lines_are [] lines e)) ∙ items_nil k

kept_items : (cs : List Command) (stage : Stage) (n k : ℕ) (kept : List Numbered) (lines : List (List (List ℕ))) → lines_said cs stage n kept ≡ Ok lines → Follows k stage → items_of k lines ≡ plan_items cs stage kept
kept_items cs stage n k [] lines e at = none_finished k n stage lines (sym (lines_nil cs stage n) ∙ e) ∙ sym (plan_nil cs stage)
kept_items cs stage n k (line ∷ more) lines e at =
    then_items k (line_items cs stage line.words) (line_said cs stage line.words) line.number (λ s. lines_said cs s (line.number + 1) more) (λ s. plan_items cs s more) lines
    (line_steps cs k stage line.words at) (sym (lines_cons cs stage n line more) ∙ e) (λ s j rest f b. kept_items cs s (line.number + 1) j more rest f b)
    ∙ sym (plan_cons cs stage line more)

-- the items of a scenario are its plan's
pub items_keep : (cs : List Command) (text : List ℕ) (lines : List (List (List ℕ))) → plan_said cs text ≡ Ok lines → items_of 0 lines ≡ plan_items cs stages.Opening (kept_of 1 text)
unfolding plan_said
items_keep cs text lines e = kept_items cs stages.Opening 1 0 (kept_of 1 text) lines e refl
