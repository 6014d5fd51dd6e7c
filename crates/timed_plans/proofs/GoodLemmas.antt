-- Lemmas on the lines that a plan says: each is a line of words, of the header or of a frame.
use Rattle.std.proofs.Common.{◌≡◌, ℕ, zero, suc, ◌+◌, ◌-◌, ◌*◌, ◌<◌, ◌≤◌, Bool, true, false, List, [], ◌∷◌, ◌++◌, map, max, Option, Some, None, refl, sym, arith, subst}
use Rattle.std.specs.Prelude.{if◌then◌else◌, nat_lt, nat_le, codes, decimal, option_and_then, Result, Ok, Err}
use Rattle.std.specs.List.{AllByRecursion}
use Rattle.std.specs.Str.{bytes_eq}
use Rattle.std.proofs.lemmas.Bool.Decides.{nat_tests}
use Rattle.row_forms.specs.Words.{number, any_number, at_most}
use Rattle.row_forms.specs.declared.fault.Reason.TheVariants as words
use Rattle.row_forms.proofs.TextLemmas.{marks_are_plain, some_digits, decimal_marks}
use Rattle.telecommands.specs.declared.command.Command.{Command}
use Rattle.telecommands.specs.declared.fault.CommandFault.{CommandFault}
use Rattle.telecommands.specs.Commands.{are_good}
use Rattle.telecommands.proofs.CommandLemmas.{same_bytes}
use Rattle.table_texts.specs.Lines.{Numbered, kept_of}
use Rattle.plan_text.specs.declared.fault.PlanReason.{PlanReason}
use Rattle.plan_text.specs.declared.fault.PlanReason.TheVariants as reasons
use Rattle.plan_text.specs.declared.fault.PlanFault.{PlanFault}
use Rattle.plan_text.specs.Verbs.{verb_of}
use Rattle.plan_text.specs.Lines.{sent_line}
use Rattle.plan_text.specs.Plans.{◌>>=◌, or_else, word_fault, none, one, packet_sent, as_plan}
use Rattle.plan_text.specs.Items.{item_at, verb_in, items_by, ticks_by}
use Rattle.plan_text.specs.Readings.{IsTextWord, IsTextLine}
use Rattle.plan_text.proofs.WordLemmas.{text_lines}
use Rattle.plan_text.proofs.MadeLemmas.{IsFaultless, sent_is_packet, sent_line_is, plain_word}
use Rattle.packet_forms.specs.Hex.{hex}
use Rattle.calendar_dates.specs.declared.epoch.Epoch.{Epoch}
use Rattle.timed_plans.specs.declared.heading.Heading.{Heading}
use Rattle.timed_plans.specs.declared.stage.Course.{Course}
use Rattle.timed_plans.specs.declared.stage.Stage.{Stage}
use Rattle.timed_plans.specs.declared.stage.Stage.TheVariants as stages
use Rattle.timed_plans.specs.declared.kind.LineKind.{LineKind}
use Rattle.timed_plans.specs.declared.kind.LineKind.TheVariants as kinds
use Rattle.timed_plans.specs.Kinds.{kind_of}
use Rattle.timed_plans.specs.Times.{frame_of_word, timed_line, dated_words, binding_line}
use Rattle.timed_plans.specs.Headings.{stepped, frames_in, frame_alone, frames_between}
use Rattle.timed_plans.specs.Schedules.{Timed, timed, lines_in, spread, app_line, counted_in, Schedule}
use Rattle.timed_plans.specs.Plans.{Made, turned, turned_to, spanned, span_line, period_said, every_line, extended, item_line, held_for, hold_line, counts_line, counter_line, closed, end_line, course_line, passed, epoch_line, opening_line, header_line, with_head, with_front, then_head, then_front, opening_said, header_said, course_said, ended_said, staged, finished, lines_said, schedule_said}
use Rattle.timed_plans.specs.Drafts.{AreWithin}

-- ---- what a kind of line is to a scenario

-- a word that begins no item and ends no frame
record IsHeadWord (first : List ℕ) : Type 0 where
  still : ticks_by (verb_of first) ≡ 0
  none : (n : ℕ) (line : List (List ℕ)) → items_by n (verb_of first) line ≡ []

-- a word that begins an item
record IsItemWord (first : List ℕ) : Type 0 where
  still : ticks_by (verb_of first) ≡ 0
  item : (n : ℕ) (line : List (List ℕ)) → items_by n (verb_of first) line ≡ item_at n line

head_word : (first text : List ℕ) → IsHeadWord text → first ≡ text → IsHeadWord first
head_word first text is e = subst IsHeadWord (sym e) is

item_word : (first text : List ℕ) → IsItemWord text → first ≡ text → IsItemWord first
item_word first text is e = subst IsItemWord (sym e) is

abbrev IsVerb : List ℕ → Option LineKind → Type 0
IsVerb first None = Unit {0}
IsVerb first (Some kinds.Epoch) = IsHeadWord first
IsVerb first (Some kinds.Region) = IsHeadWord first
IsVerb first (Some kinds.Start) = IsHeadWord first
IsVerb first (Some kinds.Send) = Unit {0}
IsVerb first (Some kinds.Item) = IsItemWord first
IsVerb first (Some kinds.Hold) = IsItemWord first
IsVerb first (Some kinds.Counter) = Unit {0}
IsVerb first (Some kinds.Frame) = Unit {0}
IsVerb first (Some kinds.At) = Unit {0}
IsVerb first (Some kinds.From) = Unit {0}
IsVerb first (Some kinds.Every) = Unit {0}
IsVerb first (Some kinds.Tick) = Unit {0}
IsVerb first (Some kinds.End) = Unit {0}

pick : (first text : List ℕ) (kind : LineKind) (rest : Option LineKind) → (first ≡ text → IsVerb first (Some kind)) → IsVerb first rest → IsVerb first (if bytes_eq first text then Some kind else rest)
pick first text kind rest here more = by (bytes_eq first text) refl where
  by : (b : Bool) → bytes_eq first text ≡ b → IsVerb first (if b then Some kind else rest)
  by true e = here (same_bytes first text e)
  by false e = more

verb_is : (first : List ℕ) → IsVerb first (kind_of first)
unfolding kind_of verb_of
verb_is first =
    pick first (codes "epoch") kinds.Epoch _ (head_word first (codes "epoch") (record { still = refl; none = λ n line. refl }))
    (pick first (codes "region") kinds.Region _ (head_word first (codes "region") (record { still = refl; none = λ n line. refl }))
    (pick first (codes "start") kinds.Start _ (head_word first (codes "start") (record { still = refl; none = λ n line. refl }))
    (pick first (codes "send") kinds.Send _ (λ e. tt)
    (pick first (codes "app") kinds.Item _ (item_word first (codes "app") (record { still = refl; item = λ n line. refl }))
    (pick first (codes "upset") kinds.Item _ (item_word first (codes "upset") (record { still = refl; item = λ n line. refl }))
    (pick first (codes "activate") kinds.Item _ (item_word first (codes "activate") (record { still = refl; item = λ n line. refl }))
    (pick first (codes "hold") kinds.Hold _ (item_word first (codes "hold") (record { still = refl; item = λ n line. refl }))
    (pick first (codes "counter") kinds.Counter _ (λ e. tt)
    (pick first (codes "frame") kinds.Frame _ (λ e. tt)
    (pick first (codes "at") kinds.At _ (λ e. tt)
    (pick first (codes "from") kinds.From _ (λ e. tt)
    (pick first (codes "every") kinds.Every _ (λ e. tt)
    (pick first (codes "tick") kinds.Tick _ (λ e. tt)
    (pick first (codes "end") kinds.End None (λ e. tt) tt))))))))))))))

-- ---- good lines

-- a line of the header: it is no item and ends no frame
pub record IsHead (t : Timed) : Type 0 where
  pub words : IsTextLine t.line
  pub still : ticks_by (verb_in t.line) ≡ 0
  pub none : (n : ℕ) → items_by n (verb_in t.line) t.line ≡ []

-- a line of a frame: it is one item
pub record IsItem (line : List (List ℕ)) : Type 0 where
  pub words : IsTextLine line
  pub still : ticks_by (verb_in line) ≡ 0
  pub item : (n : ℕ) → items_by n (verb_in line) line ≡ item_at n line

-- an item of a frame before frame f
pub record IsItemIn (f : ℕ) (t : Timed) : Type 0 where
  pub is : IsItem t.line
  pub before : t.frame < f

head_is : (n : ℕ) (first : List ℕ) (others : List (List ℕ)) → IsTextLine (first ∷ others) → IsHeadWord first → IsHead (timed n (first ∷ others) 0)
head_is n first others words is = record { words = words; still = is.still; none = λ m. is.none m (first ∷ others) }

item_is : (first : List ℕ) (others : List (List ℕ)) → IsTextLine (first ∷ others) → IsItemWord first → IsItem (first ∷ others)
item_is first others words is = record { words = words; still = is.still; item = λ m. is.item m (first ∷ others) }

send_word : IsItemWord (codes "send")
unfolding verb_of
send_word = record { still = refl; item = λ n line. refl }

app_word : IsItemWord (codes "app")
unfolding verb_of
app_word = record { still = refl; item = λ n line. refl }

sent_item_is : (packet : List ℕ) → IsTextLine (sent_line packet) → IsItem (sent_line packet)
sent_item_is packet words = item_is (codes "send") (hex packet ∷ []) words send_word

app_item_is : (name : List ℕ) (value : ℕ) → IsTextWord name → value < 4294967296 → IsItem (app_line name value)
app_item_is name value word small =
    item_is (codes "app") (name ∷ decimal value ∷ [])
    ((omega arith, (refl, (refl, (refl, tt))), (refl, (refl, (refl, tt)))), refl, (word, (plain_word (decimal value) (some_digits value small) (marks_are_plain (decimal value) (decimal_marks value small)), tt)))
    app_word

-- ---- where lines stand

stepped_within : (k n step last : ℕ) → AllByRecursion (λ m. m ≤ last) (stepped k n step last)
unfolding stepped
stepped_within zero n step last = tt
stepped_within (suc k) n step last = by (nat_le n last) refl (stepped_within k (n + step) step last) where
  by : (b : Bool) → nat_le n last ≡ b → AllByRecursion (λ m. m ≤ last) (stepped k (n + step) step last) → AllByRecursion (λ m. m ≤ last) (if b then n ∷ stepped k (n + step) step last else [])
  by true e all = (grind (arith, nat_tests), all)
  by false e all = tt

all_in : (f later number : ℕ) (line : List (List ℕ)) (last : ℕ) (ns : List ℕ) → IsItem line → last + later < f → AllByRecursion (λ m. m ≤ last) ns → AllByRecursion (IsItemIn f) (map (λ n. timed number line (n + later)) ns)
all_in f later number line last [] is below all = tt
all_in f later number line last (n ∷ ns) is below all = let low = all.0 in (record { is = is; before = omega (arith, low, below) }, all_in f later number line last ns is below all.1)

lines_good : (f : ℕ) (h : Heading) (later number : ℕ) (line : List (List ℕ)) → IsItem line → h.last + later < f → AllByRecursion (IsItemIn f) (lines_in h later number line)
lines_good f h later number line is below = all_in f later number line h.last (frames_in h) is below (stepped_within h.count h.first h.step h.last)

both : (P : Timed → Type 0) (xs ys : List Timed) → AllByRecursion P xs → AllByRecursion P ys → AllByRecursion P (xs ++ ys)
both P [] ys first second = second
both P (x ∷ xs) ys first second = (first.0, both P xs ys first.1 second)

spread_good : (k f : ℕ) (h : Heading) (number : ℕ) (line : List (List ℕ)) → IsItem line → h.last + k ≤ f → AllByRecursion (IsItemIn f) (spread k h number line)
unfolding spread
spread_good zero f h number line is below = tt
spread_good (suc k) f h number line is below =
    let low : h.last + k ≤ f = omega (arith, below) in
    let high : h.last + k < f = omega (arith, below) in
    both (IsItemIn f) (spread k h number line) (lines_in h k number line) (spread_good k f h number line is low) (lines_good f h k number line is high)

counts_all : (f number : ℕ) (name : List ℕ) (last : ℕ) (ns : List ℕ) → IsTextWord name → last < f → f ≤ 100000 → AllByRecursion (λ m. m ≤ last) ns → AllByRecursion (IsItemIn f) (map (λ n. timed number (app_line name (n + 1)) n) ns)
counts_all f number name last [] word below few all = tt
counts_all f number name last (n ∷ ns) word below few all =
    let low = all.0 in
    (record { is = app_item_is name (n + 1) word (omega (arith, low, below, few)); before = omega (arith, low, below) }, counts_all f number name last ns word below few all.1)

-- ---- what lines make

abbrev pub frames_of : Stage → ℕ
frames_of stages.Opening = 0
frames_of (stages.Header epoch) = 0
frames_of (stages.Frames c) = c.frames
frames_of (stages.Ended frames last) = frames

-- a heading's first frame isn't behind its last one
abbrev pub IsStage : Stage → Type 0
IsStage stages.Opening = Unit {0}
IsStage (stages.Header epoch) = Unit {0}
IsStage (stages.Frames c) = c.heading.first ≤ c.heading.last
IsStage (stages.Ended frames last) = Unit {0}

-- a line behind `start` makes items within the frames that there are then
record Grown (c : Course) (made : Made) : Type 0 where
  lines : AllByRecursion (IsItemIn (frames_of made.stage)) made.lines
  more : c.frames ≤ frames_of made.stage
  stage : IsStage made.stage

abbrev MakesItems : Course → Result Made PlanReason → Type 0
MakesItems c (Ok made) = Grown c made
MakesItems c (Err reason) = Unit {0}

then_makes : {A : Type 0} (c : Course) (r : Result A PlanReason) (f : A → Result Made PlanReason) → ((x : A) → MakesItems c (f x)) → MakesItems c (r >>= f)
then_makes c (Ok x) f makes = makes x
then_makes c (Err reason) f makes = tt

turns : (c : Course) (h : Heading) → h.first ≤ h.last → MakesItems c (turned c h)
turns c h low = record { lines = tt; more = omega arith; stage = low }

turns_to : (c : Course) (n : ℕ) → MakesItems c (turned_to c n)
turns_to c n = by (nat_lt 100000 n) where
  by : (b : Bool) → MakesItems c (if b then Err reasons.Frames else turned c (frame_alone n))
  by true = tt
  by false = turns c (frame_alone n) (let same : n ≤ n = omega arith in same)

spans : (c : Course) (p a b : ℕ) → MakesItems c (spanned c p a b)
spans c p a b = by (nat_le b a) refl (nat_lt 100000 b) where
  by : (x : Bool) → nat_le b a ≡ x → (y : Bool) → MakesItems c (if x then Err reasons.Backward else if y then Err reasons.Frames else turned c (frames_between p a b))
  by true e y = tt
  by false e true = tt
  by false e false = turns c (frames_between p a b) (let less : a < b = grind (arith, nat_tests) in let low : a ≤ b - 1 = omega (arith, less) in low)

span_makes : (c : Course) (p n : ℕ) (others : List (List ℕ)) → MakesItems c (span_line c p n others)
span_makes c p n [] = tt
span_makes c p n (a ∷ []) = tt
span_makes c p n (a ∷ to ∷ []) = tt
span_makes c p n (a ∷ to ∷ b ∷ []) = by (bytes_eq to (codes "to")) where
  by : (x : Bool) → MakesItems c (if x then frame_of_word c.epoch n a >>= (λ first. frame_of_word c.epoch (n + 2) b >>= (λ behind. spanned c p first behind)) else Err reasons.Span)
  by true = then_makes c (frame_of_word c.epoch n a) (λ first. frame_of_word c.epoch (n + 2) b >>= (λ behind. spanned c p first behind)) (λ first. then_makes c (frame_of_word c.epoch (n + 2) b) (λ behind. spanned c p first behind) (λ behind. spans c p first behind))
  by false = tt
span_makes c p n (a ∷ to ∷ b ∷ w ∷ ws) = tt

every_makes : (c : Course) (others : List (List ℕ)) → MakesItems c (every_line c others)
every_makes c [] = tt
every_makes c (period ∷ []) = tt
every_makes c (period ∷ from ∷ span) = by (bytes_eq from (codes "from")) where
  by : (x : Bool) → MakesItems c (if x then or_else reasons.Period (period_said period) >>= (λ p. span_line c p 4 span) else Err reasons.Span)
  by true = then_makes c (or_else reasons.Period (period_said period)) (λ p. span_line c p 4 span) (λ p. span_makes c p 4 span)
  by false = tt

-- the course with a line more
record Wider (c more : Course) (span : ℕ) : Type 0 where
  frames : more.frames ≡ max c.frames (c.heading.last + span)
  few : c.heading.last + span ≤ 100000
  heading : more.heading ≡ c.heading

abbrev WiderIf : Course → ℕ → Result Course PlanReason → Type 0
WiderIf c span (Ok more) = Wider c more span
WiderIf c span (Err reason) = Unit {0}

wider : (c : Course) (span : ℕ) → WiderIf c span (extended c span)
unfolding extended
wider c span = by (nat_lt 100000 (c.heading.last + span)) refl (nat_lt 2097152 (c.items + c.heading.count * span)) where
  by : (x : Bool) → nat_lt 100000 (c.heading.last + span) ≡ x → (y : Bool) → WiderIf c span (if x then Err reasons.Frames else if y then Err reasons.Long else Ok (record { epoch = c.epoch; heading = c.heading; frames = max c.frames (c.heading.last + span); items = c.items + c.heading.count * span }))
  by true e y = tt
  by false e true = tt
  by false e false = record { frames = refl; few = grind (arith, nat_tests); heading = refl }

-- behind an extended course
then_wider : (c : Course) (span : ℕ) (r : Result Course PlanReason) (f : Course → Result Made PlanReason) → WiderIf c span r → ((more : Course) → Wider c more span → MakesItems c (f more)) → MakesItems c (r >>= f)
then_wider c span (Ok more) f is makes = makes more is
then_wider c span (Err reason) f is makes = tt

item_makes : (c : Course) (span number : ℕ) (line : List (List ℕ)) → c.heading.first ≤ c.heading.last → IsItem line → MakesItems c (item_line c span number line)
item_makes c span number line low is =
    then_wider c span (extended c span) (λ more. Ok (record { lines = spread span c.heading number line; stage = stages.Frames more })) (wider c span) (λ more w.
    let f = w.frames in
    record {
      lines = spread_good span more.frames c.heading number line is (omega (arith, f));
      more = omega (arith, f);
      stage = subst (λ (h : Heading). h.first ≤ h.last) (sym w.heading) low;
    })

counts_make : (c : Course) (number : ℕ) (name : List ℕ) → c.heading.first ≤ c.heading.last → IsTextWord name → MakesItems c (counts_line c number name)
counts_make c number name low word =
    then_wider c 1 (extended c 1) (λ more. Ok (record { lines = counted_in c.heading number name; stage = stages.Frames more })) (wider c 1) (λ more w.
    let f = w.frames in
    let few = w.few in
    record {
      lines = weaker (c.heading.last + 1) more.frames (counted_in c.heading number name) (omega (arith, f)) (counts_all (c.heading.last + 1) number name c.heading.last (frames_in c.heading) word (omega arith) few (stepped_within c.heading.count c.heading.first c.heading.step c.heading.last));
      more = omega (arith, f);
      stage = subst (λ (h : Heading). h.first ≤ h.last) (sym w.heading) low;
    }) where
      weaker : (m f : ℕ) (ts : List Timed) → m ≤ f → AllByRecursion (IsItemIn m) ts → AllByRecursion (IsItemIn f) ts
      weaker m f [] le all = tt
      weaker m f (t ∷ ts) le all = let b = all.0.before in (record { is = all.0.is; before = omega (arith, b, le) }, weaker m f ts le all.1)

send_makes : (c : Course) (number : ℕ) (said : Result (List ℕ) CommandFault) → c.heading.first ≤ c.heading.last → IsFaultless said → MakesItems c (as_plan said >>= (λ packet. item_line c 1 number (sent_line packet)))
send_makes c number (Err fault) low good = tt
send_makes c number (Ok packet) low good = item_makes c 1 number (sent_line packet) low (sent_item_is packet (sent_line_is packet good))

hold_makes : (c : Course) (n : ℕ) (first : List ℕ) (others : List (List ℕ)) → c.heading.first ≤ c.heading.last → IsItemWord first → IsTextLine (first ∷ others) → MakesItems c (hold_line c n first others)
hold_makes c n first [] low verb is = tt
hold_makes c n first (app ∷ []) low verb is = item_makes c 1 n (first ∷ app ∷ []) low (item_is first (app ∷ []) is verb)
hold_makes c n first (app ∷ word ∷ others) low verb is =
    then_makes c (or_else reasons.Hold (held_for word others)) (λ frames. item_line c frames n (first ∷ app ∷ [])) (λ frames.
    item_makes c frames n (first ∷ app ∷ []) low (item_is first (app ∷ []) (is.0, is.1, (is.2.0, tt)) verb))

abbrev AtMost : ℕ → Option ℕ → Type 0
AtMost most None = Unit {0}
AtMost most (Some n) = n ≤ most

number_small : (most : ℕ) (word : List ℕ) → AtMost most (number most word)
unfolding number
number_small most word = by (any_number word) where
  within : (n : ℕ) (b : Bool) → nat_le n most ≡ b → AtMost most (if b then Some n else None)
  within n true e = grind (arith, nat_tests)
  within n false e = tt

  by : (o : Option ℕ) → AtMost most (option_and_then (at_most most) o)
  by None = tt
  by (Some n) = within n (nat_le n most) refl

value_makes : (c : Course) (n : ℕ) (name : List ℕ) (value : Option ℕ) → c.heading.first ≤ c.heading.last → IsTextWord name → AtMost 4294967295 value → MakesItems c (or_else reasons.Counter value >>= (λ v. item_line c 1 n (app_line name v)))
value_makes c n name None low word few = tt
value_makes c n name (Some v) low word few = item_makes c 1 n (app_line name v) low (app_item_is name v word (omega (arith, few)))

-- a counter that stays
stays_make : (c : Course) (n : ℕ) (name : List ℕ) → c.heading.first ≤ c.heading.last → IsTextWord name → MakesItems c (item_line c 1 n (app_line name c.heading.first))
stays_make c n name low word =
    then_wider c 1 (extended c 1) (λ more. Ok (record { lines = spread 1 c.heading n (app_line name c.heading.first); stage = stages.Frames more })) (wider c 1) (λ more w.
    let f = w.frames in
    let few = w.few in
    record {
      lines = spread_good 1 more.frames c.heading n (app_line name c.heading.first) (app_item_is name c.heading.first word (omega (arith, few, low))) (omega (arith, f));
      more = omega (arith, f);
      stage = subst (λ (h : Heading). h.first ≤ h.last) (sym w.heading) low;
    })

counter_makes : (c : Course) (n : ℕ) (others : List (List ℕ)) → c.heading.first ≤ c.heading.last → AllByRecursion IsTextWord others → MakesItems c (counter_line c n others)
counter_makes c n [] low all = tt
counter_makes c n (name ∷ []) low all = tt
counter_makes c n (name ∷ how ∷ []) low all = by (bytes_eq how (codes "counts")) (bytes_eq how (codes "stays")) where
  by : (x y : Bool) → MakesItems c (if x then counts_line c n name else if y then item_line c 1 n (app_line name c.heading.first) else Err reasons.Counter)
  by true y = counts_make c n name low all.0
  by false true = stays_make c n name low all.0
  by false false = tt
counter_makes c n (name ∷ is ∷ value ∷ []) low all = by (bytes_eq is (codes "=")) where
  by : (x : Bool) → MakesItems c (if x then or_else reasons.Counter (number 4294967295 value) >>= (λ v. item_line c 1 n (app_line name v)) else Err reasons.Counter)
  by true = value_makes c n name (number 4294967295 value) low all.0 (number_small 4294967295 value)
  by false = tt
counter_makes c n (name ∷ is ∷ value ∷ w ∷ ws) low all = tt

close_makes : (c : Course) (number n : ℕ) → MakesItems c (closed c number n)
close_makes c number n = by (nat_lt n c.frames) refl (nat_lt 100000 n) where
  by : (x : Bool) → nat_lt n c.frames ≡ x → (y : Bool) → MakesItems c (if x then Err reasons.Past else if y then Err reasons.Frames else Ok (record { lines = []; stage = stages.Ended n number }))
  by true e y = tt
  by false e true = tt
  by false e false = record { lines = tt; more = grind (arith, nat_tests); stage = tt }

end_makes : (c : Course) (number : ℕ) (others : List (List ℕ)) → MakesItems c (end_line c number others)
end_makes c number [] = close_makes c number c.frames
end_makes c number (word ∷ others) = by (bytes_eq word (codes "at")) where
  by : (x : Bool) → MakesItems c (if x then timed_line c.epoch 3 others >>= (λ n. closed c number n) else Err (word_fault 2 words.Extra))
  by true = then_makes c (timed_line c.epoch 3 others) (λ n. closed c number n) (λ n. close_makes c number n)
  by false = tt

course_makes : (cs : List Command) (c : Course) (n : ℕ) (kind : Option LineKind) (first : List ℕ) (others : List (List ℕ)) → are_good cs ≡ true → c.heading.first ≤ c.heading.last → IsTextLine (first ∷ others) → IsVerb first kind → MakesItems c (course_line cs c n kind first others)
course_makes cs c n None first others good low is verb = tt
course_makes cs c n (Some kinds.Epoch) first others good low is verb = tt
course_makes cs c n (Some kinds.Region) first others good low is verb = tt
course_makes cs c n (Some kinds.Start) first others good low is verb = tt
course_makes cs c n (Some kinds.Send) first others good low is verb =
    then_makes c (dated_words c.epoch 2 others) (λ dated. as_plan (packet_sent cs c.epoch.second dated) >>= (λ packet. item_line c 1 n (sent_line packet))) (λ dated.
    send_makes c n (packet_sent cs c.epoch.second dated) low (sent_is_packet cs c.epoch.second dated good))
course_makes cs c n (Some kinds.Item) first others good low is verb = item_makes c 1 n (first ∷ others) low (item_is first others is verb)
course_makes cs c n (Some kinds.Hold) first others good low is verb = hold_makes c n first others low verb is
course_makes cs c n (Some kinds.Counter) first others good low is verb = counter_makes c n others low is.2
course_makes cs c n (Some kinds.Frame) first others good low is verb = then_makes c (one 2 others) (λ word. or_else (word_fault 2 words.Number32) (number 4294967295 word) >>= (λ n. turned_to c n)) (λ word. then_makes c (or_else (word_fault 2 words.Number32) (number 4294967295 word)) (λ n. turned_to c n) (λ n. turns_to c n))
course_makes cs c n (Some kinds.At) first others good low is verb = then_makes c (timed_line c.epoch 2 others) (λ n. turned_to c n) (λ n. turns_to c n)
course_makes cs c n (Some kinds.From) first others good low is verb = span_makes c 1 2 others
course_makes cs c n (Some kinds.Every) first others good low is verb = every_makes c others
course_makes cs c n (Some kinds.Tick) first others good low is verb = then_makes c (none 2 others) (λ u. turned_to c (c.heading.last + 1)) (λ u. turns_to c (c.heading.last + 1))
course_makes cs c n (Some kinds.End) first others good low is verb = end_makes c n others

-- ---- the header

record Opened (made : Made) : Type 0 where
  lines : AllByRecursion IsHead made.lines
  stage : IsStage made.stage

abbrev MakesHead : Result Made PlanReason → Type 0
MakesHead (Ok made) = Opened made
MakesHead (Err reason) = Unit {0}

then_opens : {A : Type 0} (r : Result A PlanReason) (f : A → Result Made PlanReason) → ((x : A) → MakesHead (f x)) → MakesHead (r >>= f)
then_opens (Ok x) f makes = makes x
then_opens (Err reason) f makes = tt

passes : (n : ℕ) (stage : Stage) (line : List (List ℕ)) → IsStage stage → IsHead (timed n line 0) → MakesHead (passed n stage line)
passes n stage line good is = record { lines = (is, tt); stage = good }

abbrev bound_at : ℕ → Option ℕ → Stage
bound_at second instant = stages.Header (record { second = second; instant = instant })

epoch_makes : (n : ℕ) (first : List ℕ) (others : List (List ℕ)) → IsTextLine (first ∷ others) → IsHeadWord first → MakesHead (epoch_line n first others)
epoch_makes n first [] is verb = tt
epoch_makes n first (word ∷ others) is verb =
    then_opens (or_else reasons.Epoch (number 4294000000 word)) (λ second. binding_line others >>= (λ instant. passed n (bound_at second instant) (first ∷ word ∷ []))) (λ second.
    then_opens (binding_line others) (λ instant. passed n (bound_at second instant) (first ∷ word ∷ [])) (λ instant.
    passes n (bound_at second instant) (first ∷ word ∷ []) tt (head_is n first (word ∷ []) (is.0, is.1, (is.2.0, tt)) verb)))

opening_makes : (n : ℕ) (kind : Option LineKind) (first : List ℕ) (others : List (List ℕ)) → IsTextLine (first ∷ others) → IsVerb first kind → MakesHead (opening_line n kind first others)
opening_makes n None first others is verb = tt
opening_makes n (Some kinds.Epoch) first others is verb =
    epoch_makes n first others is verb
opening_makes n (Some kinds.Region) first others is verb = tt
opening_makes n (Some kinds.Start) first others is verb = tt
opening_makes n (Some kinds.Send) first others is verb = tt
opening_makes n (Some kinds.Item) first others is verb = tt
opening_makes n (Some kinds.Hold) first others is verb = tt
opening_makes n (Some kinds.Counter) first others is verb = tt
opening_makes n (Some kinds.Frame) first others is verb = tt
opening_makes n (Some kinds.At) first others is verb = tt
opening_makes n (Some kinds.From) first others is verb = tt
opening_makes n (Some kinds.Every) first others is verb = tt
opening_makes n (Some kinds.Tick) first others is verb = tt
opening_makes n (Some kinds.End) first others is verb = tt

header_makes : (n : ℕ) (epoch : Epoch) (kind : Option LineKind) (first : List ℕ) (others : List (List ℕ)) → IsTextLine (first ∷ others) → IsVerb first kind → MakesHead (header_line n epoch kind first others)
header_makes n epoch None first others is verb = tt
header_makes n epoch (Some kinds.Epoch) first others is verb = tt
header_makes n epoch (Some kinds.Region) first others is verb = passes n (stages.Header epoch) (first ∷ others) tt (head_is n first others is verb)
header_makes n epoch (Some kinds.Start) first others is verb =
    then_opens (none 2 others) (λ u. passed n (stages.Frames (record { epoch = epoch; heading = frame_alone 0; frames = 0; items = 0 })) (first ∷ others)) (λ u.
    passes n (stages.Frames (record { epoch = epoch; heading = frame_alone 0; frames = 0; items = 0 })) (first ∷ others) (let same : 0 ≤ 0 = omega arith in same) (head_is n first others is verb))
header_makes n epoch (Some kinds.Send) first others is verb = tt
header_makes n epoch (Some kinds.Item) first others is verb = tt
header_makes n epoch (Some kinds.Hold) first others is verb = tt
header_makes n epoch (Some kinds.Counter) first others is verb = tt
header_makes n epoch (Some kinds.Frame) first others is verb = tt
header_makes n epoch (Some kinds.At) first others is verb = tt
header_makes n epoch (Some kinds.From) first others is verb = tt
header_makes n epoch (Some kinds.Every) first others is verb = tt
header_makes n epoch (Some kinds.Tick) first others is verb = tt
header_makes n epoch (Some kinds.End) first others is verb = tt

-- ---- all lines

-- a schedule of at least f frames, with good lines
pub record IsGood (f : ℕ) (s : Schedule) : Type 0 where
  pub frames : f ≤ s.frames
  pub head : AllByRecursion IsHead s.head
  pub lines : AllByRecursion (IsItemIn s.frames) s.lines

abbrev SaysGood : ℕ → Result Schedule PlanFault → Type 0
SaysGood f (Ok s) = IsGood f s
SaysGood f (Err fault) = Unit {0}

later_in : (m f : ℕ) (ts : List Timed) → m ≤ f → AllByRecursion (IsItemIn m) ts → AllByRecursion (IsItemIn f) ts
later_in m f [] le all = tt
later_in m f (t ∷ ts) le all = let b = all.0.before in (record { is = all.0.is; before = omega (arith, b, le) }, later_in m f ts le all.1)

head_says : (f : ℕ) (front : List Timed) (r : Result Schedule PlanFault) → AllByRecursion IsHead front → SaysGood f r → SaysGood 0 (with_head front r)
head_says f front (Ok s) first good = record { frames = (let z : 0 ≤ s.frames = omega arith in z); head = both IsHead front s.head first good.head; lines = good.lines }
head_says f front (Err fault) first good = tt

front_says : (c f : ℕ) (front : List Timed) (r : Result Schedule PlanFault) → c ≤ f → AllByRecursion (IsItemIn f) front → SaysGood f r → SaysGood c (with_front front r)
front_says c f front (Ok s) low first good =
    let g = good.frames in
    record { frames = (let le : c ≤ s.frames = omega (arith, low, g) in le); head = good.head; lines = both (IsItemIn s.frames) front s.lines (later_in f s.frames front g first) good.lines }
front_says c f front (Err fault) low first good = tt

then_head_says : (n : ℕ) (r : Result Made PlanReason) (next : Stage → Result Schedule PlanFault) → MakesHead r → ((s : Stage) → IsStage s → SaysGood (frames_of s) (next s)) → SaysGood 0 (then_head n r next)
then_head_says n (Ok made) next makes more = head_says (frames_of made.stage) made.lines (next made.stage) makes.lines (more made.stage makes.stage)
then_head_says n (Err reason) next makes more = tt

then_front_says : (c : Course) (n : ℕ) (r : Result Made PlanReason) (next : Stage → Result Schedule PlanFault) → MakesItems c r → ((s : Stage) → IsStage s → SaysGood (frames_of s) (next s)) → SaysGood c.frames (then_front n r next)
then_front_says c n (Ok made) next makes more = front_says c.frames (frames_of made.stage) made.lines (next made.stage) makes.more makes.lines (more made.stage makes.stage)
then_front_says c n (Err reason) next makes more = tt

ended_says : (f n : ℕ) (ws : List (List ℕ)) (next : Stage → Result Schedule PlanFault) → SaysGood f (then_front n (ended_said ws) next)
ended_says f n [] next = tt
ended_says f n (w ∷ ws) next = tt

opening_good : (n : ℕ) (ws : List (List ℕ)) → IsTextLine ws → MakesHead (opening_said n ws)
opening_good n [] is = tt
opening_good n (first ∷ others) is = opening_makes n (kind_of first) first others is (verb_is first)

header_good : (n : ℕ) (epoch : Epoch) (ws : List (List ℕ)) → IsTextLine ws → MakesHead (header_said n epoch ws)
header_good n epoch [] is = tt
header_good n epoch (first ∷ others) is = header_makes n epoch (kind_of first) first others is (verb_is first)

course_good : (cs : List Command) (c : Course) (n : ℕ) (ws : List (List ℕ)) → are_good cs ≡ true → c.heading.first ≤ c.heading.last → IsTextLine ws → MakesItems c (course_said cs c n ws)
course_good cs c n [] good low is = tt
course_good cs c n (first ∷ others) good low is = course_makes cs c n (kind_of first) first others good low is (verb_is first)

staged_says : (cs : List Command) (stage : Stage) (line : Numbered) (next : Stage → Result Schedule PlanFault) → are_good cs ≡ true → IsStage stage → IsTextLine line.words → ((s : Stage) → IsStage s → SaysGood (frames_of s) (next s)) → SaysGood (frames_of stage) (staged cs stage line next)
staged_says cs stages.Opening line next good is words more = then_head_says line.number (opening_said line.number line.words) next (opening_good line.number line.words words) more
staged_says cs (stages.Header epoch) line next good is words more = then_head_says line.number (header_said line.number epoch line.words) next (header_good line.number epoch line.words words) more
staged_says cs (stages.Frames c) line next good is words more = then_front_says c line.number (course_said cs c line.number line.words) next (course_good cs c line.number line.words good is words) more
staged_says cs (stages.Ended frames last) line next good is words more = ended_says frames line.number line.words next

finished_says : (stage : Stage) (n : ℕ) → SaysGood (frames_of stage) (finished stage n)
finished_says stages.Opening n = tt
finished_says (stages.Header epoch) n = tt
finished_says (stages.Frames c) n = tt
finished_says (stages.Ended frames last) n = record { frames = (let same : frames ≤ frames = omega arith in same); head = tt; lines = tt }

lines_good_all : (cs : List Command) (stage : Stage) (n : ℕ) (lines : List Numbered) → are_good cs ≡ true → IsStage stage → AllByRecursion (λ (l : Numbered). IsTextLine l.words) lines → SaysGood (frames_of stage) (lines_said cs stage n lines)
unfolding lines_said
lines_good_all cs stage n [] good is all = finished_says stage n
lines_good_all cs stage n (line ∷ more) good is all =
    staged_says cs stage line (λ s. lines_said cs s (line.number + 1) more) good is all.0 (λ s g. lines_good_all cs s (line.number + 1) more good g all.1)

-- what a plan says is good
pub schedule_good : (cs : List Command) (text : List ℕ) (s : Schedule) → are_good cs ≡ true → schedule_said cs text ≡ Ok s → IsGood 0 s
unfolding schedule_said
schedule_good cs text s good e = subst (SaysGood 0) e (lines_good_all cs stages.Opening 1 (kept_of 1 text) good tt (text_lines 1 text))

-- its lines stand within its frames
pub lines_within : (s : Schedule) → IsGood 0 s → AreWithin s.frames s.lines
lines_within s good = by s.lines good.lines where
  by : (ts : List Timed) → AllByRecursion (IsItemIn s.frames) ts → AreWithin s.frames ts
  by [] all = tt
  by (t ∷ ts) all = (all.0.before, by ts all.1)
