-- Lemmas on the header and the frames that a scenario's reader gives.
use Rattle.std.proofs.Common.{◌≡◌, ℕ, zero, suc, ◌+◌, ◌<◌, Bool, true, false, List, [], ◌∷◌, ◌++◌, map, Option, Some, None, refl, ap, sym, ◌∙◌, arith, subst}
use Rattle.std.specs.Prelude.{◌==◌, if◌then◌else◌, slice_index, codes, Result, Ok, Err}
use Rattle.std.specs.List.{AllByRecursion}
use Rattle.std.specs.Str.{bytes_eq}
use Rattle.std.proofs.lemmas.Bool.{false≢true}
use Rattle.std.proofs.lemmas.Bool.Decides.{nat_tests}
use Rattle.row_forms.specs.Words.{words}
use Rattle.scenario.specs.declared.reason.Reason.{Reason}
use Rattle.scenario.specs.declared.reason.Reason.TheVariants as reasons
use Rattle.scenario.specs.declared.sentence.Place.{Place}
use Rattle.scenario.specs.declared.sentence.Place.TheVariants as places
use Rattle.scenario.specs.declared.sentence.Sentence.{Sentence}
use Rattle.scenario.specs.declared.sentence.Sentence.TheVariants as says
use Rattle.scenario.specs.Words.{words as scenario_words, hex, name_said, app_of, kind_of}
use Rattle.scenario.specs.Sentences.{◌>>=◌, or_bad, largest, stands_at, placed, verb_of, verb_at, verb_said, packet_of, none, one, two, three, number_or_bad, epoch_line, region_line, send_line, app_line, upset_line, hold_line, activate_line, bare_line, sentence_of, said, line_says}
use Rattle.scenario.specs.FrameLists.{Frame, no_items}
use Rattle.scenario.specs.Frames.{place_after, place_behind, epoch_of, regions_of, frame_of, with_item, is_started, refusal}
use Rattle.scenario.specs.Texts.{Before, nothing, Given, Head, Whole, Reading, Ending, Bad, Ended, Unended, is_too_long, unless_refused, then_unless, reads, passed, given, read, read_bytes, reading}
use Rattle.scenario.specs.LineLaws.{read_good, read_bad}
use Rattle.scenario.specs.SaidLaws.{line_said}
use Rattle.scenario.specs.PlaceLaws.{not_started_epoch, not_started_region, not_started_start}
use Rattle.telecommands.specs.declared.command.Command.{Command}
use Rattle.telecommands.specs.Commands.{are_good}
use Rattle.telecommands.proofs.CommandLemmas.{same_bytes}
use Rattle.table_texts.specs.Lines.{kept_of}
use Rattle.plan_text.specs.declared.stage.Stage.TheVariants as stages
use Rattle.plan_text.specs.declared.verb.Verb.{Verb as PlanVerb}
use Rattle.plan_text.specs.declared.verb.Verb.TheVariants as plan_verbs
use Rattle.plan_text.specs.Verbs.{verb_of as plan_verb_of}
use Rattle.plan_text.specs.Lines.{line_bytes, text_of}
use Rattle.plan_text.specs.Plans.{plan_said}
use Rattle.plan_text.specs.Items.{FrameItem, verb_in, items_by, ticks_by, ticks_in, items_of, plan_items}
use Rattle.plan_text.specs.Readings.{as_line, IsTextLine}
use Rattle.plan_text.specs.Frames.{sentence_said, with_said, with_items_of, frames_said, head_behind, head_said}
use Rattle.plan_text.proofs.WordLemmas.{line_words, whole_text}
use Rattle.plan_text.proofs.MadeLemmas.{made_lines}
use Rattle.plan_text.proofs.ItemLemmas.{items_keep, items_nil, items_cons, ticks_nil, ticks_cons}

-- ---- what a kind of line says

-- the kind of a plan's line that says a sentence
abbrev kind_of_said : Sentence → PlanVerb
kind_of_said (says.Epoch n) = plan_verbs.Epoch
kind_of_said (says.Region r) = plan_verbs.Region
kind_of_said says.Start = plan_verbs.Start
kind_of_said (says.Send p) = plan_verbs.Send
kind_of_said (says.Count c) = plan_verbs.Item
kind_of_said (says.Upset u) = plan_verbs.Item
kind_of_said (says.Hold a) = plan_verbs.Item
kind_of_said (says.Activate n) = plan_verbs.Item
kind_of_said says.Tick = plan_verbs.Tick
kind_of_said says.End = plan_verbs.End

abbrev SaysOf : PlanVerb → Result Sentence Reason → Type 0
SaysOf verb (Ok s) = kind_of_said s ≡ verb
SaysOf verb (Err reason) = Unit {0}

then_says : {A : Type 0} (verb : PlanVerb) (r : Result A Reason) (f : A → Result Sentence Reason) → ((x : A) → SaysOf verb (f x)) → SaysOf verb (r >>= f)
then_says verb (Ok x) f is = is x
then_says verb (Err reason) f is = tt

epoch_says : (others : List (List ℕ)) → SaysOf plan_verbs.Epoch (epoch_line others)
unfolding epoch_line
epoch_says others = then_says plan_verbs.Epoch (one others) (λ word. number_or_bad 4294000000 word >>= (λ time. Ok (says.Epoch time))) (λ word. then_says plan_verbs.Epoch (number_or_bad 4294000000 word) (λ time. Ok (says.Epoch time)) (λ time. refl))

region_says : (others : List (List ℕ)) → SaysOf plan_verbs.Region (region_line others)
unfolding region_line
region_says others =
    then_says plan_verbs.Region (three others) (λ ws. or_bad reasons.Word (kind_of ws.0) >>= (λ kind. number_or_bad largest ws.1 >>= (λ start. number_or_bad largest ws.2 >>= (λ len. Ok (says.Region (record { kind = kind; start = start; len = len })))))) (λ ws.
    then_says plan_verbs.Region (or_bad reasons.Word (kind_of ws.0)) (λ kind. number_or_bad largest ws.1 >>= (λ start. number_or_bad largest ws.2 >>= (λ len. Ok (says.Region (record { kind = kind; start = start; len = len }))))) (λ kind.
    then_says plan_verbs.Region (number_or_bad largest ws.1) (λ start. number_or_bad largest ws.2 >>= (λ len. Ok (says.Region (record { kind = kind; start = start; len = len })))) (λ start.
    then_says plan_verbs.Region (number_or_bad largest ws.2) (λ len. Ok (says.Region (record { kind = kind; start = start; len = len }))) (λ len. refl))))

send_says : (others : List (List ℕ)) → SaysOf plan_verbs.Send (send_line others)
unfolding send_line
send_says others =
    then_says plan_verbs.Send (one others) (λ word. or_bad reasons.Packet (hex word) >>= (λ bytes. packet_of bytes >>= (λ packet. Ok (says.Send packet)))) (λ word.
    then_says plan_verbs.Send (or_bad reasons.Packet (hex word)) (λ bytes. packet_of bytes >>= (λ packet. Ok (says.Send packet))) (λ bytes.
    then_says plan_verbs.Send (packet_of bytes) (λ packet. Ok (says.Send packet)) (λ packet. refl)))

app_says : (others : List (List ℕ)) → SaysOf plan_verbs.Item (app_line others)
unfolding app_line
app_says others =
    then_says plan_verbs.Item (two others) (λ ws. or_bad reasons.Word (name_said ws.0) >>= (λ name. number_or_bad largest ws.1 >>= (λ value. Ok (says.Count (record { name = name; value = value }))))) (λ ws.
    then_says plan_verbs.Item (or_bad reasons.Word (name_said ws.0)) (λ name. number_or_bad largest ws.1 >>= (λ value. Ok (says.Count (record { name = name; value = value })))) (λ name.
    then_says plan_verbs.Item (number_or_bad largest ws.1) (λ value. Ok (says.Count (record { name = name; value = value }))) (λ value. refl)))

upset_says : (others : List (List ℕ)) → SaysOf plan_verbs.Item (upset_line others)
unfolding upset_line
upset_says others =
    then_says plan_verbs.Item (two others) (λ ws. number_or_bad largest ws.0 >>= (λ at. number_or_bad 255 ws.1 >>= (λ value. Ok (says.Upset (record { at = at; value = value }))))) (λ ws.
    then_says plan_verbs.Item (number_or_bad largest ws.0) (λ at. number_or_bad 255 ws.1 >>= (λ value. Ok (says.Upset (record { at = at; value = value })))) (λ at.
    then_says plan_verbs.Item (number_or_bad 255 ws.1) (λ value. Ok (says.Upset (record { at = at; value = value }))) (λ value. refl)))

hold_says : (others : List (List ℕ)) → SaysOf plan_verbs.Item (hold_line others)
unfolding hold_line
hold_says others =
    then_says plan_verbs.Item (one others) (λ word. or_bad reasons.Word (app_of word) >>= (λ app. Ok (says.Hold app))) (λ word.
    then_says plan_verbs.Item (or_bad reasons.Word (app_of word)) (λ app. Ok (says.Hold app)) (λ app. refl))

activate_says : (others : List (List ℕ)) → SaysOf plan_verbs.Item (activate_line others)
unfolding activate_line
activate_says others =
    then_says plan_verbs.Item (one others) (λ word. number_or_bad largest word >>= (λ file. Ok (says.Activate file))) (λ word.
    then_says plan_verbs.Item (number_or_bad largest word) (λ file. Ok (says.Activate file)) (λ file. refl))

bare_says : (verb : PlanVerb) (s : Sentence) (others : List (List ℕ)) → kind_of_said s ≡ verb → SaysOf verb (bare_line s others)
bare_says verb s others is = then_says verb (none others) (λ _. Ok s) (λ u. is)

-- ---- the first word of a line, to a scenario and to a plan

-- what a line says is of the kind that its first word begins in a plan
abbrev IsKind : List ℕ → Result Sentence Reason → Type 0
IsKind first (Ok s) = plan_verb_of first ≡ Some (kind_of_said s)
IsKind first (Err reason) = Unit {0}

of_kind : (first text : List ℕ) (verb : PlanVerb) (r : Result Sentence Reason) → plan_verb_of text ≡ Some verb → SaysOf verb r → first ≡ text → IsKind first r
of_kind first text verb (Ok s) plan is e = ap plan_verb_of e ∙ plan ∙ ap Some (sym is)
of_kind first text verb (Err reason) plan is e = tt

either : {V : Type 0} (first text : List ℕ) (verb : V) (rest : Option V) (f : V → Result Sentence Reason) → (first ≡ text → IsKind first (f verb)) → IsKind first (or_bad reasons.Word rest >>= f) → IsKind first (or_bad reasons.Word (if bytes_eq first text then Some verb else rest) >>= f)
either first text verb rest f here more = by (bytes_eq first text) refl where
  by : (b : Bool) → bytes_eq first text ≡ b → IsKind first (or_bad reasons.Word (if b then Some verb else rest) >>= f)
  by true e = here (same_bytes first text e)
  by false e = more

kind_said : (first : List ℕ) (others : List (List ℕ)) → IsKind first (or_bad reasons.Word (verb_of first) >>= (λ verb. sentence_of verb others))
unfolding verb_of sentence_of plan_verb_of
kind_said first others =
    either first (codes "epoch") _ _ _ (of_kind first (codes "epoch") plan_verbs.Epoch (epoch_line others) refl (epoch_says others))
    (either first (codes "region") _ _ _ (of_kind first (codes "region") plan_verbs.Region (region_line others) refl (region_says others))
    (either first (codes "start") _ _ _ (of_kind first (codes "start") plan_verbs.Start (bare_line says.Start others) refl (bare_says plan_verbs.Start says.Start others refl))
    (either first (codes "send") _ _ _ (of_kind first (codes "send") plan_verbs.Send (send_line others) refl (send_says others))
    (either first (codes "app") _ _ _ (of_kind first (codes "app") plan_verbs.Item (app_line others) refl (app_says others))
    (either first (codes "upset") _ _ _ (of_kind first (codes "upset") plan_verbs.Item (upset_line others) refl (upset_says others))
    (either first (codes "hold") _ _ _ (of_kind first (codes "hold") plan_verbs.Item (hold_line others) refl (hold_says others))
    (either first (codes "activate") _ _ _ (of_kind first (codes "activate") plan_verbs.Item (activate_line others) refl (activate_says others))
    (either first (codes "tick") _ _ _ (of_kind first (codes "tick") plan_verbs.Tick (bare_line says.Tick others) refl (bare_says plan_verbs.Tick says.Tick others refl))
    (either first (codes "end") _ None _ (of_kind first (codes "end") plan_verbs.End (bare_line says.End others) refl (bare_says plan_verbs.End says.End others refl)) tt)))))))))

-- ---- a line that is read

-- what a good line says
record Reads (old : Before) (line : List (List ℕ)) (s : Sentence) : Type 0 where
  says : sentence_said line ≡ Ok s
  place : stands_at (place_after old.sentences) (verb_said s) ≡ true
  verb : verb_in line ≡ Some (kind_of_said s)

then_ok : {A B : Type 0} (r : Result A Reason) (f : A → Result B Reason) (b : B) → (r >>= f) ≡ Ok b → (a : A) × (r ≡ Ok a) × (f a ≡ Ok b)
then_ok (Ok a) f b e = (a, refl, e)
then_ok (Err reason) f b e = absurd (cc)

placed_is : {V : Type 0} (b : Bool) (verb found : V) → (if b then (let x : Result V Reason = Ok verb in x) else Err reasons.Word) ≡ Ok found → verb ≡ found
placed_is true verb found e = cc
placed_is false verb found e = absurd (cc)

ok_is : {A : Type 0} (a b : A) → (let x : Result A Reason = Ok a in x) ≡ Ok b → a ≡ b
ok_is a b e = cc

is_kind : (first : List ℕ) (r : Result Sentence Reason) (s : Sentence) → r ≡ Ok s → IsKind first r → plan_verb_of first ≡ Some (kind_of_said s)
is_kind first r s e is = subst (IsKind first) e is

-- words that say something
said_reads : (place : Place) (first : List ℕ) (others : List (List ℕ)) (found : Option Sentence) → (slice_index first 0 == 35) ≡ false → said place (first ∷ others) ≡ Ok found → (s : Sentence) × (found ≡ Some s) × (sentence_said (first ∷ others) ≡ Ok s) × (verb_in (first ∷ others) ≡ Some (kind_of_said s))
unfolding said verb_at
said_reads place first others found plain e =
    let k = rw plain at e in
    let v = then_ok (or_bad reasons.Word (verb_of first) >>= placed place) (λ verb. sentence_of verb others >>= (λ sentence. Ok (Some sentence))) found k in
    let o = then_ok (or_bad reasons.Word (verb_of first)) (placed place) v.0 v.1 in
    let same = placed_is (stands_at place o.0) o.0 v.0 o.2 in
    let w = then_ok (sentence_of v.0 others) (λ sentence. Ok (Some sentence)) found v.2 in
    let is : sentence_said (first ∷ others) ≡ Ok w.0 = ap (λ r. r >>= (λ verb. sentence_of verb others)) (o.1 ∙ ap Ok same) ∙ w.1 in
    (w.0, sym (ok_is (Some w.0) found w.2), is, is_kind first (sentence_said (first ∷ others)) w.0 is (kind_said first others))

unrefused_one : (old : List Sentence) (x found : Option Sentence) → unless_refused old x ≡ Ok found → x ≡ found
unrefused_one old None found e = ok_is None found e
unrefused_one old (Some s) found e = by (refusal old s) e where
  by : (o : Option Reason) → ◌≡◌ {A = Result (Option Sentence) Reason} (elim o [ None ↦ Ok (Some s) | Some reason ↦ Err reason ]) (Ok found) → Some s ≡ found
  by None e = ok_is (Some s) found e
  by (Some reason) e = absurd (cc)

unrefused : (old : List Sentence) (r : Result (Option Sentence) Reason) (found : Option Sentence) → then_unless old r ≡ Ok found → r ≡ Ok found
unrefused old (Ok x) found e = ap Ok (unrefused_one old x found e)
unrefused old (Err reason) found e = absurd (cc)

same_words : (line : List ℕ) → scenario_words line ≡ words line
unfolding scenario_words words
same_words line = refl

says_words : (place : Place) (line : List (List ℕ)) → IsTextLine line → line_says place (line_bytes line) ≡ said place line
unfolding line_says
says_words place line is = ap (said place) (same_words (line_bytes line) ∙ line_words line is)

long_or : (old : List Sentence) (b : Bool) (r : Result (Option Sentence) Reason) (found : Option Sentence) → (if b then Err reasons.TooLong else then_unless old r) ≡ Ok found → r ≡ Ok found
long_or old true r found e = absurd (cc)
long_or old false r found e = unrefused old r found e

says_found : (old : Before) (line : List (List ℕ)) (found : Option Sentence) → reads old (as_line line) ≡ Ok found → line_says (place_after old.sentences) (line_bytes line) ≡ Ok found
unfolding reads
says_found old line found e = long_or old.sentences (is_too_long old (as_line line)) (line_says (place_after old.sentences) (line_bytes line)) found e

line_reads : (old : Before) (line : List (List ℕ)) (found : Option Sentence) → IsTextLine line → reads old (as_line line) ≡ Ok found → (s : Sentence) × (found ≡ Some s) × Reads old line s
line_reads old [] found is e = absurd is
line_reads old (first ∷ others) found is e =
    let text = says_found old (first ∷ others) found e in
    let w = said_reads (place_after old.sentences) first others found is.1 (sym (says_words (place_after old.sentences) (first ∷ others) is) ∙ text) in
    let placed = (line_said (place_after old.sentences) (line_bytes (first ∷ others)) w.0 (text ∙ ap Ok w.1)).placed in
    (w.0, w.1, record { says = w.2; place = placed; verb = w.3 })

-- what lines are read as
abbrev reading_of : Before → List (List (List ℕ)) → Reading
reading_of old lines = read true old (map as_line lines)

record Step (old : Before) (line : List (List ℕ)) (more : List (List (List ℕ))) : Type 0 where
  s : Sentence
  is : Reads old line s
  items : (reading_of old (line ∷ more)).items ≡ given old.sentences (Some s) ++ (reading_of (passed old (as_line line) (Some s)) more).items
  ends : (reading_of (passed old (as_line line) (Some s)) more).ending ≡ Ended

step : (old : Before) (line : List (List ℕ)) (more : List (List (List ℕ))) → IsTextLine line → (reading_of old (line ∷ more)).ending ≡ Ended → Step old line more
step old line more is ends = by (reads old (as_line line)) refl where
  bad_ends : (n : ℕ) (reason : Reason) → Bad n reason ≡ Ended → ⊥
  bad_ends n reason e = cc

  good : (s : Sentence) → Reads old line s → reads old (as_line line) ≡ Ok (Some s) → Step old line more
  good s how e =
      let same = read_good true old (as_line line) (map as_line more) (Some s) e in
      record { s = s; is = how; items = ap (λ (r : Reading). r.items) same; ends = sym (ap (λ (r : Reading). r.ending) same) ∙ ends }

  by : (r : Result (Option Sentence) Reason) → reads old (as_line line) ≡ r → Step old line more
  by (Err reason) e = absurd (bad_ends (old.lines + 1) reason (sym (ap (λ (r : Reading). r.ending) (read_bad true old (as_line line) (map as_line more) reason e)) ∙ ends))
  by (Ok found) e = let w = line_reads old line found is e in good w.0 w.2 (e ∙ ap Ok w.1)

-- ---- frames

-- so many frames from number n on, of which the first has begun
frames_behind : ℕ → ℕ → Frame → List FrameItem → List Given
frames_behind zero n f items = []
frames_behind (suc k) n f items = Whole (with_items_of n f items) ∷ frames_said k (n + 1) items

pub items_none : (n : ℕ) (f : Frame) → with_items_of n f [] ≡ f
unfolding with_items_of
items_none n f = refl

pub items_first : (n : ℕ) (f : Frame) (i : FrameItem) (more : List FrameItem) → with_items_of n f (i ∷ more) ≡ with_items_of n (if i.frame == n then with_said f (sentence_said i.line) else f) more
unfolding with_items_of
items_first n f i more = refl

-- an item of another frame
pub item_of_other : (n m : ℕ) (f : Frame) (line : List (List ℕ)) (more : List FrameItem) → (m == n) ≡ false → with_items_of n f (record { frame = m; line = line } ∷ more) ≡ with_items_of n f more
item_of_other n m f line more other = items_first n f (record { frame = m; line = line }) more ∙ ap (λ (b : Bool). with_items_of n (if b then with_said f (sentence_said line) else f) more) other

-- an item of the frame that has begun
pub item_of_own : (n : ℕ) (f : Frame) (line : List (List ℕ)) (s : Sentence) (more : List FrameItem) → sentence_said line ≡ Ok s → with_items_of n f (record { frame = n; line = line } ∷ more) ≡ with_items_of n (with_item f s) more
item_of_own n f line s more is =
    let own : (n == n) ≡ true = grind (arith, nat_tests) in
    items_first n f (record { frame = n; line = line }) more
    ∙ ap (λ (b : Bool). with_items_of n (if b then with_said f (sentence_said line) else f) more) own
    ∙ ap (λ (r : Result Sentence Reason). with_items_of n (with_said f r) more) is

pub frames_zero : (n : ℕ) (items : List FrameItem) → frames_said 0 n items ≡ []
unfolding frames_said
frames_zero n items = refl

pub frames_more : (k n : ℕ) (items : List FrameItem) → frames_said (suc k) n items ≡ Whole (with_items_of n no_items items) ∷ frames_said k (n + 1) items
unfolding frames_said
frames_more k n items = refl

-- an item of a frame before these
pub frames_past : (k m n : ℕ) (line : List (List ℕ)) (more : List FrameItem) → n < m → frames_said k m (record { frame = n; line = line } ∷ more) ≡ frames_said k m more
frames_past zero m n line more before = frames_zero m (record { frame = n; line = line } ∷ more) ∙ sym (frames_zero m more)
frames_past (suc k) m n line more before =
    let other : (n == m) ≡ false = grind (arith, nat_tests) in
    let later : n < m + 1 = omega (arith, before) in
    frames_more k m (record { frame = n; line = line } ∷ more)
    ∙ ap (λ (f : Frame). Whole f ∷ frames_said k (m + 1) (record { frame = n; line = line } ∷ more)) (item_of_other m n no_items line more other)
    ∙ ap (λ (fs : List Given). Whole (with_items_of m no_items more) ∷ fs) (frames_past k (m + 1) n line more later)
    ∙ sym (frames_more k m more)

frames_item : (k n : ℕ) (f : Frame) (line : List (List ℕ)) (s : Sentence) (more : List FrameItem) → sentence_said line ≡ Ok s → frames_behind k n f (record { frame = n; line = line } ∷ more) ≡ frames_behind k n (with_item f s) more
unfolding frames_behind
frames_item zero n f line s more is = refl
frames_item (suc k) n f line s more is =
    let next : n < n + 1 = omega arith in
    ap (λ (g : Frame). Whole g ∷ frames_said k (n + 1) (record { frame = n; line = line } ∷ more)) (item_of_own n f line s more is)
    ∙ ap (λ (fs : List Given). Whole (with_items_of n (with_item f s) more) ∷ fs) (frames_past k (n + 1) n line more next)

-- lines behind a frame have no items of it
later_kind : (n m : ℕ) (f : Frame) (v : Option PlanVerb) (line : List (List ℕ)) (more : List FrameItem) → n < m → with_items_of n f (items_by m v line ++ more) ≡ with_items_of n f more
later_kind n m f None line more before = refl
later_kind n m f (Some plan_verbs.Epoch) line more before = refl
later_kind n m f (Some plan_verbs.Region) line more before = refl
later_kind n m f (Some plan_verbs.Start) line more before = refl
later_kind n m f (Some plan_verbs.Send) line more before = item_of_other n m f line more (grind (arith, nat_tests))
later_kind n m f (Some plan_verbs.Item) line more before = item_of_other n m f line more (grind (arith, nat_tests))
later_kind n m f (Some plan_verbs.Frame) line more before = refl
later_kind n m f (Some plan_verbs.At) line more before = refl
later_kind n m f (Some plan_verbs.Tick) line more before = refl
later_kind n m f (Some plan_verbs.End) line more before = refl

later : (n m : ℕ) (f : Frame) (lines : List (List (List ℕ))) → n < m → with_items_of n f (items_of m lines) ≡ f
later n m f [] before = ap (with_items_of n f) (items_nil m) ∙ items_none n f
later n m f (line ∷ more) before =
    let next : n < m + ticks_by (verb_in line) = omega (arith, before) in
    ap (with_items_of n f) (items_cons m line more) ∙ later_kind n m f (verb_in line) line (items_of (m + ticks_by (verb_in line)) more) before ∙ later n (m + ticks_by (verb_in line)) f more next

frames_begun : (k n : ℕ) (items : List FrameItem) → frames_said k n items ≡ frames_behind k n no_items items
unfolding frames_behind
frames_begun zero n items = frames_zero n items
frames_begun (suc k) n items = frames_more k n items

zero_more : (k : ℕ) → 0 + k ≡ k
zero_more k = omega arith

-- the items of a line of this kind, and of those behind it
items_at : (n : ℕ) (line : List (List ℕ)) (more : List (List (List ℕ))) (v : PlanVerb) → verb_in line ≡ Some v → items_of n (line ∷ more) ≡ items_by n (Some v) line ++ items_of (n + ticks_by (Some v)) more
items_at n line more v e = items_cons n line more ∙ ap (λ (o : Option PlanVerb). items_by n o line ++ items_of (n + ticks_by o) more) e

ticks_at : (line : List (List ℕ)) (more : List (List (List ℕ))) (v : PlanVerb) → verb_in line ≡ Some v → ticks_in (line ∷ more) ≡ ticks_by (Some v) + ticks_in more
ticks_at line more v e = ticks_cons line more ∙ ap (λ (o : Option PlanVerb). ticks_by o + ticks_in more) e

-- where an item's line was read
item_step : (n : ℕ) (f : Frame) (line : List (List ℕ)) (more : List (List (List ℕ))) (s : Sentence) (v : PlanVerb) (read : List Given) → sentence_said line ≡ Ok s → verb_in line ≡ Some v → ((m : ℕ) → items_by m (Some v) line ≡ record { frame = m; line = line } ∷ []) → ticks_by (Some v) ≡ 0 → read ≡ frames_behind (ticks_in more) n (with_item f s) (items_of n more) → read ≡ frames_behind (ticks_in (line ∷ more)) n f (items_of n (line ∷ more))
item_step n f line more s v read is verb item still given =
    let same : n + ticks_by (Some v) ≡ n = omega (arith, still) in
    let few : ticks_by (Some v) + ticks_in more ≡ ticks_in more = omega (arith, still) in
    given ∙ sym (frames_item (ticks_in more) n f line s (items_of n more) is)
    ∙ sym (ap (λ (k : ℕ). frames_behind k n f (items_of n (line ∷ more))) (ticks_at line more v verb ∙ few)
    ∙ ap (frames_behind (ticks_in more) n f) (items_at n line more v verb ∙ ap (λ (is : List FrameItem). is ++ items_of (n + ticks_by (Some v)) more) (item n) ∙ ap (λ (m : ℕ). record { frame = n; line = line } ∷ items_of m more) same))

tick_step : (n : ℕ) (f : Frame) (line : List (List ℕ)) (more : List (List (List ℕ))) (read : List Given) → verb_in line ≡ Some plan_verbs.Tick → read ≡ frames_behind (ticks_in more) (n + 1) no_items (items_of (n + 1) more) → Whole f ∷ read ≡ frames_behind (ticks_in (line ∷ more)) n f (items_of n (line ∷ more))
unfolding frames_behind
tick_step n f line more read verb given =
    let next : n < n + 1 = omega arith in
    let one : 1 + ticks_in more ≡ suc (ticks_in more) = omega arith in
    ap (λ (fs : List Given). Whole f ∷ fs) (given ∙ sym (frames_begun (ticks_in more) (n + 1) (items_of (n + 1) more)))
    ∙ ap (λ (g : Frame). Whole g ∷ frames_said (ticks_in more) (n + 1) (items_of (n + 1) more)) (sym (later n (n + 1) f more next))
    ∙ ap (frames_behind (suc (ticks_in more)) n f) (sym (items_at n line more plan_verbs.Tick verb))
    ∙ ap (λ (k : ℕ). frames_behind k n f (items_of n (line ∷ more))) (sym (ticks_at line more plan_verbs.Tick verb ∙ one))

-- ---- behind `end`, and behind `start`

none_behind_end : (s : Sentence) → stands_at places.Ended (verb_said s) ≡ true → ⊥
none_behind_end (says.Epoch n) e = false≢true e
none_behind_end (says.Region r) e = false≢true e
none_behind_end says.Start e = false≢true e
none_behind_end (says.Send p) e = false≢true e
none_behind_end (says.Count c) e = false≢true e
none_behind_end (says.Upset u) e = false≢true e
none_behind_end (says.Hold a) e = false≢true e
none_behind_end (says.Activate n) e = false≢true e
none_behind_end says.Tick e = false≢true e
none_behind_end says.End e = false≢true e

-- nothing is read behind `end`
end_step : (n : ℕ) (f : Frame) (old : Before) (line : List (List ℕ)) (more : List (List (List ℕ))) → AllByRecursion IsTextLine more → place_after old.sentences ≡ places.Ended → (reading_of old more).ending ≡ Ended → verb_in line ≡ Some plan_verbs.End → (reading_of old more).items ≡ frames_behind (ticks_in (line ∷ more)) n f (items_of n (line ∷ more))
unfolding read frames_behind
end_step n f old line [] all ended ends verb = ap (λ (k : ℕ). frames_behind k n f (items_of n (line ∷ []))) (sym (ticks_at line [] plan_verbs.End verb ∙ zero_more (ticks_in []) ∙ ticks_nil))
end_step n f old line (next ∷ more) all ended ends verb =
    let st = step old next more all.0 ends in
    absurd (none_behind_end st.s (subst (λ (p : Place). stands_at p (verb_said st.s) ≡ true) ended st.is.place))

abbrev Framed : ℕ → Before → List (List (List ℕ)) → Type 0
Framed n old lines = (reading_of old lines).items ≡ frames_behind (ticks_in lines) n (frame_of old.sentences) (items_of n lines)

-- a line behind `start`
frame_step : (s : Sentence) (n : ℕ) (old : Before) (line : List (List ℕ)) (more : List (List (List ℕ))) → AllByRecursion IsTextLine more → is_started (place_after old.sentences) ≡ true → Reads old line s → (reading_of (passed old (as_line line) (Some s)) more).ending ≡ Ended → ((m : ℕ) → is_started (place_behind s) ≡ true → Framed m (passed old (as_line line) (Some s)) more) → given old.sentences (Some s) ++ (reading_of (passed old (as_line line) (Some s)) more).items ≡ frames_behind (ticks_in (line ∷ more)) n (frame_of old.sentences) (items_of n (line ∷ more))
frame_step (says.Epoch e) n old line more all started is ends behind = absurd (false≢true (sym (not_started_epoch (place_after old.sentences) is.place) ∙ started))
frame_step (says.Region r) n old line more all started is ends behind = absurd (false≢true (sym (not_started_region (place_after old.sentences) is.place) ∙ started))
frame_step says.Start n old line more all started is ends behind = absurd (false≢true (sym (not_started_start (place_after old.sentences) is.place) ∙ started))
frame_step (says.Send p) n old line more all started is ends behind = item_step n (frame_of old.sentences) line more (says.Send p) plan_verbs.Send _ is.says is.verb (λ m. refl) refl (behind n refl)
frame_step (says.Count c) n old line more all started is ends behind = item_step n (frame_of old.sentences) line more (says.Count c) plan_verbs.Item _ is.says is.verb (λ m. refl) refl (behind n refl)
frame_step (says.Upset u) n old line more all started is ends behind = item_step n (frame_of old.sentences) line more (says.Upset u) plan_verbs.Item _ is.says is.verb (λ m. refl) refl (behind n refl)
frame_step (says.Hold a) n old line more all started is ends behind = item_step n (frame_of old.sentences) line more (says.Hold a) plan_verbs.Item _ is.says is.verb (λ m. refl) refl (behind n refl)
frame_step (says.Activate k) n old line more all started is ends behind = item_step n (frame_of old.sentences) line more (says.Activate k) plan_verbs.Item _ is.says is.verb (λ m. refl) refl (behind n refl)
frame_step says.Tick n old line more all started is ends behind = tick_step n (frame_of old.sentences) line more _ is.verb (behind (n + 1) refl)
frame_step says.End n old line more all started is ends behind = end_step n (frame_of old.sentences) (passed old (as_line line) (Some says.End)) line more all refl ends is.verb

in_frames : (lines : List (List (List ℕ))) (n : ℕ) (old : Before) → AllByRecursion IsTextLine lines → is_started (place_after old.sentences) ≡ true → (reading_of old lines).ending ≡ Ended → Framed n old lines
unfolding read frames_behind
in_frames [] n old all started ends = ap (λ (k : ℕ). frames_behind k n (frame_of old.sentences) (items_of n [])) (sym ticks_nil)
in_frames (line ∷ more) n old all started ends =
    let st = step old line more all.0 ends in
    st.items ∙ frame_step st.s n old line more all.1 started st.is st.ends (λ m begun. in_frames more m (passed old (as_line line) (Some st.s)) all.1 begun st.ends)

-- ---- before `start`

abbrev is_of_frames : Sentence → Bool
is_of_frames (says.Epoch n) = false
is_of_frames (says.Region r) = false
is_of_frames says.Start = false
is_of_frames (says.Send p) = true
is_of_frames (says.Count c) = true
is_of_frames (says.Upset u) = true
is_of_frames (says.Hold a) = true
is_of_frames (says.Activate n) = true
is_of_frames says.Tick = true
is_of_frames says.End = true

-- a sentence of the frames stands at no place before `start`
late : (s : Sentence) (p : Place) → is_of_frames s ≡ true → is_started p ≡ false → stands_at p (verb_said s) ≡ true → ⊥
late (says.Epoch n) p f e h = false≢true f
late (says.Region r) p f e h = false≢true f
late says.Start p f e h = false≢true f
late s places.Between f e h = false≢true (sym e)
late s places.Inside f e h = false≢true (sym e)
late s places.Ended f e h = false≢true (sym e)
late (says.Send p) _ f e h = false≢true h
late (says.Count c) _ f e h = false≢true h
late (says.Upset u) _ f e h = false≢true h
late (says.Hold a) _ f e h = false≢true h
late (says.Activate n) _ f e h = false≢true h
late says.Tick _ f e h = false≢true h
late says.End _ f e h = false≢true h

head_first : (old : List Sentence) (line : List (List ℕ)) (more : List (List (List ℕ))) (s : Sentence) → sentence_said line ≡ Ok s → head_said old (line ∷ more) ≡ head_behind old (Ok s) (λ old. head_said old more)
unfolding head_said
head_first old line more s e = ap (λ (r : Result Sentence Reason). head_behind old r (λ old. head_said old more)) e

abbrev Headed : Before → List (List (List ℕ)) → Type 0
Headed old lines = (reading_of old lines).items ≡ head_said old.sentences lines ∷ frames_behind (ticks_in lines) 0 no_items (items_of 0 lines)

-- a line that is no item and no tick, before `start`
head_step : (old : Before) (line : List (List ℕ)) (more : List (List (List ℕ))) (head : Given) (read : List Given) (v : PlanVerb) → verb_in line ≡ Some v → items_by 0 (Some v) line ≡ [] → ticks_by (Some v) ≡ 0 → head_said old.sentences (line ∷ more) ≡ head → read ≡ head ∷ frames_behind (ticks_in more) 0 no_items (items_of 0 more) → read ≡ head_said old.sentences (line ∷ more) ∷ frames_behind (ticks_in (line ∷ more)) 0 no_items (items_of 0 (line ∷ more))
head_step old line more head read v verb none still first given =
    let same : 0 + ticks_by (Some v) ≡ 0 = omega (arith, still) in
    let few : ticks_by (Some v) + ticks_in more ≡ ticks_in more = omega (arith, still) in
    given
    ∙ sym (ap (λ (g : Given). g ∷ frames_behind (ticks_in (line ∷ more)) 0 no_items (items_of 0 (line ∷ more))) first
    ∙ ap (λ (k : ℕ). head ∷ frames_behind k 0 no_items (items_of 0 (line ∷ more))) (ticks_at line more v verb ∙ few)
    ∙ ap (λ (is : List FrameItem). head ∷ frames_behind (ticks_in more) 0 no_items is) (items_at 0 line more v verb ∙ ap (λ (is : List FrameItem). is ++ items_of (0 + ticks_by (Some v)) more) none ∙ ap (λ (m : ℕ). items_of m more) same))

header_step : (s : Sentence) (old : Before) (line : List (List ℕ)) (more : List (List (List ℕ))) → AllByRecursion IsTextLine more → is_started (place_after old.sentences) ≡ false → Reads old line s → (reading_of (passed old (as_line line) (Some s)) more).ending ≡ Ended → (is_started (place_behind s) ≡ false → Headed (passed old (as_line line) (Some s)) more) → given old.sentences (Some s) ++ (reading_of (passed old (as_line line) (Some s)) more).items ≡ head_said old.sentences (line ∷ more) ∷ frames_behind (ticks_in (line ∷ more)) 0 no_items (items_of 0 (line ∷ more))
header_step (says.Epoch n) old line more all fresh is ends behind = head_step old line more _ _ plan_verbs.Epoch is.verb refl refl (head_first old.sentences line more (says.Epoch n) is.says) (behind refl)
header_step (says.Region r) old line more all fresh is ends behind = head_step old line more _ _ plan_verbs.Region is.verb refl refl (head_first old.sentences line more (says.Region r) is.says) (behind refl)
header_step says.Start old line more all fresh is ends behind =
    head_step old line more (Head (epoch_of old.sentences) (regions_of old.sentences)) _ plan_verbs.Start is.verb refl refl (head_first old.sentences line more says.Start is.says)
    (ap (λ (fs : List Given). Head (epoch_of old.sentences) (regions_of old.sentences) ∷ fs) (in_frames more 0 (passed old (as_line line) (Some says.Start)) all refl ends))
header_step (says.Send p) old line more all fresh is ends behind = absurd (late (says.Send p) (place_after old.sentences) refl fresh is.place)
header_step (says.Count c) old line more all fresh is ends behind = absurd (late (says.Count c) (place_after old.sentences) refl fresh is.place)
header_step (says.Upset u) old line more all fresh is ends behind = absurd (late (says.Upset u) (place_after old.sentences) refl fresh is.place)
header_step (says.Hold a) old line more all fresh is ends behind = absurd (late (says.Hold a) (place_after old.sentences) refl fresh is.place)
header_step (says.Activate k) old line more all fresh is ends behind = absurd (late (says.Activate k) (place_after old.sentences) refl fresh is.place)
header_step says.Tick old line more all fresh is ends behind = absurd (late says.Tick (place_after old.sentences) refl fresh is.place)
header_step says.End old line more all fresh is ends behind = absurd (late says.End (place_after old.sentences) refl fresh is.place)

abbrev ending_by : Place → ℕ → Ending
ending_by place lines = elim place [
  | places.Opening ↦ Unended lines
  | places.Header ↦ Unended lines
  | places.Between ↦ Unended lines
  | places.Inside ↦ Unended lines
  | places.Ended ↦ Ended
]

unstarted_ends : (place : Place) (lines : ℕ) → is_started place ≡ false → ending_by place lines ≡ Ended → ⊥
unstarted_ends places.Opening lines fresh e = cc
unstarted_ends places.Header lines fresh e = cc
unstarted_ends places.Between lines fresh e = false≢true (sym fresh)
unstarted_ends places.Inside lines fresh e = false≢true (sym fresh)
unstarted_ends places.Ended lines fresh e = false≢true (sym fresh)

in_header : (lines : List (List (List ℕ))) (old : Before) → AllByRecursion IsTextLine lines → is_started (place_after old.sentences) ≡ false → (reading_of old lines).ending ≡ Ended → Headed old lines
unfolding read
in_header [] old all fresh ends = absurd (unstarted_ends (place_after old.sentences) old.lines fresh ends)
in_header (line ∷ more) old all fresh ends =
    let st = step old line more all.0 ends in
    st.items ∙ header_step st.s old line more all.1 fresh st.is st.ends (λ before. in_header more (passed old (as_line line) (Some st.s)) all.1 before st.ends)

-- ---- the whole text

reading_is : (lines : List (List (List ℕ))) → AllByRecursion IsTextLine lines → reading (record { bytes = text_of lines; closed = true }) ≡ reading_of nothing lines
unfolding reading read_bytes
reading_is lines all = ap (read true nothing) (whole_text lines all)

-- a text of such lines gives its header and frames, where it ends well
pub lines_given : (lines : List (List (List ℕ))) → AllByRecursion IsTextLine lines → (reading (record { bytes = text_of lines; closed = true })).ending ≡ Ended
    → (reading (record { bytes = text_of lines; closed = true })).items ≡ head_said [] lines ∷ frames_said (ticks_in lines) 0 (items_of 0 lines)
lines_given lines all ends =
    let same = reading_is lines all in
    ap (λ (r : Reading). r.items) same
    ∙ in_header lines nothing all refl (sym (ap (λ (r : Reading). r.ending) same) ∙ ends)
    ∙ ap (λ (fs : List Given). head_said [] lines ∷ fs) (sym (frames_begun (ticks_in lines) 0 (items_of 0 lines)))

-- a scenario that is made gives its plan's header and frames, where it ends well
pub plan_given : (cs : List Command) (text : List ℕ) (lines : List (List (List ℕ))) → are_good cs ≡ true → plan_said cs text ≡ Ok lines → (reading (record { bytes = text_of lines; closed = true })).ending ≡ Ended
    → (reading (record { bytes = text_of lines; closed = true })).items ≡ head_said [] lines ∷ frames_said (ticks_in lines) 0 (plan_items cs stages.Opening (kept_of 1 text))
plan_given cs text lines good e ends =
    lines_given lines (made_lines cs text lines good e) ends
    ∙ ap (λ (is : List FrameItem). head_said [] lines ∷ frames_said (ticks_in lines) 0 is) (items_keep cs text lines e)
