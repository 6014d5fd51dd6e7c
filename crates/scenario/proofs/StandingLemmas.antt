-- What becomes of the standing of a reader when it is opened, fed, finished, and when it passes a line.
use Rattle.std.proofs.Common.{◌≡◌, ℕ, ◌+◌, ◌<◌, ◌≤◌, zero, suc, min, Bool, true, false, ◌&&◌, ◌||◌, nat_lt, if◌then◌else◌, List, [], ◌∷◌, ◌++◌, length, map, take, get_or, Option, Some, None, is_some, unwrap_or, Ok, Err, refl, ap, sym, ◌∙◌, subst, arith, append_assoc, append-nil, length-append, length-take, take_all}
use Rattle.std.specs.List.{position, position_or_len, AllByRecursion}
use Rattle.std.proofs.Math.Seq.{get_or-append_seam}
use Rattle.std.proofs.lemmas.List.{length-map, length-take-le, take_more as take_push}
use Rattle.std.proofs.lemmas.List.Quantifiers.{position-Some}
use Rattle.std.proofs.lemmas.Bool.{false≢true, eqb-true}
use Rattle.std.proofs.lemmas.Bool.Decides.{nat_tests}
use Rattle.scenario.specs.declared.item.Item.{Item as Answer}
use Rattle.scenario.specs.declared.item.Item.TheVariants as answers
use Rattle.scenario.specs.declared.progress.Header.{Header}
use Rattle.scenario.specs.declared.reader.Reader.{Reader}
use Rattle.scenario.specs.declared.reason.Reason.{Reason}
use Rattle.scenario.specs.declared.sentence.Place.{Place}
use Rattle.scenario.specs.declared.sentence.Place.TheVariants as places
use Rattle.scenario.specs.declared.sentence.Sentence.{Sentence}
use Rattle.scenario.specs.declared.sentence.Sentence.TheVariants as says
use Rattle.scenario.specs.Sentences.{stands_at, verb_said, IsPlaced}
use Rattle.scenario.specs.Frames.{place_after, epoch_of, regions_of, frame_of, header_of}
use Rattle.scenario.specs.Texts.{Text, Line, Before, nothing, Given, Head, Whole, Reading, Bad, Ended, Unended, with_items, reads, passed, given, read_bytes, reading, ending_at}
use Rattle.scenario.specs.Following.{Follows}
use Rattle.scenario.specs.Answers.{item_said, end_answer, answer_at_end, IsLast, IsItem}
use Rattle.scenario.specs.Standing.{Stands, fed, is_lf, IsNoLf, line_bytes, HasHead, has_line, left, Passes}
use Rattle.scenario.specs.LineLaws.{reads_short, with_items-with_items, passed_bytes, never_bad}
use Rattle.scenario.specs.PlaceLaws.{HasPlace, place_on, not_started_start, started_tick}
use Rattle.scenario.proofs.WordsLemmas.{position_is, position_none, take_more}
use Rattle.scenario.proofs.LineLemmas.{read_line, read_line_bad, read_last, read_last_bad, read_rest}

-- a reader that was just opened
pub stands_opened : (r : Reader) → r.line.value ≡ [] → r.whole ≡ false → r.finished ≡ false → Follows r.progress nothing → r.progress.shown ≡ false
    → Stands r (record { bytes = []; closed = false }) []
unfolding reading
stands_opened r empty whole unfinished follows hidden = record {
  seen = [];
  before = nothing;
  stops = [];
  bytes = rw (whole, empty) refl;
  ended = sym unfinished;
  follows = follows;
  line = rw empty tt;
  short = rw (whole, empty) (omega arith);
  now = rw (whole, empty) refl;
  later = λ _ more end. refl;
  count = refl;
  ends = refl;
  started = refl;
  head = refl;
  shown = λ shown. absurd (false≢true (sym hidden ∙ shown));
}

plain_append : (xs ys : List ℕ) → AllByRecursion IsNoLf xs → AllByRecursion IsNoLf ys → AllByRecursion IsNoLf (xs ++ ys)
plain_append [] ys h k = k
plain_append (x ∷ xs) ys h k = (h.0, plain_append xs ys h.1 k)

-- the bytes that were fed: a part of the line, and its LF
abbrev pub with_lf : Bool → List ℕ → List ℕ
with_lf lf part = if lf then part ++ 10 ∷ [] else part

line_more : (lf : Bool) (line part : List ℕ) → line ++ with_lf lf part ≡ with_lf lf (line ++ part)
line_more true line part = sym (append_assoc line part (10 ∷ []))
line_more false line part = refl

left_is : (b : Bool) (xs : List ℕ) → (if b then length xs + 1 else length xs) ≡ length (if b then xs ++ 10 ∷ [] else xs)
left_is true xs = sym (length-append xs (10 ∷ []))
left_is false xs = refl

-- bytes are fed to a reader that waits for them
pub stands_fed : (r q : Reader) (part more : List ℕ) (lf : Bool) → r.whole ≡ false → r.finished ≡ false
    → q.whole ≡ lf → q.finished ≡ r.finished → q.progress ≡ r.progress → q.line.value ≡ r.line.value ++ part
    → AllByRecursion IsNoLf part → length r.line.value + length more ≤ 641 → more ≡ with_lf lf part
    → (t : Text) (gave : List Given) → Stands r t gave → Stands q (fed t more) gave
stands_fed r q part more lf unwhole unfinished whole finished progress line plain short parts t gave s =
    let items = r.line.value in
    let held : line_bytes r ≡ items = rw unwhole refl in
    let holds : items ++ more ≡ line_bytes q = rw (parts, whole, line) (line_more lf items part) in
    let bytes : t.bytes ++ more ≡ s.seen ++ line_bytes q =
    ap (λ bs. bs ++ more) (s.bytes ∙ ap (λ bs. s.seen ++ bs) held) ∙ append_assoc s.seen items more ∙ ap (λ bs. s.seen ++ bs) holds in
    let size : length items + length more ≡ length (line_bytes q) = sym (length-append items more) ∙ ap length holds in
    record {
      seen = s.seen;
      before = s.before;
      stops = s.stops;
      bytes = bytes;
      ended = s.ended ∙ sym finished;
      follows = rw progress s.follows;
      line = rw line (plain_append _ _ s.line plain);
      short = subst (λ n. n ≤ 641) (size ∙ sym (left_is q.whole q.line.value)) short;
      now = rw bytes (s.later (s.ended ∙ unfinished) (line_bytes q) t.closed);
      later = s.later;
      count = s.count;
      ends = s.ends;
      started = s.started;
      head = s.head;
      shown = rw progress s.shown;
    }

-- the line that is whole, read
pub read_is_good : (b : Bool) (end : Bool) (old : Before) (bytes : List ℕ) (said : Option Sentence) → AllByRecursion IsNoLf bytes
    → (b || nat_lt 640 (length bytes) || (end && nat_lt 0 (length bytes))) ≡ true
    → reads old (record { bytes = bytes; takes = if b then length bytes + 1 else length bytes }) ≡ Ok said
    → read_bytes end old (if b then bytes ++ 10 ∷ [] else bytes)
    ≡ with_items (given old.sentences said) (map (λ _. old.bytes + (if b then length bytes + 1 else length bytes)) (given old.sentences said))
    (read_bytes end (passed old (record { bytes = bytes; takes = if b then length bytes + 1 else length bytes }) said) [])
read_is_good true end old bytes said plain whole e = read_line end old bytes [] said plain e
read_is_good false end old bytes said plain whole e = read_last end old bytes said plain whole e

read_is_bad : (b : Bool) (end : Bool) (old : Before) (bytes : List ℕ) (reason : Reason) → AllByRecursion IsNoLf bytes
    → (b || nat_lt 640 (length bytes) || (end && nat_lt 0 (length bytes))) ≡ true
    → reads old (record { bytes = bytes; takes = if b then length bytes + 1 else length bytes }) ≡ Err reason
    → read_bytes end old (if b then bytes ++ 10 ∷ [] else bytes)
    ≡ record { items = []; ending = Bad (old.lines + 1) reason; stops = (old.bytes + min 641 (if b then length bytes + 1 else length bytes)) ∷ [] }
read_is_bad true end old bytes reason plain whole e = read_line_bad end old bytes [] reason plain e
read_is_bad false end old bytes reason plain whole e = read_last_bad end old bytes reason plain whole e

-- a frame that was shown is let go
pub stands_begun : (r q : Reader) → q.line ≡ r.line → q.whole ≡ r.whole → q.finished ≡ r.finished
    → ((old : Before) → Follows r.progress old → Follows q.progress old) → q.progress.shown ≡ false
    → (t : Text) (gave : List Given) → Stands r t gave → Stands q t gave
stands_begun r q line whole finished follows hidden t gave s = record {
  seen = s.seen;
  before = s.before;
  stops = s.stops;
  bytes = rw (whole, line) s.bytes;
  ended = s.ended ∙ sym finished;
  follows = follows s.before s.follows;
  line = rw line s.line;
  short = rw (whole, line) s.short;
  now = rw (whole, line) s.now;
  later = s.later;
  count = s.count;
  ends = s.ends;
  started = s.started;
  head = s.head;
  shown = λ shown. absurd (false≢true (sym hidden ∙ shown));
}

-- ---- where no line is left

ending_answer : (end : Bool) (old : Before) (place : Place) (lines : ℕ) → place ≡ place_after old.sentences → lines ≡ old.lines
    → end_answer end place lines ≡ answer_at_end (ending_at end old)
ending_answer false old place lines e1 e2 = refl
ending_answer true old place lines e1 e2 = rw (e1, e2) (by_place (place_after old.sentences) old.lines) where
  by_place : (place : Place) (lines : ℕ) → end_answer true place lines ≡ answer_at_end (elim place [ places.Ended ↦ Ended | _ ↦ Unended lines ])
  by_place places.Opening lines = refl
  by_place places.Header lines = refl
  by_place places.Between lines = refl
  by_place places.Inside lines = refl
  by_place places.Ended lines = refl

-- what is known where no line is left
pub record AtEnd (r : Reader) (t : Text) (gave : List Given) : Type 0 where
  pub gave_all : gave ≡ (reading t).items
  pub answer : end_answer r.finished r.progress.place r.progress.lines ≡ answer_at_end (reading t).ending
  pub not_bad : (line : ℕ) (reason : Reason) → (reading t).ending ≡ Bad line reason → ⊥

rest_is : (b end : Bool) (old : Before) (bytes : List ℕ) → AllByRecursion IsNoLf bytes
    → (b || nat_lt 640 (length bytes) || (end && nat_lt 0 (length bytes))) ≡ false
    → read_bytes end old (if b then bytes ++ 10 ∷ [] else bytes) ≡ record { items = []; ending = ending_at end old; stops = [] }
rest_is true end old bytes plain none = absurd (false≢true (sym none))
rest_is false end old bytes plain none = read_rest end old bytes plain none

pub at_the_end : (r : Reader) (t : Text) (gave : List Given) → Stands r t gave → has_line r ≡ false → AtEnd r t gave
at_the_end r t gave s none =
    let nothing_left = rest_is r.whole t.closed s.before r.line.value s.line (rw s.ended none) in
    let all = s.now ∙ ap (with_items gave s.stops) nothing_left in
    record {
      gave_all = sym (ap (λ (x : Reading). x.items) all ∙ append-nil gave);
      answer = rw (all, ← s.ended) (ending_answer t.closed s.before r.progress.place r.progress.lines s.follows.place s.follows.lines);
      not_bad = λ line reason e. never_bad t.closed s.before line reason (sym (ap (λ (x : Reading). x.ending) all) ∙ e);
    }

-- ---- at a bad line

pub index_behind : (xs : List ℕ) (x : ℕ) (ys : List ℕ) (n : ℕ) → length xs ≡ n → get_or (xs ++ x ∷ ys) n 0 ≡ x
index_behind xs x ys n e = rw (← e) (get_or-append_seam xs x ys 0)

pub size_is : (r : Reader) (t : Text) (gave : List Given) (s : Stands r t gave) → s.before.bytes + left r ≡ length t.bytes
size_is r t gave s = ap (λ n. s.before.bytes + n) (left_is r.whole r.line.value) ∙ ap (λ n. n + length (line_bytes r)) s.count ∙ sym (length-append s.seen (line_bytes r)) ∙ ap length (sym s.bytes)

-- what is known at a bad line
pub record AtBad (r : Reader) (t : Text) (gave : List Given) (reason : Reason) : Type 0 where
  pub gave_all : gave ≡ (reading t).items
  pub ending : (reading t).ending ≡ Bad (r.progress.lines + 1) reason
  pub stop : get_or (reading t).stops (length gave) 0 ≡ length t.bytes

pub at_bad : (r : Reader) (t : Text) (gave : List Given) (reason : Reason) → Stands r t gave → has_line r ≡ true
    → ((old : Before) → Follows r.progress old → Err reason ≡ reads old (record { bytes = r.line.value; takes = left r })) → AtBad r t gave reason
at_bad r t gave reason s some refused =
    let bad = read_is_bad r.whole t.closed s.before r.line.value reason s.line (rw s.ended some) (sym (refused s.before s.follows)) in
    let all = s.now ∙ ap (with_items gave s.stops) bad in
    let short : left r ≤ 641 = s.short in
    let whole : min 641 (left r) ≡ left r = omega arith in
    record {
      gave_all = sym (ap (λ (x : Reading). x.items) all ∙ append-nil gave);
      ending = ap (λ (x : Reading). x.ending) all ∙ rw s.follows.lines refl;
      stop = ap (λ (x : Reading). get_or x.stops (length gave) 0) all ∙ index_behind s.stops _ [] (length gave) s.ends ∙ ap (λ n. s.before.bytes + n) whole ∙ size_is r t gave s;
    }

-- ---- a good line is passed

place_passed : (old : Before) (line : Line) (said : Option Sentence) → IsPlaced (place_after old.sentences) said → HasPlace old.sentences → HasPlace (passed old line said).sentences
place_passed old line None h k = k
place_passed old line (Some s) h k = place_on old.sentences s h k

head_none : (h : Option Header) (gave : List Given) → is_some h ≡ false → HasHead h gave → gave ≡ []
head_none None gave e k = k
head_none (Some h) gave e k = absurd (false≢true (sym e))

head_more : (h : Option Header) (gave more : List Given) → is_some h ≡ true → HasHead h gave → HasHead h (gave ++ more)
head_more None gave more e k = absurd (false≢true e)
head_more (Some h) gave more e k = (k.0 ++ more, ap (λ xs. xs ++ more) k.1)

head_same : (h : Option Header) (gave : List Given) → HasHead h gave → HasHead h (gave ++ [])
head_same h gave k = rw append-nil k

head_on : (old : List Sentence) (s : Sentence) (gave : List Given) → stands_at (place_after old) (verb_said s) ≡ true → HasPlace old → HasHead (header_of old) gave
    → HasHead (header_of (s ∷ old)) (gave ++ given old (Some s))
head_on old (says.Epoch n) gave h k head = head_same (header_of old) gave head
head_on old (says.Region r) gave h k head = head_same (header_of old) gave head
head_on old says.Start gave h k head = ([], ap (λ xs. xs ++ Head (epoch_of old) (regions_of old) ∷ []) (head_none (header_of old) gave (sym k ∙ not_started_start _ h) head))
head_on old (says.Send p) gave h k head = head_same (header_of old) gave head
head_on old (says.Count c) gave h k head = head_same (header_of old) gave head
head_on old (says.Upset u) gave h k head = head_same (header_of old) gave head
head_on old (says.Hold a) gave h k head = head_same (header_of old) gave head
head_on old (says.Activate n) gave h k head = head_same (header_of old) gave head
head_on old says.Tick gave h k head = head_more (header_of old) gave _ (sym k ∙ started_tick _ h) head
head_on old says.End gave h k head = head_same (header_of old) gave head

head_passed : (old : Before) (line : Line) (said : Option Sentence) (gave : List Given) → IsPlaced (place_after old.sentences) said → HasPlace old.sentences → HasHead (header_of old.sentences) gave
    → HasHead (header_of (passed old line said).sentences) (gave ++ given old.sentences said)
head_passed old line None gave h k head = head_same (header_of old.sentences) gave head
head_passed old line (Some s) gave h k head = head_on old.sentences s gave h k head

later_good : (b end : Bool) (old : Before) (bytes more : List ℕ) (said : Option Sentence) → AllByRecursion IsNoLf bytes → b ≡ true
    → reads old (record { bytes = bytes; takes = if b then length bytes + 1 else length bytes }) ≡ Ok said
    → read_bytes end old ((if b then bytes ++ 10 ∷ [] else bytes) ++ more)
    ≡ with_items (given old.sentences said) (map (λ _. old.bytes + (if b then length bytes + 1 else length bytes)) (given old.sentences said))
    (read_bytes end (passed old (record { bytes = bytes; takes = if b then length bytes + 1 else length bytes }) said) more)
later_good true end old bytes more said plain e h = ap (read_bytes end old) (append_assoc bytes (10 ∷ []) more) ∙ read_line end old bytes more said plain h
later_good false end old bytes more said plain e h = absurd (false≢true e)

must_be_whole : (b finished : Bool) (n : ℕ) → finished ≡ false → n ≤ 640 → (b || nat_lt 640 n || (finished && nat_lt 0 n)) ≡ true → b ≡ true
must_be_whole true finished n e short h = refl
must_be_whole false finished n e short h =
    let long : nat_lt 640 n ≡ false = grind (arith, nat_tests) in
    absurd (false≢true (let k = rw (e, long) at h in k))

-- the line that was passed
abbrev pub good_line : Reader → Line
good_line r = record { bytes = r.line.value; takes = left r }

-- a good line is passed
pub stands_passed : (r q : Reader) (said : Option Sentence) (answer : Answer) → Passes r said answer q → r.progress.shown ≡ false → has_line r ≡ true → IsPlaced r.progress.place said
    → ((old : Before) → Follows r.progress old → Ok said ≡ reads old (good_line r))
    → (t : Text) (gave : List Given) (s : Stands r t gave) → Stands q t (gave ++ given s.before.sentences said)
stands_passed r q said answer p hidden some place good t gave s =
    let items = r.line.value in
    let old = s.before in
    let e = sym (good old s.follows) in
    let g = given old.sentences said in
    let m = map (λ _. old.bytes + left r) g in
    let placed : IsPlaced (place_after old.sentences) said = subst (λ x. IsPlaced x said) s.follows.place place in
    let none : line_bytes q ≡ [] = rw (p.whole, p.line) refl in
    record {
      seen = s.seen ++ line_bytes r;
      before = passed old (good_line r) said;
      stops = s.stops ++ m;
      bytes = rw (none, append-nil) s.bytes;
      ended = s.ended ∙ sym p.finished;
      follows = p.follows old items s.follows;
      line = rw p.line tt;
      short = rw (p.whole, p.line) (omega arith);
      now = rw none (s.now ∙ ap (with_items gave s.stops) (read_is_good r.whole t.closed old items said s.line (rw s.ended some) e) ∙ with_items-with_items gave g s.stops m _);
      later = λ unclosed more end.
          let whole = must_be_whole r.whole r.finished (length items) (sym s.ended ∙ unclosed) (reads_short old (good_line r) said e).0 some in
          rw (append_assoc s.seen (line_bytes r) more) (s.later unclosed (line_bytes r ++ more) end ∙ ap (with_items gave s.stops) (later_good r.whole end old items more said s.line whole e) ∙ with_items-with_items gave g s.stops m _);
      count = passed_bytes old (good_line r) said ∙ ap (λ n. n + left r) s.count ∙ ap (λ n. length s.seen + n) (left_is r.whole items) ∙ sym (length-append s.seen (line_bytes r));
      ends = length-append s.stops m ∙ ap (λ n. n + length m) s.ends ∙ ap (λ n. length gave + n) (length-map g (λ _. old.bytes + left r)) ∙ sym (length-append gave g);
      started = place_passed old (good_line r) said placed s.started;
      head = head_passed old (good_line r) said gave placed s.started s.head;
      shown = λ shown.
          let tick = p.keeps.shown shown in
          let frame : r.progress.frame.value ≡ frame_of old.sentences = rw hidden at s.follows.frame in
          (gave, rw (tick, (p.keeps.tick tick).1, frame) refl);
    }

pub end_last : (end : Bool) (place : Place) (lines : ℕ) → IsLast (end_answer end place lines)
end_last false place lines = tt
end_last true places.Ended lines = tt
end_last true _ lines = tt

not_both : (a : Answer) → IsLast a → IsItem a → ⊥
not_both answers.Header l h = l
not_both answers.Frame l h = l
not_both _ l h = h

-- what was said where the header is answered
pub said_header : (said : Option Sentence) (e : Answer) → IsLast e → answers.Header ≡ unwrap_or (item_said said) e → said ≡ Some says.Start
said_header (Some says.Start) e l h = refl
said_header (Some says.Tick) e l h = absurd (let k : answers.Header ≡ answers.Frame = h in cc)
said_header _ e l h = absurd (subst IsLast (sym h) l)

-- what was said where a frame is answered
pub said_frame : (said : Option Sentence) (e : Answer) → IsLast e → answers.Frame ≡ unwrap_or (item_said said) e → said ≡ Some says.Tick
said_frame (Some says.Tick) e l h = refl
said_frame (Some says.Start) e l h = absurd (let k : answers.Frame ≡ answers.Header = h in cc)
said_frame _ e l h = absurd (subst IsLast (sym h) l)

-- where no item is answered none is given
pub said_last : (old : List Sentence) (said : Option Sentence) (e : Answer) → IsLast (unwrap_or (item_said said) e) → (given old said ≡ []) × (unwrap_or (item_said said) e ≡ e)
said_last old (Some says.Start) e l = absurd l
said_last old (Some says.Tick) e l = absurd l
said_last old _ e l = (refl, refl)

-- where an item is answered one is given
pub said_item : (old : List Sentence) (said : Option Sentence) (e : Answer) → IsLast e → IsItem (unwrap_or (item_said said) e) → (item : Given) × (given old said ≡ item ∷ [])
said_item old (Some says.Start) e l h = (Head (epoch_of old) (regions_of old), refl)
said_item old (Some says.Tick) e l h = (Whole (frame_of old), refl)
said_item old _ e l h = absurd (not_both e l h)

-- ---- pieces

waits_when : (b : Bool) (n : ℕ) (c : Bool) → (b || nat_lt 640 n || c) ≡ false → (b ≡ false) × (n ≤ 640)
waits_when true n c h = absurd (false≢true (sym h))
waits_when false n c h = (refl, grind (arith, nat_tests))

-- a reader that waits has no LF, and at most 640 bytes
pub waits_is : (r : Reader) → has_line r ≡ false → (r.whole ≡ false) × (length r.line.value ≤ 640)
waits_is r h = waits_when r.whole (length r.line.value) _ h

plain_one : (x : ℕ) (xs : List ℕ) (b : Bool) → is_lf x ≡ b → AllByRecursion IsNoLf (take (position_or_len is_lf xs) xs) → AllByRecursion IsNoLf (take (position_or_len is_lf (x ∷ xs)) (x ∷ xs))
plain_one x xs true e h = rw e tt
plain_one x xs false e h = rw e (rw take_more (e, h))

-- before the first LF there is none
pub plain_front : (xs : List ℕ) → AllByRecursion IsNoLf (take (position_or_len is_lf xs) xs)
plain_front [] = tt
plain_front (x ∷ xs) = plain_one x xs (is_lf x) refl (plain_front xs)

-- where there is none
pub plain_all : (xs : List ℕ) → None ≡ position is_lf xs → AllByRecursion IsNoLf xs
plain_all xs e = subst (AllByRecursion IsNoLf) (take_all _ xs (position_none is_lf xs (sym e))) (plain_front xs)

-- where the first one is at a place
pub plain_before : (xs : List ℕ) (at : ℕ) → Some at ≡ position is_lf xs → AllByRecursion IsNoLf (take at xs)
plain_before xs at e = rw (position_is is_lf xs at (sym e)).0 (plain_front xs)

take_take : (i m : ℕ) (xs : List ℕ) → i ≤ m → take i (take m xs) ≡ take i xs
take_take zero m xs h = refl
take_take (suc i) zero xs h = absurd (omega (arith, h))
take_take (suc i) (suc m) [] h = refl
take_take (suc i) (suc m) (x ∷ xs) h = ap (λ ys. x ∷ ys) (take_take i m xs (omega arith))

lf_at : (xs : List ℕ) (at : ℕ) → Some at ≡ position is_lf xs → (get_or xs at 0 ≡ 10) × (at < length xs)
lf_at xs at e =
    let found = position-Some is_lf xs at 0 (sym e) in
    (eqb-true (get_or xs at 0) 10 found.1, found.0)

-- a piece with an LF near: what is taken, and how long it is
pub takes_lf : (piece near : List ℕ) (most at : ℕ) → near ≡ take most piece → most ≤ length piece → Some at ≡ position is_lf near
    → (take (at + 1) piece ≡ take at near ++ 10 ∷ []) × (length (take (at + 1) piece) ≤ most)
takes_lf piece near most at e few found =
    let here = lf_at near at found in
    let size : length near ≡ most = rw e (length-take-le most piece few) in
    let within : at + 1 ≤ most = omega (arith, here.1) in
    let whole : take (at + 1) near ≡ take (at + 1) piece = rw e (take_take (at + 1) most piece within) in
    (sym whole ∙ take_push near at 0 here.1 ∙ ap (λ b. take at near ++ b ∷ []) here.0, rw length-take (omega arith))

-- a piece without an LF near
pub takes_front : (piece near : List ℕ) (most : ℕ) → near ≡ take most piece → most ≤ length piece → (take (length near) piece ≡ near) × (length (take (length near) piece) ≤ most)
takes_front piece near most e few =
    let size : length near ≡ most = rw e (length-take-le most piece few) in
    (rw size (sym e), rw length-take (omega arith))
