-- What `next` answers, by what the line says that it looked at.
use Rattle.std.proofs.Common.{◌≡◌, ℕ, ◌+◌, Bool, true, false, ◌&&◌, List, [], ◌∷◌, ◌++◌, length, map, get_or, Option, Ok, refl, ap, sym, ◌∙◌, subst, append-nil}
use Rattle.scenario.specs.declared.item.Item.{Item as Answer}
use Rattle.scenario.specs.declared.item.Item.TheVariants as answers
use Rattle.scenario.specs.declared.reader.Reader.{Reader}
use Rattle.scenario.specs.declared.progress.Progress.{Progress}
use Rattle.scenario.specs.declared.sentence.Sentence.{Sentence}
use Rattle.scenario.specs.Sentences.{IsPlaced}
use Rattle.scenario.specs.Frames.{frame_of}
use Rattle.scenario.specs.Texts.{Text, Line, Before, Given, Reading, with_items, reads, passed, given, read_bytes, reading}
use Rattle.scenario.specs.Following.{Follows}
use Rattle.scenario.specs.Answers.{end_answer, IsLast, IsItem}
use Rattle.scenario.specs.Standing.{Stands, Passes, has_line, left, header_in, frame_in}
use Rattle.scenario.proofs.StandingLemmas.{stands_passed, good_line, read_is_good, at_the_end, AtEnd, end_last, said_header, said_frame, said_last, said_item, index_behind, size_is}

-- a good line was looked at and passed
pub record LooksGood (r q : Reader) (said : Option Sentence) (answer : Answer) : Type 0 where
  pub passes : Passes r said answer q
  pub hidden : r.progress.shown ≡ false
  pub some : has_line r ≡ true
  pub placed : IsPlaced r.progress.place said
  pub good : (old : Before) → Follows r.progress old → Ok said ≡ reads old (good_line r)

pub same_line : (a b : List ℕ) (m n : ℕ) → a ≡ b → m ≡ n → (let x : Line = record { bytes = a; takes = m } in x) ≡ record { bytes = b; takes = n }
same_line a b m n e1 e2 = rw (e1, e2) refl

-- what didn't change stands as before
pub kept_follows : (p q k : Progress) → k ≡ q → ((old : Before) → Follows p old → Follows q old) → (old : Before) → Follows p old → Follows k old
kept_follows p q k same follows old f = rw same (follows old f)

pub kept_hidden : (q k : Progress) → k ≡ q → q.shown ≡ false → k.shown ≡ false
kept_hidden q k same hidden = rw same hidden

passed_on : (r q : Reader) (said : Option Sentence) (answer : Answer) → LooksGood r q said answer → (t : Text) (gave : List Given) (s : Stands r t gave) → Stands q t (gave ++ given s.before.sentences said)
passed_on r q said answer l t gave s = stands_passed r q said answer l.passes l.hidden l.some l.placed l.good t gave s

pub good_header : (r q : Reader) (said : Option Sentence) (answer : Answer) → LooksGood r q said answer → answer ≡ answers.Header
    → (t : Text) (gave : List Given) → Stands r t gave → Stands q t (gave ++ header_in q ∷ [])
good_header r q said answer l h t gave s =
    let start = said_header said _ (end_last r.finished q.progress.place q.progress.lines) (sym h ∙ l.passes.answer) in
    let f = rw start at (l.passes.follows s.before r.line.value s.follows) in
    let item : given s.before.sentences said ≡ header_in q ∷ [] = rw (start, f.epoch, f.regions) refl in
    subst (λ items. Stands q t (gave ++ items)) item (passed_on r q said answer l t gave s)

pub good_frame : (r q : Reader) (said : Option Sentence) (answer : Answer) → LooksGood r q said answer → answer ≡ answers.Frame
    → (t : Text) (gave : List Given) → Stands r t gave → Stands q t (gave ++ frame_in q ∷ [])
good_frame r q said answer l h t gave s =
    let tick = said_frame said _ (end_last r.finished q.progress.place q.progress.lines) (sym h ∙ l.passes.answer) in
    let frame : r.progress.frame.value ≡ frame_of s.before.sentences = rw l.hidden at s.follows.frame in
    let item : given s.before.sentences said ≡ frame_in q ∷ [] = rw (tick, (l.passes.keeps.tick tick).1, frame) refl in
    subst (λ items. Stands q t (gave ++ items)) item (passed_on r q said answer l t gave s)

passed_waits : (r q : Reader) (said : Option Sentence) (answer : Answer) → Passes r said answer q → has_line q ≡ false
passed_waits r q said answer p = rw (p.whole, p.line) (none q.finished) where
  none : (b : Bool) → (b && false) ≡ false
  none true = refl
  none false = refl

-- no item was answered
pub good_last : (r q : Reader) (said : Option Sentence) (answer : Answer) → LooksGood r q said answer → IsLast answer
    → (t : Text) (gave : List Given) → Stands r t gave → Stands q t gave × AtEnd q t gave × (answer ≡ end_answer q.finished q.progress.place q.progress.lines)
good_last r q said answer l last t gave s =
    let none = said_last s.before.sentences said (end_answer r.finished q.progress.place q.progress.lines) (subst IsLast l.passes.answer last) in
    let stands : Stands q t gave = subst (λ items. Stands q t items) (ap (λ items. gave ++ items) none.0 ∙ append-nil gave) (passed_on r q said answer l t gave s) in
    (stands, at_the_end q t gave stands (passed_waits r q said answer l.passes), l.passes.answer ∙ none.1 ∙ rw l.passes.finished refl)

-- an item was answered: its line ends where the bytes end
pub good_stop : (r q : Reader) (said : Option Sentence) (answer : Answer) → LooksGood r q said answer → IsItem answer
    → (t : Text) (gave : List Given) → Stands r t gave → get_or (reading t).stops (length gave) 0 ≡ length t.bytes
good_stop r q said answer l item t gave s =
    let one = said_item s.before.sentences said (end_answer r.finished q.progress.place q.progress.lines) (end_last _ _ _) (subst IsItem l.passes.answer item) in
    let good = read_is_good r.whole t.closed s.before r.line.value said s.line (rw s.ended l.some) (sym (l.good s.before s.follows)) in
    let all = s.now ∙ ap (with_items gave s.stops) good in
    let rest : List ℕ = (read_bytes t.closed (passed s.before (good_line r) said) []).stops in
    let stops : map (λ _. s.before.bytes + left r) (given s.before.sentences said) ≡ (s.before.bytes + left r) ∷ [] = rw one.1 refl in
    ap (λ (x : Reading). get_or x.stops (length gave) 0) all
    ∙ ap (λ front. get_or (s.stops ++ (front ++ rest)) (length gave) 0) stops
    ∙ index_behind s.stops (s.before.bytes + left r) rest (length gave) s.ends
    ∙ size_is r t gave s
