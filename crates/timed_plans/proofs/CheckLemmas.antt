-- Lemmas on what a scenario's reader answers.
use Rattle.std.proofs.Common.{◌≡◌, ℕ, suc, ◌+◌, ◌*◌, ◌≤◌, Bool, true, false, List, [], ◌∷◌, ◌++◌, length, take, drop, refl, ap, sym, ◌∙◌, arith, append_assoc, append-nil, subst, inl, inr}
use Rattle.std.specs.Prelude.{◌==◌, Ok, cond}
use Rattle.std.proofs.lemmas.Bool.{false≢true}
use Rattle.std.proofs.lemmas.Bool.Decides.{nat_tests}
use Rattle.scenario.specs.declared.reader.Reader.{Reader}
use Rattle.scenario.specs.declared.item.Item.{Item as Answer}
use Rattle.scenario.specs.declared.item.Item.TheVariants as answers
use Rattle.scenario.specs.Texts.{Text, Given, Reading, Ending, Bad, Ended, Unended, Open, Grows, reading}
use Rattle.scenario.specs.Answers.{answer_at_end}
use Rattle.scenario.specs.Standing.{Stands, is_finished, left, fed, closed}
use Rattle.scenario.specs.TextLaws.{texts_grow}
use Rattle.timed_plans.specs.Schedules.{PageText}
use Rattle.timed_plans.specs.Checks.{checked, answered, read_page}

-- a reader stands for a first part of a text, of which the rest isn't fed yet
pub record Feeding (r : Reader) (rest text : List ℕ) : Type 0 where
  pub front : List ℕ
  pub gave : List Given
  pub stands : Stands r (record { bytes = front; closed = is_finished r }) gave
  pub parts : front ++ rest ≡ text
  pub ended : is_finished r ≡ true → rest ≡ []

-- how much is left to do
abbrev pub work : Reader → List ℕ → ℕ
work r rest = 2 * length rest + left r + cond (is_finished r) 0 1

pub feeding_first : (r : Reader) (text : List ℕ) → Stands r (record { bytes = []; closed = false }) [] → is_finished r ≡ false → Feeding r text text
feeding_first r text stands open_ = record {
  front = [];
  gave = [];
  stands = subst (λ (b : Bool). Stands r (record { bytes = []; closed = b }) []) (sym open_) stands;
  parts = refl;
  ended = λ e. absurd (false≢true (sym open_ ∙ e));
}

-- the reader looked at a line
pub feeding_looked : (r q : Reader) (rest text : List ℕ) (f : Feeding r rest text) (gave : List Given) → is_finished q ≡ is_finished r → Stands q (record { bytes = f.front; closed = is_finished r }) gave → Feeding q rest text
feeding_looked r q rest text f gave same stands = record {
  front = f.front;
  gave = gave;
  stands = subst (λ (b : Bool). Stands q (record { bytes = f.front; closed = b }) gave) (sym same) stands;
  parts = f.parts;
  ended = λ e. f.ended (sym same ∙ e);
}

-- some of the rest was fed
pub feeding_fed : (r q : Reader) (rest more text : List ℕ) (n : ℕ) (f : Feeding r rest text) → is_finished r ≡ false → is_finished q ≡ false → n ≤ length rest → more ≡ drop n rest → ((t : Text) (gave : List Given) → Stands r t gave → Stands q (fed t (take n rest)) gave) → (take n rest ++ drop n rest ≡ rest) → Feeding q more text
feeding_fed r q rest more text n f was is within left_ moves joined = record {
  front = f.front ++ take n rest;
  gave = f.gave;
  stands = subst (λ (b : Bool). Stands q (record { bytes = f.front ++ take n rest; closed = b }) f.gave) (was ∙ sym is) (moves (record { bytes = f.front; closed = is_finished r }) f.gave f.stands);
  parts = ap (λ (m : List ℕ). (f.front ++ take n rest) ++ m) left_ ∙ append_assoc f.front (take n rest) (drop n rest) ∙ ap (λ (m : List ℕ). f.front ++ m) joined ∙ f.parts;
  ended = λ e. absurd (false≢true (sym is ∙ e));
}

-- the end was told
pub feeding_closed : (r q : Reader) (rest text : List ℕ) (f : Feeding r rest text) → is_finished q ≡ true → rest ≡ [] → ((t : Text) (gave : List Given) → Stands r t gave → Stands q (closed t) gave) → Feeding q rest text
feeding_closed r q rest text f is none moves = record {
  front = f.front;
  gave = f.gave;
  stands = subst (λ (b : Bool). Stands q (record { bytes = f.front; closed = b }) f.gave) (sym is) (moves (record { bytes = f.front; closed = is_finished r }) f.gave f.stands);
  parts = f.parts;
  ended = λ e. none;
}

pub empty_rest : (xs : List ℕ) (b : Bool) → b ≡ (length xs == 0) → b ≡ true → xs ≡ []
empty_rest [] b e t = refl
empty_rest (x ∷ xs) b e t = absurd (let z : (suc (length xs) == 0) ≡ true = sym e ∙ t in grind (arith, nat_tests))

-- an answer behind which no other comes
abbrev pub IsEnd : Answer → Type 0
IsEnd answers.Header = Unit {0}
IsEnd answers.Frame = Unit {0}
IsEnd answers.More = ⊥
IsEnd answers.End = Unit {0}
IsEnd (answers.Bad line reason) = Unit {0}

open_more : (e : Ending) (a : Answer) → e ≡ Open → a ≡ answer_at_end e → IsEnd a → ⊥
open_more e a is same end = subst IsEnd (same ∙ ap answer_at_end is) end

grown : (a : Answer) (r q : Reading) → Grows r q → a ≡ answer_at_end r.ending → IsEnd a → a ≡ answer_at_end q.ending
grown a r q (inl g) same end = absurd (open_more r.ending a g.0 same end)
grown a r q (inr e) same end = same ∙ ap (λ (x : Reading). answer_at_end x.ending) (sym e)

-- the last answer is that of the whole text
pub answer_last : (a : Answer) (front rest text : List ℕ) (fin : Bool) → front ++ rest ≡ text → (fin ≡ true → rest ≡ []) → a ≡ answer_at_end (reading (record { bytes = front; closed = fin })).ending → IsEnd a → a ≡ answered text
answer_last a front rest text true parts none same end =
    same ∙ ap (λ (t : List ℕ). answer_at_end (reading (record { bytes = t; closed = true })).ending) (sym (append-nil front) ∙ ap (λ (t : List ℕ). front ++ t) (sym (none refl)) ∙ parts)
answer_last a front rest text false parts none same end =
    grown a (reading (record { bytes = front; closed = false })) (reading (record { bytes = front ++ rest; closed = true })) (texts_grow front rest true) same end
    ∙ ap (λ (t : List ℕ). answer_at_end (reading (record { bytes = t; closed = true })).ending) parts

pub check_is : (p : PageText) (a : Answer) → a ≡ answered p.text → read_page p ≡ checked p a
check_is p a e = ap (checked p) (sym e)

-- ---- a page that is read well

good_text : (p : PageText) (made : List ℕ) (a : Answer) → checked p a ≡ Ok made → (made ≡ p.text) × (a ≡ answers.End)
good_text p made answers.Header e = absurd (cc)
good_text p made answers.Frame e = absurd (cc)
good_text p made answers.More e = absurd (cc)
good_text p made answers.End e = ((let same : p.text ≡ made = cc in sym same), refl)
good_text p made (answers.Bad n reason) e = absurd (cc)

end_ended : (e : Ending) → answer_at_end e ≡ answers.End → e ≡ Ended
end_ended (Bad n reason) e = absurd (cc)
end_ended Ended e = refl
end_ended (Unended n) e = absurd (cc)
end_ended Open e = absurd (cc)

-- a page that is read well is made whole, and its text ends well
pub page_good : (p : PageText) (made : List ℕ) → read_page p ≡ Ok made → (made ≡ p.text) × ((reading (record { bytes = made; closed = true })).ending ≡ Ended)
page_good p made e =
    let g = good_text p made (answered p.text) e in
    (g.0, ap (λ (t : List ℕ). (reading (record { bytes = t; closed = true })).ending) g.0 ∙ end_ended (reading (record { bytes = p.text; closed = true })).ending g.1)
