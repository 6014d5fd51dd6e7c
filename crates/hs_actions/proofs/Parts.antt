-- The parts of what the state stands for, at one more outcome.
use Rattle.std.proofs.Common.{◌≡◌, ℕ, ◌+◌, ◌%◌, ◌<◌, Bool, true, false, cond, ◌||◌, List, [], ◌∷◌, ◌++◌, Option, Some, None, refl, sym, ap, ◌∙◌, arith, append-nil}
use Rattle.std.specs.Prelude.{count_by, filter_map}
use Rattle.std.specs.List.{after_last, list_any}
use Rattle.std.proofs.lemmas.Bool.{or_right}
use Rattle.std.proofs.lemmas.List.Elements.{filter_map-append}
use Rattle.histories.specs.Words.{decided, last_or}
use Rattle.histories.proofs.Along.{decided_more}
use Rattle.histories.proofs.Fronts.{count_more}
use Rattle.histories.proofs.Lasts.{any_push, after_last_passes, after_last_other, last_or_more}
use Rattle.hs_tables.specs.declared.actions.ActRow.{ActRow}
use Rattle.hs_actions.specs.Happenings.{Happening}
use Rattle.hs_actions.specs.Outcomes.{Beginning, Outcomes, cleared, limit_set, reset_went, message_went, sending_in, made_of, max_of, sendings, sent_of, goes, outcomes}

-- a `filter_map` at one more element
filter_map_none : {A B : Type 0} (f : A → Option B) (xs : List A) (x : A) → f x ≡ None → filter_map f (xs ++ x ∷ []) ≡ filter_map f xs
filter_map_none f xs x none = filter_map-append f xs (x ∷ []) ∙ rw none (append-nil (filter_map f xs))

filter_map_some : {A B : Type 0} (f : A → Option B) (xs : List A) (x : A) (y : B) → f x ≡ Some y → filter_map f (xs ++ x ∷ []) ≡ filter_map f xs ++ y ∷ []
filter_map_some f xs x y some = filter_map-append f xs (x ∷ []) ∙ rw some refl

or_none : (x y : Bool) → y ≡ false → (x || y) ≡ x
or_none true y none = refl
or_none false y none = none

-- the resets made, where they are cleared and where they aren't
pub made_cleared : (begins : Beginning) (earlier : Outcomes) (o : Happening × Bool) → cleared o ≡ true → 0 ≡ made_of begins (earlier ++ o ∷ [])
unfolding made_of
made_cleared begins earlier o clear =
    let any : list_any cleared (earlier ++ o ∷ []) ≡ true = any_push cleared earlier o ∙ or_right (list_any cleared earlier) (cleared o) clear in
    rw (after_last_passes cleared earlier o clear, any) refl

pub made_other : (begins : Beginning) (earlier : Outcomes) (o : Happening × Bool) → cleared o ≡ false → made_of begins (earlier ++ o ∷ []) ≡ made_of begins earlier + cond (reset_went o) 1 0
unfolding made_of
made_other begins earlier o other =
    let any : list_any cleared (earlier ++ o ∷ []) ≡ list_any cleared earlier = any_push cleared earlier o ∙ or_none (list_any cleared earlier) (cleared o) other in
    let since : count_by reset_went (after_last cleared (earlier ++ o ∷ [])) ≡ count_by reset_went (after_last cleared earlier) + cond (reset_went o) 1 0 =
    ap (count_by reset_went) (after_last_other cleared earlier o other) ∙ count_more reset_went (after_last cleared earlier) o in
    sums (count_by reset_went (after_last cleared (earlier ++ o ∷ []))) (count_by reset_went (after_last cleared earlier)) (cond (reset_went o) 1 0) begins.made (list_any cleared (earlier ++ o ∷ [])) (list_any cleared earlier) since any
  where
    sums : (after before more made : ℕ) (x y : Bool) → after ≡ before + more → x ≡ y → after + cond x 0 made ≡ before + cond y 0 made + more
    sums after before more made x y e same = rw (e, same) (omega arith)

-- their maximum, where it isn't set and where it is
pub max_same : (begins : Beginning) (earlier : Outcomes) (o : Happening × Bool) → limit_set o ≡ None → max_of begins (earlier ++ o ∷ []) ≡ max_of begins earlier
unfolding max_of
max_same begins earlier o none = ap (last_or begins.max) (filter_map_none limit_set earlier o none)

pub max_set : (begins : Beginning) (earlier : Outcomes) (o : Happening × Bool) (n : ℕ) → limit_set o ≡ Some n → n ≡ max_of begins (earlier ++ o ∷ [])
unfolding max_of
max_set begins earlier o n some = sym (ap (last_or begins.max) (filter_map_some limit_set earlier o n some) ∙ last_or_more begins.max (filter_map limit_set earlier) n)

-- the sendings of a message action, where it isn't sent and where it is
pub sendings_same : (place : ℕ) (earlier : Outcomes) (o : Happening × Bool) → sending_in place o ≡ None → sendings place (earlier ++ o ∷ []) ≡ sendings place earlier
unfolding sendings
sendings_same place earlier o none = filter_map_none (sending_in place) earlier o none

pub sendings_one : (place : ℕ) (earlier : Outcomes) (o : Happening × Bool) (j : ℕ) → sending_in place o ≡ Some j → sendings place (earlier ++ o ∷ []) ≡ sendings place earlier ++ j ∷ []
unfolding sendings
sendings_one place earlier o j some = filter_map_some (sending_in place) earlier o j some

-- how many were sent
pub sent_more : (earlier : Outcomes) (o : Happening × Bool) → sent_of (earlier ++ o ∷ []) ≡ (sent_of earlier + cond (message_went o) 1 0) % 65536
unfolding sent_of
sent_more earlier o = rw (count_more message_went earlier o) (more (count_by message_went earlier) (cond (message_went o) 1 0))
  where
    more : (count here : ℕ) → (count + here) % 65536 ≡ (count % 65536 + here) % 65536
    more count here = omega arith

pub sent_small : (earlier : Outcomes) → sent_of earlier < 65536
unfolding sent_of
sent_small earlier = omega arith

-- the outcomes of one happening more
pub outcomes_more : (acts : List ActRow) (begins : Beginning) (happened : List Happening) (h : Happening) (went : Bool) → went ≡ goes acts begins (outcomes acts begins happened) h
    → outcomes acts begins (happened ++ h ∷ []) ≡ outcomes acts begins happened ++ (h, went) ∷ []
unfolding outcomes
outcomes_more acts begins happened h went is =
    decided_more (goes acts begins) happened h ∙ ap (λ (b : Bool). decided (goes acts begins) happened ++ (h, b) ∷ []) (sym is)
