-- Whether any cooldown runs, place by place; and a wakeup before which none runs.
use Rattle.std.proofs.Common.{◌≡◌, ℕ, zero, suc, ◌+◌, ◌<◌, ◌≤◌, Bool, true, false, ◌||◌, List, [], ◌∷◌, length, drop, get_or, refl, sym, ap, ◌∙◌, arith}
use Rattle.std.specs.Prelude.{nat_lt}
use Rattle.std.specs.List.{list_any, range_with_len}
use Rattle.std.proofs.lemmas.Bool.{or_parts, ltb-false}
use Rattle.std.proofs.lemmas.List.{drop_more, drop_all}
use Rattle.std.proofs.lemmas.List.FromFn.{length-range_with_len, get_or-range_with_len}
use Rattle.hs_tables.specs.declared.actions.ActRow.{ActRow}
use Rattle.hs_actions.specs.Outcomes.{Past, in_next_wakeup, outcomes_in, sendings, act_at}
use Rattle.hs_actions.specs.State.{left_of, ActionsStand, is_cooling}
use Rattle.hs_actions.specs.declared.state.Actions.{Actions}
use Rattle.hs_actions.proofs.Paths.{stands_next}

-- whether the cooldown of a place runs
abbrev runs : List ActRow → Past → ℕ → Bool
runs acts past place = nat_lt 0 (left_of (act_at acts place).cooldown past.wakeups (sendings place (outcomes_in acts past)))

-- whether one of the places from one on does
abbrev pub behind : List ActRow → Past → ℕ → Bool
behind acts past place = list_any (runs acts past) (drop place (range_with_len 0 8))

zero_more : (k : ℕ) → 0 + k ≡ k
zero_more k = omega arith

regroup : (a b c : Bool) → (a || (b || c)) ≡ ((a || b) || c)
regroup true b c = refl
regroup false b c = refl

no_more : (a : Bool) → (a || false) ≡ a
no_more true = refl
no_more false = refl

from_place : (p : ℕ → Bool) (k : ℕ) → k < 8 → list_any p (drop k (range_with_len 0 8)) ≡ (p k || list_any p (drop (k + 1) (range_with_len 0 8)))
from_place p k within =
    let long = length-range_with_len 0 8 in
    ap (list_any p) (drop_more (range_with_len 0 8) k 0 (omega (arith, long)))
    ∙ ap (λ (n : ℕ). p n || list_any p (drop (k + 1) (range_with_len 0 8))) (get_or-range_with_len 0 8 k 0 within ∙ zero_more k)

module _ (acts : List ActRow) (past : Past) where
  pub cooling_none : is_cooling acts past ≡ (false || behind acts past 0)
  unfolding is_cooling
  cooling_none = refl

  pub cooling_step : (a : Actions) (any next : Bool) (k : ℕ) → k < 8 → next ≡ (any || nat_lt 0 (get_or a.cooldowns k 0)) → ActionsStand acts past a → is_cooling acts past ≡ (any || behind acts past k)
      → is_cooling acts past ≡ (next || behind acts past (k + 1))
  unfolding ActionsStand
  cooling_step a any next k within is stood so_far =
      so_far ∙ ap (λ (b : Bool). any || b) (from_place (runs acts past) k within)
      ∙ regroup any (runs acts past k) (behind acts past (k + 1))
      ∙ ap (λ (n : ℕ). (any || nat_lt 0 n) || behind acts past (k + 1)) (sym (stood.cooldowns k within))
      ∙ ap (λ (b : Bool). b || behind acts past (k + 1)) (sym is)

  pub cooling_all : (any : Bool) (k : ℕ) → 8 ≤ k → is_cooling acts past ≡ (any || behind acts past k) → any ≡ is_cooling acts past
  cooling_all any k over so_far =
      let long = length-range_with_len 0 8 in
      sym (so_far ∙ ap (λ (ks : List ℕ). any || list_any (runs acts past) ks) (drop_all k (range_with_len 0 8) (omega (arith, long))) ∙ no_more any)

-- none of the places
each_not : (p : ℕ → Bool) (xs : List ℕ) → list_any p xs ≡ false → (i d : ℕ) → i < length xs → p (get_or xs i d) ≡ false
each_not p [] none i d within = absurd (omega arith)
each_not p (x ∷ xs) none zero d within = (or_parts (p x) (list_any p xs) none).0
each_not p (x ∷ xs) none (suc i) d within = each_not p xs (or_parts (p x) (list_any p xs) none).1 i d (omega arith)

-- where none runs, the state stands for the next wakeup too
pub stands_idle : (acts : List ActRow) (past : Past) (a : Actions) → is_cooling acts past ≡ false → ActionsStand acts past a → ActionsStand acts (in_next_wakeup past) a
unfolding is_cooling ActionsStand
stands_idle acts past a none stood =
    stands_next acts past a a (λ place within. let over = rests place within in omega (arith, over)) refl refl refl stood
  where
    rests : (place : ℕ) → place < 8 → get_or a.cooldowns place 0 ≡ 0
    rests place within =
        let long = length-range_with_len 0 8 in
        let at : get_or (range_with_len 0 8) place 0 ≡ place = get_or-range_with_len 0 8 place 0 within ∙ zero_more place in
        let off : runs acts past place ≡ false = sym (ap (runs acts past) at) ∙ each_not (runs acts past) (range_with_len 0 8) none place 0 (omega (arith, long)) in
        let few = ltb-false 0 (left_of (act_at acts place).cooldown past.wakeups (sendings place (outcomes_in acts past))) off in
        let is = stood.cooldowns place within in
        omega (arith, few, is)
