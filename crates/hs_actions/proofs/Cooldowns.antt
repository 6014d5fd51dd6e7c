-- What is left of a cooldown, at one more sending and one more wakeup, and where nothing is.
use Rattle.std.proofs.Common.{◌≡◌, ℕ, ◌+◌, ◌-◌, ◌<◌, ◌≤◌, max, Bool, true, false, ◌&&◌, leb, List, [], ◌∷◌, ◌++◌, refl, sym, ap, ◌∙◌, arith, le-leb, leb-true}
use Rattle.std.specs.List.{fold, list_all}
use Rattle.std.proofs.lemmas.Bool.{and_from, and_parts}
use Rattle.std.proofs.lemmas.List.Sums.{fold_push}
use Rattle.std.proofs.lemmas.List.Folds.{fold_along}
use Rattle.hs_tables.specs.declared.actions.ActRow.{ActRow}
use Rattle.hs_actions.specs.Outcomes.{is_whole, message_goes}
use Rattle.hs_actions.specs.State.{left_by, left_of}

-- nothing was sent
pub left_none : (cooldown wakeups : ℕ) → left_of cooldown wakeups [] ≡ 0
unfolding left_of
left_none cooldown wakeups = refl

-- one sending more
pub left_more : (cooldown wakeups : ℕ) (sent : List ℕ) (j : ℕ) → left_of cooldown wakeups (sent ++ j ∷ []) ≡ max (left_of cooldown wakeups sent) (left_by cooldown wakeups j)
unfolding left_of
left_more cooldown wakeups sent j = fold_push (λ (most i : ℕ). max most (left_by cooldown wakeups i)) 0 sent j

-- one wakeup more
pub left_next : (cooldown wakeups : ℕ) (sent : List ℕ) → left_of cooldown (wakeups + 1) sent ≡ left_of cooldown wakeups sent - 1
unfolding left_of
left_next cooldown wakeups sent =
    fold_along (λ (most i : ℕ). max most (left_by cooldown (wakeups + 1) i)) (λ (most i : ℕ). max most (left_by cooldown wakeups i)) (λ (b c : ℕ). b ≡ c - 1) (λ b c i e. omega (arith, e)) 0 0 sent (omega arith)

-- the most so far stays below what it becomes
rises : (cooldown wakeups most : ℕ) (sent : List ℕ) → most ≤ fold (λ (m j : ℕ). max m (left_by cooldown wakeups j)) most sent
rises cooldown wakeups most [] = omega arith
rises cooldown wakeups most (j ∷ sent) =
    let rest = rises cooldown wakeups (max most (left_by cooldown wakeups j)) sent in
    omega (arith, rest)

-- where nothing is left all sendings and cooldowns are over
all_over : (cooldown k most : ℕ) (sent : List ℕ) → fold (λ (m j : ℕ). max m (left_by cooldown (k + 1) j)) most sent ≡ 0 → list_all (λ (j : ℕ). leb (j + cooldown) k) sent ≡ true
all_over cooldown k most [] none = refl
all_over cooldown k most (j ∷ sent) none =
    let least = rises cooldown (k + 1) (max most (left_by cooldown (k + 1) j)) sent in
    and_from (leb (j + cooldown) k) (list_all (λ (i : ℕ). leb (i + cooldown) k) sent) (le-leb (j + cooldown) k (omega (arith, none, least))) (all_over cooldown k (max most (left_by cooldown (k + 1) j)) sent none)

-- and the other way round
none_left : (cooldown k most : ℕ) (sent : List ℕ) → most ≡ 0 → list_all (λ (j : ℕ). leb (j + cooldown) k) sent ≡ true → fold (λ (m j : ℕ). max m (left_by cooldown (k + 1) j)) most sent ≡ 0
none_left cooldown k most [] zero all = zero
none_left cooldown k most (j ∷ sent) zero all =
    let parts = and_parts (leb (j + cooldown) k) (list_all (λ (i : ℕ). leb (i + cooldown) k) sent) all in
    let over : j + cooldown ≤ k = leb-true _ _ parts.0 in
    none_left cooldown k (max most (left_by cooldown (k + 1) j)) sent (omega (arith, zero, over)) parts.1

-- a used entry goes exactly where nothing is left
pub goes_over : (act : ActRow) (k wakeups left : ℕ) (sent : List ℕ) → k + 1 ≡ wakeups → is_whole act ≡ true → left ≡ left_of act.cooldown wakeups sent → left ≡ 0 → true ≡ message_goes act sent k
unfolding message_goes left_of
goes_over act k wakeups left sent now whole is none =
    let over = all_over act.cooldown k 0 sent (ap (λ (w : ℕ). left_of act.cooldown w sent) now ∙ sym is ∙ none) in
    sym (and_from (is_whole act) (list_all (λ (j : ℕ). leb (j + act.cooldown) k) sent) whole over)

pub goes_not : (act : ActRow) (k wakeups left : ℕ) (sent : List ℕ) → k + 1 ≡ wakeups → left ≡ left_of act.cooldown wakeups sent → 0 < left → false ≡ message_goes act sent k
unfolding message_goes left_of
goes_not act k wakeups left sent now is some = by_case (is_whole act) (list_all (λ (j : ℕ). leb (j + act.cooldown) k) sent) refl
  where
    by_case : (whole all : Bool) → list_all (λ (j : ℕ). leb (j + act.cooldown) k) sent ≡ all → false ≡ (whole && all)
    by_case false all e = refl
    by_case true false e = refl
    by_case true true e = let none : left ≡ 0 = is ∙ sym (ap (λ (w : ℕ). left_of act.cooldown w sent) now) ∙ none_left act.cooldown k 0 sent refl e in absurd (omega (arith, some, none))

-- an entry that isn't used doesn't go
pub goes_unused : (act : ActRow) (k : ℕ) (sent : List ℕ) → is_whole act ≡ false → false ≡ message_goes act sent k
unfolding message_goes
goes_unused act k sent unused = sym (ap (λ (b : Bool). b && list_all (λ (j : ℕ). leb (j + act.cooldown) k) sent) unused)
