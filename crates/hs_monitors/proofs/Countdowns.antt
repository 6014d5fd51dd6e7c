-- An entry acts where its countdown ends, and once in its watch.
use Rattle.std.proofs.Common.{◌≡◌, ℕ, ◌<◌, Bool, true, false, ◌||◌, List, [], ◌∷◌, ◌++◌, refl, sym, ap, ◌∙◌, eq-eqb}
use Rattle.std.proofs.lemmas.Bool.{eqb-true}
use Rattle.hs_monitors.specs.Acting.{acts, has_acted, countdown_of}
use Rattle.hs_monitors.proofs.Acting.{counting, running, rests_on, rests_later, acted_more, acts_at_end}

-- an entry that acts hadn't before
had_not : (n : ℕ) (xs : List Bool) (b : Bool) → acts n xs b ≡ true → has_acted n xs ≡ false
had_not n xs b here = by_case (has_acted n xs) refl
  where
    by_case : (t : Bool) → has_acted n xs ≡ t → t ≡ false
    by_case true acted = sym here ∙ (rests_on n xs b acted).1
    by_case false acted = refl

pub ends_at : (n : ℕ) (xs : List Bool) (b : Bool) → 0 < n → acts n xs b ≡ true → (0 < countdown_of n xs) × (countdown_of n (xs ++ b ∷ []) ≡ 0)
ends_at n xs b some here =
    let not_yet = had_not n xs b here in
    (running n xs some not_yet, eqb-true (countdown_of n (xs ++ b ∷ [])) 0 (sym (acts_at_end n xs b some not_yet) ∙ here))

pub acts_there : (n : ℕ) (xs : List Bool) (b : Bool) → 0 < n → 0 < countdown_of n xs → countdown_of n (xs ++ b ∷ []) ≡ 0 → acts n xs b ≡ true
acts_there n xs b some runs over = acts_at_end n xs b some (counting n xs runs) ∙ eq-eqb (countdown_of n (xs ++ b ∷ [])) 0 over

pub acts_once : (n : ℕ) (xs later : List Bool) (b that : Bool) → acts n xs b ≡ true → acts n ((xs ++ b ∷ []) ++ later) that ≡ false
acts_once n xs later b that here =
    let acted : has_acted n (xs ++ b ∷ []) ≡ true = acted_more n xs b ∙ ap (λ (t : Bool). has_acted n xs || t) here ∙ or_true (has_acted n xs) in
    (rests_on n ((xs ++ b ∷ []) ++ later) that (rests_later n (xs ++ b ∷ []) later acted)).1
  where
    or_true : (t : Bool) → (t || true) ≡ true
    or_true true = refl
    or_true false = refl
