-- A loop over the places of a list that writes each of them: what holds of those behind it, and still of those before it.
use Rattle.std.proofs.Common.{◌≡◌, ◌≢◌, ℕ, ◌+◌, ◌<◌, ◌≤◌, List, length, get_or, set, inl, inr, sym, subst, arith}
use Rattle.std.proofs.lemmas.Bool.{cases_eq}
use Rattle.std.proofs.lemmas.List.{get_or-set_same, get_or-set_other}

pub record Half {X : Type 0} (Before After : ℕ → X → Type 0) (n i : ℕ) (d : X) (xs : List X) : Type 0 where
  pub done : (k : ℕ) → k < i → k < n → After k (get_or xs k d)
  pub left : (k : ℕ) → i ≤ k → k < n → Before k (get_or xs k d)

module _ {X : Type 0} (Before After : ℕ → X → Type 0) (n : ℕ) (d : X) where
  -- before the first place
  pub half_none : (xs : List X) → ((k : ℕ) → k < n → Before k (get_or xs k d)) → Half Before After n 0 d xs
  half_none xs each = record { done = λ k below within. absurd (omega arith); left = λ k past within. each k within }

  -- behind one more
  pub half_more : (xs : List X) (i : ℕ) (x : X) → i < length xs → After i x → Half Before After n i d xs → Half Before After n (i + 1) d (set xs i x)
  half_more xs i x within here half = record {
    done = λ k below inside. elim (cases_eq i k) [
      | inl same ↦ this k same
      | inr other ↦ let apart : i ≢ k = other in subst (After k) (sym (elsewhere k other)) (half.done k (omega arith) inside)
    ];
    left = λ k past inside. let apart : i ≢ k = omega arith in subst (Before k) (sym (elsewhere k apart)) (half.left k (omega arith) inside);
  }
    where
      this : (k : ℕ) → i ≡ k → After k (get_or (set xs i x) k d)
      this k same = subst (λ (j : ℕ). After j (get_or (set xs i x) j d)) same (subst (After i) (sym (get_or-set_same xs i x d within)) here)

      elsewhere : (k : ℕ) → i ≢ k → get_or (set xs i x) k d ≡ get_or xs k d
      elsewhere k other = get_or-set_other xs i k x d (λ back. other (sym back))

  -- behind the last
  pub half_whole : (xs : List X) (i : ℕ) → n ≤ i → Half Before After n i d xs → (k : ℕ) → k < n → After k (get_or xs k d)
  half_whole xs i past half k within = half.done k (omega arith) within
