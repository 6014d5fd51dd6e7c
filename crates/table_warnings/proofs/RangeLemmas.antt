-- Lemmas on what is said of one place more.
use Rattle.std.proofs.Common.{◌≡◌, ℕ, zero, suc, ◌+◌, List, [], ◌∷◌, ◌++◌, Option, Some, None, refl, ap, sym, ◌∙◌, arith, append_assoc, append-nil}
use Rattle.std.specs.Prelude.{filter_map, flat_map}
use Rattle.std.specs.List.{range_with_len, cons_option}
use Rattle.std.proofs.lemmas.List.Elements.{filter_map-append}
use Rattle.std.proofs.lemmas.Grind.{flat_map-append}
use Rattle.table_warnings.specs.declared.warning.Warning.{Warning}
use Rattle.table_warnings.specs.Warned.{warned}

range_suc : (a n : ℕ) → range_with_len a (suc n) ≡ range_with_len a n ++ (a + n) ∷ []
range_suc a zero = let e : a ≡ a + 0 = omega arith in ap (λ (x : ℕ). x ∷ []) e
range_suc a (suc n) =
    let e : (a + 1) + n ≡ a + suc n = omega arith in
    ap (λ (xs : List ℕ). a ∷ xs) (range_suc (a + 1) n ∙ ap (λ (x : ℕ). range_with_len (a + 1) n ++ x ∷ []) e)

range_more : (k : ℕ) → range_with_len 0 (k + 1) ≡ range_with_len 0 k ++ k ∷ []
range_more k =
    let one : k + 1 ≡ suc k = omega arith in
    let e : 0 + k ≡ k = omega arith in
    ap (range_with_len 0) one ∙ range_suc 0 k ∙ ap (λ (x : ℕ). range_with_len 0 k ++ x ∷ []) e

one : (o : Option Warning) → cons_option o [] ≡ warned o
one None = refl
one (Some warning) = refl

one_more : (f : ℕ → Option Warning) (k : ℕ) → filter_map f (range_with_len 0 (k + 1)) ≡ filter_map f (range_with_len 0 k) ++ warned (f k)
one_more f k =
    ap (filter_map f) (range_more k) ∙ filter_map-append f (range_with_len 0 k) (k ∷ [])
    ∙ ap (λ (ws : List Warning). filter_map f (range_with_len 0 k) ++ ws) (one (f k))

pub place_more : (f : ℕ → Option Warning) (k : ℕ) (o : Option Warning) (now new : List Warning) → o ≡ f k → now ≡ filter_map f (range_with_len 0 k) → new ≡ now ++ warned o → new ≡ filter_map f (range_with_len 0 (k + 1))
place_more f k o now new is before told =
    told
    ∙ ap (λ (ws : List Warning). ws ++ warned o) before
    ∙ ap (λ (o : Option Warning). filter_map f (range_with_len 0 k) ++ warned o) is
    ∙ sym (one_more f k)

pub place_behind : (f : ℕ → Option Warning) (k : ℕ) (o : Option Warning) (old now new : List Warning) → o ≡ f k → now ≡ old ++ filter_map f (range_with_len 0 k) → new ≡ now ++ warned o → new ≡ old ++ filter_map f (range_with_len 0 (k + 1))
place_behind f k o old now new is before told =
    told
    ∙ ap (λ (ws : List Warning). ws ++ warned o) before
    ∙ append_assoc old (filter_map f (range_with_len 0 k)) (warned o)
    ∙ ap (λ (ws : List Warning). old ++ ws) (place_more f k o (filter_map f (range_with_len 0 k)) (filter_map f (range_with_len 0 k) ++ warned o) is refl refl)

pub all_more : {A : Type 0} (f : ℕ → List A) (k : ℕ) → flat_map f (range_with_len 0 (k + 1)) ≡ flat_map f (range_with_len 0 k) ++ f k
all_more {A = A} f k =
    ap (flat_map f) (range_more k) ∙ flat_map-append f (range_with_len 0 k) (k ∷ [])
    ∙ ap (λ (xs : List A). flat_map f (range_with_len 0 k) ++ xs) (append-nil (f k))
