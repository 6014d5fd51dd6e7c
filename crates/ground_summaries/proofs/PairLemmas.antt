-- Lemmas on two words with a blank between them.
use Rattle.std.proofs.Common.{◌≡◌, ℕ, suc, ◌+◌, ◌==◌, ◌<◌, ◌≤◌, Bool, true, false, ◌&&◌, not, List, [], ◌∷◌, ◌++◌, length, take, drop, get_or, nat_eq, refl, ap, sym, ◌∙◌, arith}
use Rattle.std.specs.Prelude.{bytes_eq}
use Rattle.ground_summaries.specs.Allowed.{word_pair}

and_both : (a b c : Bool) → (a && (b && c)) ≡ ((a && b) && c)
and_both true b c = refl
and_both false b c = refl

and_false : (a b : Bool) → b ≡ false → (a && b) ≡ false
and_false true b is = is
and_false false b is = refl

pub pair_split : (text first second : List ℕ) → length first < length text → bytes_eq text (word_pair first second) ≡ (bytes_eq (take (length first) text) first && ((get_or text (length first) 0 == 32) && bytes_eq (drop (suc (length first)) text) second))
pair_split [] first second within = absurd (omega (arith, within))
pair_split (t ∷ ts) [] second within = refl
pair_split (t ∷ ts) (f ∷ fs) second within =
    ap (λ (b : Bool). nat_eq t f && b) (pair_split ts fs second (omega (arith, within)))
    ∙ and_both (nat_eq t f) (bytes_eq (take (length fs) ts) fs) ((get_or ts (length fs) 0 == 32) && bytes_eq (drop (suc (length fs)) ts) second)

pub pair_short : (text first second : List ℕ) → length text ≤ length first → bytes_eq text (word_pair first second) ≡ false
pair_short [] [] second short = refl
pair_short [] (f ∷ fs) second short = refl
pair_short (t ∷ ts) [] second short = absurd (omega (arith, short))
pair_short (t ∷ ts) (f ∷ fs) second short = and_false (nat_eq t f) (bytes_eq ts (word_pair fs second)) (pair_short ts fs second (omega (arith, short)))

flipped : (b : Bool) → true ≡ not b → b ≡ false
flipped false is = refl
flipped true is = let wrong : ⊥ = cc in absurd wrong

kept : (b : Bool) → false ≡ not b → b ≡ true
kept true is = refl
kept false is = let wrong : ⊥ = cc in absurd wrong

-- what is compared with the front, the blank and the rest
pub pair_is : (text first second t f s front rest : List ℕ) (r : Bool) → t ≡ text → f ≡ first → s ≡ second → length f < length t → front ≡ take (length f) t → false ≡ not (bytes_eq front f)
    → get_or t (length f) 0 ≡ 32 → rest ≡ drop (length f + 1) t → r ≡ bytes_eq rest s → r ≡ bytes_eq text (word_pair first second)
pair_is text first second t f s front rest r is_text is_first is_second within is_front same blank is_rest ends =
    let tests : (bytes_eq (take (length f) t) f && ((get_or t (length f) 0 == 32) && bytes_eq (drop (suc (length f)) t) s)) ≡ bytes_eq (drop (suc (length f)) t) s =
    rw (sym is_front, kept (bytes_eq front f) same, blank) refl in
    let next : length f + 1 ≡ suc (length f) = omega arith in
    let there : r ≡ bytes_eq (drop (suc (length f)) t) s = ends ∙ ap (λ (xs : List ℕ). bytes_eq xs s) (is_rest ∙ ap (λ (n : ℕ). drop n t) next) in
    there ∙ sym tests ∙ sym (pair_split t f s within) ∙ rw (is_text, is_first, is_second) refl

pub pair_other : (text first second t f front : List ℕ) → t ≡ text → f ≡ first → length f < length t → front ≡ take (length f) t → true ≡ not (bytes_eq front f) → false ≡ bytes_eq text (word_pair first second)
pair_other text first second t f front is_text is_first within is_front differs =
    let tests : (bytes_eq (take (length f) t) f && ((get_or t (length f) 0 == 32) && bytes_eq (drop (suc (length f)) t) second)) ≡ false = rw (sym is_front, flipped (bytes_eq front f) differs) refl in
    sym tests ∙ sym (pair_split t f second within) ∙ rw (is_text, is_first) refl

pub pair_unparted : (text first second t f front : List ℕ) → t ≡ text → f ≡ first → length f < length t → front ≡ take (length f) t → false ≡ not (bytes_eq front f) → (get_or t (length f) 0 ≡ 32 → ⊥) → false ≡ bytes_eq text (word_pair first second)
pair_unparted text first second t f front is_text is_first within is_front same other =
    let differs : (get_or t (length f) 0 == 32) ≡ false = grind (arith, other) in
    let tests : (bytes_eq (take (length f) t) f && ((get_or t (length f) 0 == 32) && bytes_eq (drop (suc (length f)) t) second)) ≡ false = rw (sym is_front, kept (bytes_eq front f) same, differs) refl in
    sym tests ∙ sym (pair_split t f second within) ∙ rw (is_text, is_first) refl
