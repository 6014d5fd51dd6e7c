-- Flags that tell which numbers are used, and how many commands there may be.
use Rattle.std.proofs.Common.{◌≡◌, ℕ, ◌<◌, ◌≤◌, Bool, true, false, ◌||◌, List, [], ◌∷◌, ◌++◌, length, get_or, set, replicate, eqb, inl, inr, ◌⊎◌, refl, sym, ap, ◌∙◌, arith, get_or-set_other, get_or-set_same}
use Rattle.std.specs.List.{All, AllByRecursion, list_any, IsDistinct}
use Rattle.std.specs.Prelude.{nat_eq}
use Rattle.std.proofs.lemmas.Bool.{cases_eq, eq-eqb, ne_eqb, eqb-true, or_right}
use Rattle.std.proofs.lemmas.List.{map_push, length-set, length-replicate, get_or-replicate}
use Rattle.std.proofs.lemmas.List.Folds.{list_any-append, Any-from_list_any}
use Rattle.std.proofs.lemmas.List.Elements.{All-cons, recursion_from_All}
use Rattle.std.proofs.lemmas.Map.Keys.{IsDistinct-cons}
use Rattle.std.proofs.lemmas.Map.Steps.{length-le_from_distinct_below}
use Rattle.sc_tables.specs.declared.absolute.Timed.{Timed}
use Rattle.sc_tables.specs.Absolute.{numbers_of, is_used}
use Rattle.sc_tables.specs.Places.{AreFlags}

-- none is used at first
pub no_flags : AreFlags [] (replicate 1001 false)
no_flags = record { whole = length-replicate 1001 false; each = λ n below. get_or-replicate 1001 n false false below }

or_none : (b : Bool) → (b || false) ≡ b
or_none true = refl
or_none false = refl

-- a number is used by one command more
used_more : (n : ℕ) (commands : List Timed) (c : Timed) → is_used n (commands ++ c ∷ []) ≡ (is_used n commands || eqb n c.number)
used_more n commands c =
    ap (list_any (nat_eq n)) (map_push (λ (d : Timed). d.number) commands c) ∙ (list_any-append (nat_eq n) (numbers_of commands) (c.number ∷ []) ∙ ap (λ b. is_used n commands || b) (or_none (nat_eq n c.number)))

pub flag_more : (commands : List Timed) (flags : List Bool) (c : Timed) → c.number ≤ 1000 → AreFlags commands flags → AreFlags (commands ++ c ∷ []) (set flags c.number true)
flag_more commands flags c most are = record {
  whole = length-set flags c.number true ∙ are.whole;
  each = λ n below. by_number n below (cases_eq n c.number);
}
  where
    by_number : (n : ℕ) → n < 1001 → (n ≡ c.number) ⊎ (n ≡ c.number → ⊥) → get_or (set flags c.number true) n false ≡ is_used n (commands ++ c ∷ [])
    by_number n below (inl same) =
        rw same (get_or-set_same flags c.number true false (omega (arith, are.whole)) ∙ sym (used_more c.number commands c ∙ or_right _ _ (eq-eqb c.number c.number refl)))
    by_number n below (inr other) =
        get_or-set_other flags c.number n true false other ∙ (are.each n below ∙ sym (used_more n commands c ∙ (ap (λ b. is_used n commands || b) (ne_eqb n c.number other) ∙ or_none (is_used n commands))))

below_limit : (q : ℕ) (numbers : List ℕ) → All (λ n. n ≤ 1000) numbers → list_any (nat_eq q) numbers ≡ true → q < 1001
below_limit q numbers small among =
    let found = Any-from_list_any (nat_eq q) numbers among in
    omega (arith, small found.0 found.1 found.2, found.3, eqb-true q found.1 found.4)

-- numbers from 1 to 1,000 that are apart are at most 1,000
pub few_numbers : (numbers : List ℕ) → IsDistinct nat_eq numbers → All (λ n. (1 ≤ n) × (n ≤ 1000)) numbers → length numbers ≤ 1000
few_numbers numbers apart within =
    let above : AllByRecursion (λ n. nat_eq 0 n ≡ false) numbers = recursion_from_All (λ n. nat_eq 0 n ≡ false) numbers (λ k d below. ne_eqb 0 _ (λ zero. omega (arith, within k d below))) in
    let small : All (λ n. n ≤ 1000) (0 ∷ numbers) = All-cons (λ n. n ≤ 1000) 0 numbers (omega arith) (λ k d below. (within k d below).1) in
    omega (arith, length-le_from_distinct_below (0 ∷ numbers) 1001 (IsDistinct-cons nat_eq 0 numbers above apart) (λ q among. below_limit q (0 ∷ numbers) small among))
