-- Commands in order of time and number: two lists in order with the same commands are one, and `in_order` is in order.
use Rattle.std.proofs.Common.{◌≡◌, ℕ, zero, suc, ◌<◌, Bool, true, false, ◌&&◌, List, [], ◌∷◌, length, get_or, inl, inr, ◌⊎◌, refl, sym, ◌∙◌, subst, arith}
use Rattle.std.specs.Prelude.{⊤, ◌==◌, nat_eq, nat_lt, if◌then◌else◌}
use Rattle.std.specs.List.{All, AllPairs, AllByRecursion, Contains, IsDistinct}
use Rattle.std.specs.List.Sorted.{IsPermutation}
use Rattle.std.proofs.lemmas.Bool.{and_parts, and_from, or_cases, or_left, or_right, ltb-true, eqb-true, eqb-false, lt-ltb, eq-eqb, cases_order, both_ways}
use Rattle.std.proofs.lemmas.List.Elements.{All-nil, All-cons, All-head, All-tail, All-weaker, All-contains, Contains-append_cases, Contains-append_right, Contains-get_or}
use Rattle.std.proofs.lemmas.List.Sorted.{All-permutation, IsPermutation-refl, IsPermutation-cons, IsPermutation-trans, IsPermutation-sym, IsPermutation-middle, Contains-permutation}
use Rattle.std.proofs.lemmas.Map.Keys.{IsDistinct-head, IsDistinct-tail}
use Rattle.sc_tables.specs.declared.absolute.Timed.{Timed}
use Rattle.sc_tables.specs.Absolute.{numbers_of, comes_before, put_in, in_order}

-- what the test says
abbrev pub IsBefore : Timed → Timed → Type 0
IsBefore a b = (a.tag < b.tag) ⊎ ((a.tag ≡ b.tag) × (a.number < b.number))

pub before_tells : (a b : Timed) → comes_before a b ≡ true → IsBefore a b
unfolding comes_before
before_tells a b is =
    elim (or_cases (nat_lt a.tag b.tag) ((a.tag == b.tag) && nat_lt a.number b.number) is) [
      | inl earlier ↦ inl (ltb-true _ _ earlier)
      | inr same ↦ let parts = and_parts _ _ same in inr (eqb-true _ _ parts.0, ltb-true _ _ parts.1)
    ]

pub before_is : (a b : Timed) → IsBefore a b → comes_before a b ≡ true
unfolding comes_before
before_is a b (inl earlier) = or_left _ _ (lt-ltb _ _ earlier)
before_is a b (inr same) = or_right _ _ (and_from _ _ (eq-eqb _ _ same.0) (lt-ltb _ _ same.1))

-- it is an order in which commands with other numbers compare
before_chain : (a b c : Timed) → IsBefore a b → IsBefore b c → IsBefore a c
before_chain a b c (inl p) (inl q) = inl (omega arith)
before_chain a b c (inl p) (inr q) = inl (omega arith)
before_chain a b c (inr p) (inl q) = inl (omega arith)
before_chain a b c (inr p) (inr q) = inr (omega arith, omega arith)

before_one_way : (a b : Timed) → IsBefore a b → IsBefore b a → ⊥
before_one_way a b (inl p) (inl q) = omega arith
before_one_way a b (inl p) (inr q) = omega arith
before_one_way a b (inr p) (inl q) = omega arith
before_one_way a b (inr p) (inr q) = omega arith

before_or_after : (a b : Timed) → (a.number ≡ b.number → ⊥) → IsBefore a b ⊎ IsBefore b a
before_or_after a b other =
    elim (cases_order a.tag b.tag) [
      | inl same ↦ elim (cases_order a.number b.number) [
        | inl one ↦ absurd (other one)
        | inr apart ↦ elim apart [ inl lower ↦ inl (inr (same, lower)) | inr higher ↦ inr (inr (sym same, higher)) ]
      ]
      | inr apart ↦ elim apart [ inl earlier ↦ inl (inl earlier) | inr later ↦ inr (inl later) ]
    ]

pub after : (a b : Timed) → (a.number ≡ b.number → ⊥) → comes_before b a ≡ false → IsBefore a b
after a b other not_before =
    elim (before_or_after a b other) [ inl before ↦ before | inr behind ↦ absurd (both_ways _ not_before (before_is b a behind)) ]

-- each command comes before all behind it
abbrev pub Rises : List Timed → Type 0
Rises [] = ⊤
Rises (c ∷ commands) = All (IsBefore c) commands × Rises commands

-- what a list of one element more contains
contains_cases : (x : Timed) (xs : List Timed) (c : Timed) → Contains (x ∷ xs) c → (c ≡ x) ⊎ Contains xs c
contains_cases x xs c is = elim (Contains-append_cases (x ∷ []) xs c is) [ inl first ↦ inl (only x c first) | inr rest ↦ inr rest ]
  where
    only : (x c : Timed) → Contains (x ∷ []) c → c ≡ x
    only x c is = All-contains (λ d. d ≡ x) (x ∷ []) c (All-cons (λ d. d ≡ x) x [] refl (All-nil (λ d. d ≡ x))) is

contains_first : (x : Timed) (xs : List Timed) → Contains (x ∷ xs) x
contains_first x xs = Contains-get_or (x ∷ xs) 0 x (omega arith)

contains_rest : (x : Timed) (xs : List Timed) (c : Timed) → Contains xs c → Contains (x ∷ xs) c
contains_rest x xs c is = Contains-append_right (x ∷ []) xs c is

contains_none : (c : Timed) → Contains [] c → ⊥
contains_none c is = omega (arith, is.1)

abbrev HasAll : List Timed → List Timed → Type 0
HasAll xs ys = (c : Timed) → Contains xs c → Contains ys c

-- the first commands of two lists in order are one, where each list has what the other has
one_first : (x y : Timed) (xs ys : List Timed) → Rises (x ∷ xs) → Rises (y ∷ ys) → HasAll (x ∷ xs) (y ∷ ys) → HasAll (y ∷ ys) (x ∷ xs) → x ≡ y
one_first x y xs ys up rise there back =
    elim (contains_cases y ys x (there x (contains_first x xs))) [
      | inl same ↦ same
      | inr later ↦ elim (contains_cases x xs y (back y (contains_first y ys))) [
        | inl same ↦ sym same
        | inr behind ↦ absurd (before_one_way x y (All-contains (IsBefore x) xs y up.0 behind) (All-contains (IsBefore y) ys x rise.0 later))
      ]
    ]

-- what stands behind the first of a list in order isn't the first
not_first : (x c : Timed) (xs : List Timed) → Rises (x ∷ xs) → Contains xs c → c ≡ x → ⊥
not_first x c xs up is same = let before : IsBefore x c = All-contains (IsBefore x) xs c up.0 is in before_one_way x c before (subst (λ (d : Timed). IsBefore c d) same (subst (λ (d : Timed). IsBefore d c) (sym same) before))

rest_has : (x y : Timed) (xs ys : List Timed) → x ≡ y → Rises (x ∷ xs) → HasAll (x ∷ xs) (y ∷ ys) → HasAll xs ys
rest_has x y xs ys same up there c is =
    elim (contains_cases y ys c (there c (contains_rest x xs c is))) [
      | inl first ↦ absurd (not_first x c xs up is (first ∙ sym same))
      | inr rest ↦ rest
    ]

pub rising_same : (xs ys : List Timed) → Rises xs → Rises ys → HasAll xs ys → HasAll ys xs → xs ≡ ys
rising_same [] [] up rise there back = refl
rising_same [] (y ∷ ys) up rise there back = absurd (contains_none y (back y (contains_first y ys)))
rising_same (x ∷ xs) [] up rise there back = absurd (contains_none x (there x (contains_first x xs)))
rising_same (x ∷ xs) (y ∷ ys) up rise there back =
    let first = one_first x y xs ys up rise there back in
    let rest = rising_same xs ys up.1 rise.1 (rest_has x y xs ys first up there) (rest_has y x ys xs (sym first) rise back) in
    cc

-- a command that is put in only moves
put_moves : (t : Bool) (a b : Timed) (commands placed : List Timed) → IsPermutation (a ∷ commands) placed → IsPermutation (a ∷ b ∷ commands) (if t then b ∷ placed else a ∷ b ∷ commands)
put_moves true a b commands placed moved =
    IsPermutation-trans (a ∷ b ∷ commands) (b ∷ a ∷ commands) (b ∷ placed) (IsPermutation-middle (a ∷ []) b commands) (IsPermutation-cons b (a ∷ commands) placed moved)
put_moves false a b commands placed moved = IsPermutation-refl (a ∷ b ∷ commands)

put_in_moves : (a : Timed) (commands : List Timed) → IsPermutation (a ∷ commands) (put_in a commands)
put_in_moves a [] = IsPermutation-refl (a ∷ [])
put_in_moves a (b ∷ commands) = put_moves (comes_before b a) a b commands (put_in a commands) (put_in_moves a commands)

pub in_order_moves : (commands : List Timed) → IsPermutation commands (in_order commands)
unfolding in_order
in_order_moves [] = IsPermutation-refl []
in_order_moves (a ∷ commands) =
    IsPermutation-trans (a ∷ commands) (a ∷ in_order commands) (put_in a (in_order commands)) (IsPermutation-cons a commands (in_order commands) (in_order_moves commands)) (put_in_moves a (in_order commands))

-- and leaves a list in order
put_rises : (t : Bool) (a b : Timed) (commands placed : List Timed) → comes_before b a ≡ t → (a.number ≡ b.number → ⊥) → Rises (b ∷ commands) → Rises placed → IsPermutation (a ∷ commands) placed
    → Rises (if t then b ∷ placed else a ∷ b ∷ commands)
put_rises true a b commands placed is other up rise moved =
    (All-permutation (IsBefore b) (a ∷ commands) placed moved (All-cons (IsBefore b) a commands (before_tells b a is) up.0), rise)
put_rises false a b commands placed is other up rise moved =
    let first : IsBefore a b = after a b other is in
    (All-cons (IsBefore a) b commands first (All-weaker (IsBefore b) (IsBefore a) (λ c. before_chain a b c first) commands up.0), up)

put_in_rises : (a : Timed) (commands : List Timed) → Rises commands → All (λ (b : Timed). a.number ≡ b.number → ⊥) commands → Rises (put_in a commands)
put_in_rises a [] up apart = (All-nil (IsBefore a), tt)
put_in_rises a (b ∷ commands) up apart =
    put_rises (comes_before b a) a b commands (put_in a commands) refl (All-head (λ (d : Timed). a.number ≡ d.number → ⊥) b commands apart) up
    (put_in_rises a commands up.1 (All-tail (λ (d : Timed). a.number ≡ d.number → ⊥) b commands apart)) (put_in_moves a commands)

others : (n : ℕ) (commands : List Timed) → AllByRecursion (λ m. nat_eq n m ≡ false) (numbers_of commands) → All (λ (b : Timed). n ≡ b.number → ⊥) commands
others n [] apart = All-nil (λ (b : Timed). n ≡ b.number → ⊥)
others n (b ∷ commands) apart = All-cons (λ (b : Timed). n ≡ b.number → ⊥) b commands (eqb-false n b.number apart.0) (others n commands apart.1)

pub in_order_rises : (commands : List Timed) → IsDistinct nat_eq (numbers_of commands) → Rises (in_order commands)
unfolding in_order
in_order_rises [] apart = tt
in_order_rises (a ∷ commands) apart =
    put_in_rises a (in_order commands) (in_order_rises commands (IsDistinct-tail nat_eq a.number (numbers_of commands) apart))
    (All-permutation (λ (b : Timed). a.number ≡ b.number → ⊥) commands (in_order commands) (in_order_moves commands) (others a.number commands (IsDistinct-head nat_eq a.number (numbers_of commands) apart)))

-- so a list in order of the same commands is the one that is defined
pub in_order_is : (commands sorted : List Timed) → IsPermutation commands sorted → IsDistinct nat_eq (numbers_of commands) → Rises sorted → sorted ≡ in_order commands
in_order_is commands sorted moved apart rise =
    rising_same sorted (in_order commands) rise (in_order_rises commands apart)
    (λ c is. Contains-permutation commands (in_order commands) c (in_order_moves commands) (Contains-permutation sorted commands c (IsPermutation-sym commands sorted moved) is))
    (λ c is. Contains-permutation commands sorted c moved (Contains-permutation (in_order commands) commands c (IsPermutation-sym commands (in_order commands) (in_order_moves commands)) is))

-- by place
pub pairs_rise : (commands : List Timed) → Rises commands → AllPairs (λ a b. comes_before a b ≡ true) commands
pairs_rise [] up i j d below within = absurd (omega arith)
pairs_rise (c ∷ commands) up zero zero d below within = absurd (omega arith)
pairs_rise (c ∷ commands) up zero (suc j) d below within = before_is c (get_or commands j d) (up.0 j d (omega arith))
pairs_rise (c ∷ commands) up (suc i) zero d below within = absurd (omega arith)
pairs_rise (c ∷ commands) up (suc i) (suc j) d below within = pairs_rise commands up.1 i j d (omega arith) (omega arith)

all_after : (c : Timed) (commands : List Timed) → Rises commands → ((d : Timed) → 0 < length commands → IsBefore c (get_or commands 0 d)) → All (IsBefore c) commands
all_after c [] up first = All-nil (IsBefore c)
all_after c (b ∷ commands) up first =
    let here : IsBefore c b = first b (omega arith) in
    All-cons (IsBefore c) b commands here (All-weaker (IsBefore b) (IsBefore c) (λ d. before_chain c b d here) commands up.0)

pub rises_by_neighbours : (commands : List Timed) → ((k : ℕ) (d : Timed) → suc k < length commands → IsBefore (get_or commands k d) (get_or commands (suc k) d)) → Rises commands
rises_by_neighbours [] next = tt
rises_by_neighbours (c ∷ commands) next =
    let up : Rises commands = rises_by_neighbours commands (λ k d below. next (suc k) d (omega arith)) in
    (all_after c commands up (λ d some. next zero d (omega arith)), up)
