-- How often a number stands in lists that grow, and lists that rise.
use Rattle.std.proofs.Common.{◌≡◌, ℕ, zero, suc, ◌+◌, ◌-◌, ◌<◌, ◌≤◌, ◌≢◌, ⊎_elim, cond, eqb, ltb, List, [], ◌∷◌, ◌++◌, length, get_or, replicate, refl, arith, All, SomeIndex, eq-eqb, ne_eqb, lt-ltb, le-ltb, eq-zero-or-pos}
use Rattle.std.proofs.lemmas.Bool.{cases_eq, cases_lt, cond-true, cond-false}
use Rattle.std.proofs.lemmas.List.{get_or_append_left, get_or_push, get_or_default, length_push}
use Rattle.std.proofs.lemmas.List.Sums.{sum_by-cons, sum_by_push, get_or-le-sum_by}
use Rattle.crew_board.specs.Claim.{times, times_in, IsStrictlyIncreasing}
use Rattle.crew_board.specs.Board.{once_below}
use Rattle.crew_board.specs.Work.{StandsIn}

-- 1 where two numbers are equal, else 0
abbrev pub one_if : ℕ → ℕ → ℕ
one_if n number = cond (eqb n number) 1 0

pub one_if_same : (n number : ℕ) → n ≡ number → one_if n number ≡ 1
one_if_same n number e = cond-true (eqb n number) 1 0 (eq-eqb n number e)

pub one_if_other : (n number : ℕ) → n ≢ number → one_if n number ≡ 0
one_if_other n number ne = cond-false (eqb n number) 1 0 (ne_eqb n number ne)

pub times-cons : (number n : ℕ) (l : List ℕ) → times number (n ∷ l) ≡ one_if n number + times number l
times-cons number n l = sum_by-cons (λ m. cond (eqb m number) 1 0) n l

pub times_push : (number n : ℕ) (l : List ℕ) → times number (l ++ n ∷ []) ≡ times number l + one_if n number
times_push number n l = sum_by_push (λ m. cond (eqb m number) 1 0) l n

pub times_in-cons : (number : ℕ) (l : List ℕ) (ls : List (List ℕ)) → times_in number (l ∷ ls) ≡ times number l + times_in number ls
times_in-cons number l ls = sum_by-cons (times number) l ls

pub times_in_push : (number : ℕ) (ls : List (List ℕ)) (l : List ℕ) → times_in number (ls ++ l ∷ []) ≡ times_in number ls + times number l
times_in_push number ls l = sum_by_push (times number) ls l

-- nothing stands in the lists of those that drew nothing
pub times_in_none : (number count : ℕ) → times_in number (replicate {A = List ℕ} count []) ≡ 0
times_in_none number zero = refl
times_in_none number (suc count) = times_in_none number count

pub below_is : (number next : ℕ) → number < next → once_below number next ≡ 1
below_is number next h = cond-true (ltb number next) 1 0 (lt-ltb number next h)

pub not_below_is : (number next : ℕ) → next ≤ number → once_below number next ≡ 0
not_below_is number next h = cond-false (ltb number next) 1 0 (le-ltb number next h)

-- the next number is one more
pub below_more : (number next : ℕ) → once_below number (next + 1) ≡ once_below number next + one_if next number
below_more number next =
    ⊎_elim
    (λ (e : next ≡ number).
    let a = below_is number (next + 1) (omega arith) in let b = not_below_is number next (omega arith) in let c = one_if_same next number e in omega arith)
    (λ (ne : next ≢ number).
    let c = one_if_other next number ne in
    ⊎_elim
    (λ (h : number < next). let a = below_is number (next + 1) (omega arith) in let b = below_is number next h in omega arith)
    (λ (h : next ≤ number). let a = not_below_is number (next + 1) (omega arith) in let b = not_below_is number next h in omega arith)
    (cases_lt number next))
    (cases_eq next number)

-- a number that stands in a list
pub stands : (number : ℕ) (l : List ℕ) (i : ℕ) → i < length l → get_or l i 0 ≡ number → 0 < times number l
stands number l i h e =
    let one = one_if_same (get_or l i 0) number e in
    let most = get_or-le-sum_by (λ m. cond (eqb m number) 1 0) l i 0 h in
    omega arith

pub found : (number : ℕ) (l : List ℕ) → 0 < times number l → SomeIndex l (λ i. get_or l i 0 ≡ number)
found number [] h = absurd (omega arith)
found number (x ∷ l) h =
    ⊎_elim
    (λ (e : x ≡ number). (0, omega arith, e))
    (λ (ne : x ≢ number).
    let later = found number l (let c = times-cons number x l in let m = one_if_other x number ne in omega arith) in
    (suc later.0, omega arith, later.2))
    (cases_eq x number)

-- a number that stands in some list
pub found_in : (number : ℕ) (ls : List (List ℕ)) → 0 < times_in number ls → StandsIn number ls
found_in number [] h = absurd (omega arith)
found_in number (l ∷ ls) h =
    ⊎_elim
    (λ (none : times number l ≡ 0).
    let later = found_in number ls (let c = times_in-cons number l ls in omega arith) in
    (suc later.0, omega arith, later.2))
    (λ (here : 0 < times number l). (0, omega arith, found number l here))
    (eq-zero-or-pos (times number l))

-- where each number below the next one stands once and no other does, what stands in a list is below the next one
pub all_below : (next : ℕ) (ls : List (List ℕ)) → ((number : ℕ) → times_in number ls ≡ once_below number next)
    → (w i : ℕ) → w < length ls → i < length (get_or ls w []) → get_or (get_or ls w []) i 0 < next
all_below next ls counts w i in_lists in_list =
    let number : ℕ = get_or (get_or ls w []) i 0 in
    let here = stands number (get_or ls w []) i in_list refl in
    let most = get_or-le-sum_by (times number) ls w [] in_lists in
    let count = counts number in
    ⊎_elim
    (λ (h : number < next). h)
    (λ (h : next ≤ number). let none = not_below_is number next h in absurd (omega arith))
    (cases_lt number next)

-- a greater number behind a list that rises
pub rises_push : (l : List ℕ) (n : ℕ) → IsStrictlyIncreasing l → All (λ m. m < n) l → IsStrictlyIncreasing (l ++ n ∷ [])
rises_push l n rises below i j before in_list =
    let len = length_push l n in
    let first = get_or_append_left l (n ∷ []) 0 i (omega arith) in
    ⊎_elim
    (λ (inside : j < length l).
    let second = get_or_append_left l (n ∷ []) 0 j inside in let r = rises i j before inside in omega arith)
    (λ (last : length l ≤ j).
    let second = get_or_push l n 0 j (omega arith) in let r = below i 0 (omega arith) in omega arith)
    (cases_lt j (length l))

-- the front of a list that rises
pub rises_front : (l : List ℕ) (n : ℕ) → IsStrictlyIncreasing (l ++ n ∷ []) → IsStrictlyIncreasing l
rises_front l n rises i j before in_list =
    let len = length_push l n in
    let first = get_or_append_left l (n ∷ []) 0 i (omega arith) in
    let second = get_or_append_left l (n ∷ []) 0 j in_list in
    let r = rises i j before (omega arith) in omega arith

-- its last number is greater than all others
pub rises_last : (l : List ℕ) (n : ℕ) → IsStrictlyIncreasing (l ++ n ∷ []) → All (λ m. m < n) l
rises_last l n rises k d in_list =
    let len = length_push l n in
    let same = get_or_append_left l (n ∷ []) d k in_list in
    let front = get_or_append_left l (n ∷ []) 0 k in_list in
    let last = get_or_push l n 0 (length l) refl in
    let r = rises k (length l) in_list (omega arith) in
    let plain = get_or_default l k d 0 in_list in
    omega arith

-- a number of a list that rises is at least its place
pub rises_at : (l : List ℕ) → IsStrictlyIncreasing l → (i : ℕ) → i < length l → i ≤ get_or l i 0
rises_at l rises zero h = omega arith
rises_at l rises (suc i) h = let before = rises_at l rises i (omega arith) in let r = rises i (suc i) (omega arith) h in omega arith

pub rises_none : IsStrictlyIncreasing []
rises_none i j before in_list = absurd (omega arith)

-- numbers that rise and are below one are at most as many as it
pub rises_few : (l : List ℕ) (n : ℕ) → IsStrictlyIncreasing l → All (λ m. m < n) l → length l ≤ n
rises_few l n rises below =
    ⊎_elim
    (λ (none : length l ≡ 0). omega arith)
    (λ (some_ : 0 < length l).
    let at = rises_at l rises (length l - 1) (omega arith) in let last = below (length l - 1) 0 (omega arith) in omega arith)
    (eq-zero-or-pos (length l))

-- a number stands at most once in a list that rises
rises_tail : (x : ℕ) (l : List ℕ) → IsStrictlyIncreasing (x ∷ l) → IsStrictlyIncreasing l
rises_tail x l rises i j before in_list = rises (suc i) (suc j) (omega arith) (omega arith)

pub times_rising : (number : ℕ) (l : List ℕ) → IsStrictlyIncreasing l → times number l ≤ 1
times_rising number [] rises = omega arith
times_rising number (x ∷ l) rises =
    let c = times-cons number x l in
    ⊎_elim
    (λ (e : x ≡ number).
    let one = one_if_same x number e in
    ⊎_elim
    (λ (none : times number l ≡ 0). omega arith)
    (λ (some_ : 0 < times number l).
    let later = found number l some_ in
    let r = rises 0 (suc later.0) (omega arith) (let h = later.1 in omega arith) in
    let is = later.2 in absurd (omega arith))
    (eq-zero-or-pos (times number l)))
    (λ (ne : x ≢ number). let none = one_if_other x number ne in let later = times_rising number l (rises_tail x l rises) in omega arith)
    (cases_eq x number)

-- each number stands once in the list of the first ones
pub times_in_order : (n number : ℕ) (l : List ℕ) → IsStrictlyIncreasing l → length l ≡ n → ((k : ℕ) → k < n → get_or l k 0 ≡ k) → number < n → times number l ≡ 1
times_in_order n number l rises len is h = let most = times_rising number l rises in let here = stands number l number (omega arith) (is number h) in omega arith
