-- Each kind of step on the board keeps its rule.
use Rattle.std.proofs.Common.{◌≡◌, ℕ, zero, suc, ◌+◌, ◌-◌, ◌*◌, ◌<◌, ◌≤◌, ◌≢◌, ⊎_elim, Bool, true, true≢false, cond, List, [], ◌∷◌, ◌++◌, length, get_or, set, refl, sym, ap, ◌∙◌, subst, arith, All, sum_by, mul-add}
use mathlib.Core.Option.{some, some-injective, some-ne-none}
use lib.ListN.{get_elem?}
use Rattle.atomic_table.proofs.Lists.{set_else}
use Rattle.std.proofs.lemmas.Bool.{cases_lt}
use Rattle.std.proofs.lemmas.List.{get_or_append_left, get_or_default, length_push, nil_from_length}
use Rattle.std.proofs.lemmas.List.Elements.{All-nil, All-cons, All-head, All-tail, All-set, All-push}
use Rattle.std.proofs.lemmas.List.Sums.{sum_by-cons, sum_by_push, sum_by-set, sum_by-le, get_or-le-sum_by}
use Rattle.crew_board.specs.declared.board.View.{View}
use Rattle.crew_board.specs.Claim.{times, times_in}
use Rattle.crew_board.specs.Board.{seated, spent_view, holding, split_once_more, joined, mark_of, lists_of, numbers_of, once_below, IsProper, IsDrawing, Kept}
use Rattle.crew_board.proofs.Times.{times_push, times_in_push, not_below_is, below_more, stands, rises_push, rises_none, rises_at}

module _ {A : Type 0} where
  -- the element at a place
  pub elem_at : (l : List A) (i : ℕ) (a : A) → get_elem? l i ≡ some a → (i < length l) × ((d : A) → get_or l i d ≡ a)
  elem_at [] i a e = absurd (some-ne-none a (sym e))
  elem_at (x ∷ xs) zero a e = (omega arith, λ d. some-injective x a e)
  elem_at (x ∷ xs) (suc i) a e = let later = elem_at xs i a e in (omega arith, later.1)

  -- a fact of all elements, at a place
  pub all_at : (P : A → Type 0) (l : List A) (i : ℕ) (a : A) → get_elem? l i ≡ some a → All P l → P a
  all_at P l i a e all = let at = elem_at l i a e in subst P (at.1 a) (all i a at.0)

  -- a sum, once one element was replaced
  pub sum_elem : (f : A → ℕ) (l : List A) (i : ℕ) (a b : A) → get_elem? l i ≡ some a → sum_by f (set l i b) + f a ≡ sum_by f l + f b
  sum_elem f l i a b e = let at = elem_at l i a e in subst (λ (x : A). sum_by f (set l i b) + f x ≡ sum_by f l + f b) (at.1 a) (sum_by-set f l i b a at.0)

  -- sums of elements one of which is at most so many times the other
  pub sum_most : (c : ℕ) (f g : A → ℕ) (l : List A) → All (λ x. f x ≤ c * g x) l → sum_by f l ≤ c * sum_by g l
  sum_most c f g [] most = omega arith
  sum_most c f g (x ∷ l) most =
      let first = All-head (λ y. f y ≤ c * g y) x l most in
      let later = sum_most c f g l (All-tail (λ y. f y ≤ c * g y) x l most) in
      let a = sum_by-cons f x l in
      let b : c * sum_by g (x ∷ l) ≡ c * g x + c * sum_by g l = ap (λ (n : ℕ). c * n) (sum_by-cons g x l) ∙ mul-add c (g x) (sum_by g l) in
      omega arith

  -- a sum of elements that are 0 where the other is
  pub sum_none : (f g : A → ℕ) (l : List A) → ((x : A) → f x ≡ 0 → g x ≡ 0) → sum_by f l ≡ 0 → sum_by g l ≡ 0
  sum_none f g [] none is = refl
  sum_none f g (x ∷ l) none is =
      let a = sum_by-cons f x l in
      let b = sum_by-cons g x l in
      let here = none x (omega arith) in
      let later = sum_none f g l none (omega arith) in
      omega arith

-- a worker draws
draw_list : (jobs : ℕ) (l : List ℕ) (n : ℕ) → IsDrawing jobs l → All (λ k. k < n) l → All (λ k. k < jobs) l → IsDrawing jobs (l ++ n ∷ [])
draw_list jobs l n is below are_jobs = (
  rises_push l n is.0 below,
  (λ k h. let len = length_push l n in let same = get_or_append_left l (n ∷ []) 0 k (omega arith) in let job = are_jobs k 0 (omega arith) in omega arith),
)

-- what stands in a view's lists is below the next number
pub view_below : (jobs n : ℕ) (views : List View) (id : ℕ) (v : View) → Kept jobs n views → get_elem? views id ≡ some v → All (λ l. All (λ k. k < n) l) v.lists
view_below jobs n views id v kept at w dl in_lists i d in_list =
    let l : List ℕ = get_or v.lists w [] in
    let same : get_or v.lists w dl ≡ l = get_or_default v.lists w dl [] in_lists in
    let inside : i < length l = subst (λ (m : List ℕ). i < length m) same in_list in
    let number : ℕ = get_or l i 0 in
    let plain : get_or (get_or v.lists w dl) i d ≡ number = ap (λ (m : List ℕ). get_or m i d) same ∙ get_or_default l i d 0 inside in
    let here : 0 < times number l = stands number l i inside refl in
    let in_view : times number l ≤ times_in number v.lists = get_or-le-sum_by (times number) v.lists w [] in_lists in
    let place = elem_at views id v at in
    let in_all : times_in number v.lists ≤ sum_by (λ (u : View). times_in number u.lists) views =
    subst (λ (u : View). times_in number u.lists ≤ sum_by (λ (u : View). times_in number u.lists) views) (place.1 v) (get_or-le-sum_by (λ (u : View). times_in number u.lists) views id v place.0) in
    let count = kept.counts number in
    let below : number < n = ⊎_elim (λ (h : number < n). h) (λ (h : n ≤ number). let none = not_below_is number n h in absurd (omega arith)) (cases_lt number n) in
    omega arith

pub draw_keeps : (jobs n : ℕ) (views : List View) (id : ℕ) (l : List ℕ) → Kept jobs n views → get_elem? views id ≡ some (holding l) → All (λ k. k < jobs) l
    → Kept jobs (n + 1) (set views id (holding (l ++ n ∷ [])))
draw_keeps jobs n views id l kept at are_jobs =
    let next : View = holding (l ++ n ∷ []) in
    let drawn : IsDrawing jobs (l ++ n ∷ []) =
    draw_list jobs l n (all_at (λ (v : View). All (IsDrawing jobs) v.lists) views id (holding l) at kept.lists 0 [] (omega arith)) (view_below jobs n views id (holding l) kept at 0 [] (omega arith)) are_jobs in
    record {
      few = kept.few;
      marks = (let s = sum_elem mark_of views id (holding l) next at in let k = kept.marks in omega arith);
      proper = All-set IsProper views id next (omega arith, λ _. omega arith) kept.proper;
      tally = (let s = sum_elem (λ (v : View). v.split) views id (holding l) next at in let t = sum_elem lists_of views id (holding l) next at in let k = kept.tally in omega arith);
      counts = λ number.
          (let s = sum_elem (λ (v : View). times_in number v.lists) views id (holding l) next at in
          let p = times_push number n l in let m = below_more number n in let k = kept.counts number in omega arith);
      numbers = (let s = sum_elem numbers_of views id (holding l) next at in let p = length_push l n in let k = kept.numbers in omega arith);
      lists = All-set (λ (v : View). All (IsDrawing jobs) v.lists) views id next (All-cons (IsDrawing jobs) (l ++ n ∷ []) [] drawn (All-nil (IsDrawing jobs))) kept.lists;
    }

-- a seat is split off the first one
pub split_keeps : (jobs n : ℕ) (views : List View) (id : ℕ) (v : View) → Kept jobs n views → get_elem? views id ≡ some v → v.first ≡ true → v.split < 16
    → Kept jobs n (set views id (split_once_more v) ++ seated ∷ [])
split_keeps jobs n views id v kept at first few =
    let next : View = split_once_more v in
    let now : List View = set views id next in
    let own = all_at IsProper views id v at kept.proper in
    let mark : mark_of v ≡ 1 = ap (λ (b : Bool). cond b 1 0) first in
    record {
      few = kept.few;
      marks = (let s = sum_elem mark_of views id v next at in let p = sum_by_push mark_of now seated in let k = kept.marks in omega arith);
      proper = All-push IsProper now seated (All-set IsProper views id next (omega arith, λ none. absurd (true≢false (sym first ∙ none))) kept.proper) (omega arith, λ _. omega arith);
      tally = (let s = sum_elem (λ (u : View). u.split) views id v next at in let p = sum_by_push (λ (u : View). u.split) now seated in
          let t = sum_elem lists_of views id v next at in let q = sum_by_push lists_of now seated in let k = kept.tally in omega arith);
      counts = λ number.
          (let s = sum_elem (λ (u : View). times_in number u.lists) views id v next at in let p = sum_by_push (λ (u : View). times_in number u.lists) now seated in
          let k = kept.counts number in omega arith);
      numbers = (let s = sum_elem numbers_of views id v next at in let p = sum_by_push numbers_of now seated in let k = kept.numbers in omega arith);
      lists = All-push (λ (u : View). All (IsDrawing jobs) u.lists) now seated
          (All-set (λ (u : View). All (IsDrawing jobs) u.lists) views id next (all_at (λ (u : View). All (IsDrawing jobs) u.lists) views id v at kept.lists) kept.lists)
          (All-cons (IsDrawing jobs) [] [] (rises_none, λ k h. absurd (omega arith)) (All-nil (IsDrawing jobs)));
    }

-- the first seat takes over what another one drew
pub join_keeps : (jobs n : ℕ) (views : List View) (id other : ℕ) (v : View) (l : List ℕ) → Kept jobs n views → get_elem? views id ≡ some v → v.first ≡ true → other ≢ id
    → get_elem? (set views id (joined v (holding l))) other ≡ some (holding l) → Kept jobs n (set (set views id (joined v (holding l))) other spent_view)
join_keeps jobs n views id other v l kept at first differ at_other =
    let next : View = joined v (holding l) in
    let now : List View = set views id next in
    let own = all_at IsProper views id v at kept.proper in
    let in_views : get_elem? views other ≡ some (holding l) = sym (set_else views id other next differ) ∙ at_other in
    let drawing : IsDrawing jobs l = all_at (λ (u : View). All (IsDrawing jobs) u.lists) views other (holding l) in_views kept.lists 0 [] (omega arith) in
    let lists : All (λ (u : View). All (IsDrawing jobs) u.lists) now =
    All-set (λ (u : View). All (IsDrawing jobs) u.lists) views id next
    (All-push (IsDrawing jobs) v.lists l (all_at (λ (u : View). All (IsDrawing jobs) u.lists) views id v at kept.lists) drawing) kept.lists in
    record {
      few = kept.few;
      marks = (let s = sum_elem mark_of views id v next at in let t = sum_elem mark_of now other (holding l) spent_view at_other in let k = kept.marks in omega arith);
      proper = All-set IsProper now other spent_view (omega arith, λ _. omega arith)
          (All-set IsProper views id next (own.0, λ none. absurd (true≢false (sym first ∙ none))) kept.proper);
      tally = (let s = sum_elem (λ (u : View). u.split) views id v next at in let s2 = sum_elem (λ (u : View). u.split) now other (holding l) spent_view at_other in
          let t = sum_elem lists_of views id v next at in let t2 = sum_elem lists_of now other (holding l) spent_view at_other in
          let p = length_push v.lists l in let k = kept.tally in omega arith);
      counts = λ number.
          (let s = sum_elem (λ (u : View). times_in number u.lists) views id v next at in let t = sum_elem (λ (u : View). times_in number u.lists) now other (holding l) spent_view at_other in
          let p = times_in_push number v.lists l in let k = kept.counts number in omega arith);
      numbers = (let s = sum_elem numbers_of views id v next at in let t = sum_elem numbers_of now other (holding l) spent_view at_other in
          let p = sum_by_push (λ (m : List ℕ). length m) v.lists l in let k = kept.numbers in omega arith);
      lists = All-set (λ (u : View). All (IsDrawing jobs) u.lists) now other spent_view (All-nil (IsDrawing jobs)) lists;
    }

-- a list has at most one number more than there are jobs
list_short : (jobs : ℕ) (l : List ℕ) → jobs ≤ 64 → IsDrawing jobs l → length l ≤ 65
list_short jobs l few is =
    ⊎_elim
    (λ (h : length l < 2). omega arith)
    (λ (h : 2 ≤ length l).
    let k : ℕ = length l - 2 in
    let at = rises_at l is.0 k (omega arith) in
    let job = is.1 k (omega arith) in omega arith)
    (cases_lt (length l) 2)

numbers_few : (jobs : ℕ) (v : View) → jobs ≤ 64 → All (IsDrawing jobs) v.lists → numbers_of v ≤ 65 * lists_of v
numbers_few jobs v few is =
    let most = sum_by-le (λ (l : List ℕ). length l) 65 v.lists (λ k d h. list_short jobs (get_or v.lists k d) few (is k d h)) in omega arith

-- so the word never wraps
pub word_small : (jobs n : ℕ) (views : List View) → Kept jobs n views → n ≤ 1040
word_small jobs n views kept =
    let a = sum_most 65 numbers_of lists_of views (λ k d h. numbers_few jobs (get_or views k d) kept.few (kept.lists k d h)) in
    let b = sum_most 16 (λ (v : View). v.split) mark_of views (λ k d h. (kept.proper k d h).0) in
    let t = kept.tally in let m = kept.marks in let w = kept.numbers in omega arith

no_times : (number : ℕ) (v : View) → lists_of v ≡ 0 → times_in number v.lists ≡ 0
no_times number v none = subst (λ (ls : List (List ℕ)). times_in number ls ≡ 0) (sym (nil_from_length v.lists none)) refl

-- once the first seat took over as many lists as it split off seats, its lists hold each number below the next one once, and no other
pub all_joined : (jobs n : ℕ) (views : List View) (id : ℕ) (v : View) → Kept jobs n views → get_elem? views id ≡ some v → v.first ≡ true → length v.lists ≡ v.split
    → (number : ℕ) → times_in number v.lists ≡ once_below number n
all_joined jobs n views id v kept at first joined_all number =
    let others : List View = set views id spent_view in
    let mark : mark_of v ≡ 1 = ap (λ (b : Bool). cond b 1 0) first in
    let m = sum_elem mark_of views id v spent_view at in
    let s = sum_elem (λ (u : View). u.split) views id v spent_view at in
    let l = sum_elem lists_of views id v spent_view at in
    let t = sum_elem (λ (u : View). times_in number u.lists) views id v spent_view at in
    let marks = kept.marks in let tally = kept.tally in let count = kept.counts number in
    let proper : All IsProper others = All-set IsProper views id spent_view (omega arith, λ _. omega arith) kept.proper in
    let few = sum_most 16 (λ (u : View). u.split) mark_of others (λ k d h. (proper k d h).0) in
    let no_lists : sum_by lists_of others ≡ 0 = omega arith in
    let none = sum_none lists_of (λ (u : View). times_in number u.lists) others (no_times number) no_lists in
    omega arith
