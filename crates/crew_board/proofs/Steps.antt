-- What the table asks of each kind of step on the board.
use Rattle.std.proofs.Common.{◌≡◌, ℕ, ◌+◌, ◌%◌, ◌^◌, ◌<◌, ◌≤◌, true, List, [], ◌∷◌, ◌++◌, length, slice_index, slice_set, refl, sym, ap, ◌∙◌, subst, arith, All, length-set, mod-eq_of_lt}
use Rattle.std.proofs.lemmas.List.{get_or-set_same}
use Rattle.std.proofs.lemmas.List.Elements.{All-nil, All-cons}
use Rattle.atomic_table.specs.Table.{Me, Allows, Splits, Joins, opening}
use Rattle.atomic_table.specs.Table.Act.{keeps}
use Rattle.crew_board.specs.declared.board.View.{View}
use Rattle.crew_board.specs.Board.{started, seated, spent_view, holding, split_once_more, joined, drawn_by, DrawsOne, IsProper, IsDrawing, Kept, Keeps}
use Rattle.crew_board.proofs.Times.{not_below_is}
use Rattle.crew_board.proofs.Ruled.{view_below, draw_keeps, split_keeps, join_keeps, word_small}

-- a new board
pub opens : (jobs : ℕ) → jobs ≤ 64 → Keeps jobs (opening {S = ℕ} (0 ∷ []) [] started)
opens jobs few = (
  refl,
  record {
    few = few;
    marks = refl;
    proper = All-cons IsProper started [] (omega arith, λ _. omega arith) (All-nil IsProper);
    tally = refl;
    counts = λ number. sym (not_below_is number 0 (omega arith));
    numbers = refl;
    lists = All-cons (λ (v : View). All (IsDrawing jobs) v.lists) started [] (All-nil (IsDrawing jobs)) (All-nil (λ (v : View). All (IsDrawing jobs) v.lists));
  },
)

-- the word is one more
next_word : (words : List ℕ) → length words ≡ 1 → slice_index words 0 ≤ 1040 → slice_index (slice_set words 0 ((slice_index words 0 + 1) % 2 ^ 64)) 0 ≡ slice_index words 0 + 1
next_word words one small =
    get_or-set_same words 0 ((slice_index words 0 + 1) % 2 ^ 64) 0 (omega arith) ∙ mod-eq_of_lt (omega arith)

-- a worker draws the next number
pub draws : (jobs slots id : ℕ) (l : List ℕ) → All (λ k. k < jobs) l → Allows (Keeps jobs) slots id (holding l, []) 0 (λ n. (n + 1) % 2 ^ 64) (DrawsOne (holding l, []))
draws jobs slots id l are_jobs s h homes at fits =
    let n : ℕ = slice_index s.words 0 in
    let e = next_word s.words h.0 (word_small jobs n s.views h.1) in (
      holding (l ++ n ∷ []),
      keeps,
      tt,
      (
        length-set s.words 0 ((n + 1) % 2 ^ 64) ∙ h.0,
        subst (λ (m : ℕ). Kept jobs m (slice_set s.views id (holding (l ++ n ∷ [])))) (sym e) (draw_keeps jobs n s.views id l h.1 at are_jobs),
      ),
      (refl, view_below jobs n s.views id (holding l) h.1 at),
    )

-- the same of a view that is this one
pub allows : (jobs slots id : ℕ) (l : List ℕ) (me : Me ℕ View) → me ≡ (holding l, []) → All (λ k. k < jobs) l → Allows (Keeps jobs) slots id me 0 (λ n. (n + 1) % 2 ^ 64) (DrawsOne me)
allows jobs slots id l me is are_jobs =
    subst (λ (m : Me ℕ View). Allows (Keeps jobs) slots id m 0 (λ n. (n + 1) % 2 ^ 64) (DrawsOne m)) (sym is) (draws jobs slots id l are_jobs)

-- what a draw tells
pub drew_below : (l : List ℕ) (number : ℕ) (me after : Me ℕ View) → me ≡ (holding l, []) → DrawsOne me number after → All (λ n. n < number) l
drew_below l number me after is drew = subst (λ (m : Me ℕ View). All (λ ns. All (λ n. n < number) ns) m.0.lists) is drew.1 0 [] (omega arith)

pub drew_after : (l : List ℕ) (number : ℕ) (me after : Me ℕ View) → me ≡ (holding l, []) → DrawsOne me number after → after ≡ (holding (l ++ number ∷ []), [])
drew_after l number me after is drew = let f : Me ℕ View → Me ℕ View = λ m. (drawn_by m.0 number, m.1) in drew.0 ∙ ap f is

-- a seat is split off the first one
pub splits : (jobs id : ℕ) (v : View) → v.first ≡ true → v.split < 16 → Splits {S = ℕ} (Keeps jobs) id v (split_once_more v) seated
splits jobs id v first few s h at = (h.0, split_keeps jobs (slice_index s.words 0) s.views id v h.1 at first few)

-- the first seat takes over what another one drew
pub joins : (jobs id other : ℕ) (v : View) (l : List ℕ) → v.first ≡ true → Joins {S = ℕ} (Keeps jobs) id v other (holding l) (joined v (holding l)) spent_view
joins jobs id other v l first s h at differ at_other = (h.0, join_keeps jobs (slice_index s.words 0) s.views id other v l h.1 at first differ at_other)

-- the same of another one's view that is this one
pub joins_one : (jobs id other : ℕ) (v : View) (l : List ℕ) (me : Me ℕ View) → me ≡ (holding l, []) → v.first ≡ true → Joins {S = ℕ} (Keeps jobs) id v other me.0 (joined v me.0) spent_view
joins_one jobs id other v l me is first = subst (λ (m : Me ℕ View). Joins {S = ℕ} (Keeps jobs) id v other m.0 (joined v m.0) spent_view) (sym is) (joins jobs id other v l first)
