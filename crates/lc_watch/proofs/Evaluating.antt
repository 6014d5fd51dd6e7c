-- Evaluations word by word.
use Rattle.std.proofs.Common.{◌≡◌, ℕ, zero, suc, ◌+◌, ◌<◌, Bool, true, false, ◌&&◌, cond, List, [], ◌∷◌, length, take, get_or, Option, Some, None, refl, sym, ap, ◌∙◌}
use Rattle.std.specs.List.{list_all, fold}
use Rattle.std.proofs.lemmas.List.{get_or_default}
use Rattle.std.proofs.lemmas.List.Folds.{list_all-append}
use Rattle.histories.specs.Masks.{bits_of}
use Rattle.histories.proofs.Fronts.{front_more}
use Rattle.lc_watch.specs.Outcomes.{is_known, is_tripped}
use Rattle.lc_watch.specs.Expressions.{names_known, tripped_in, worked, worked_on, values_left, value_of}
use Rattle.lc_watch.specs.Actionpoints.{is_used, expression, evaluation_of}
use Rattle.lc_watch.specs.declared.expressions.Word.{Word}
use Rattle.lc_watch.specs.declared.expressions.Word.TheVariants.{Watch, And, Or, Xor, Not, Unknown}
use Rattle.lc_watch.specs.declared.outcomes.Outcome.{Outcome}
use Rattle.lc_watch.specs.declared.actionpoints.ActRow.{ActRow}
use Rattle.lc_watch.proofs.Both.{and_yes, and_no}
use Rattle.lc_watch.proofs.Leaving.{left_next}

-- a test of all elements so far, at one more
all_more : {A : Type 0} (p : A → Bool) (xs : List A) (i : ℕ) (d : A) → i < length xs → list_all p (take (i + 1) xs) ≡ (list_all p (take i xs) && p (get_or xs i d))
all_more p xs i d within =
    ap (list_all p) (front_more xs i (get_or xs i d) within (get_or_default xs i d (get_or xs i d) within)) ∙ list_all-append p (take i xs) (get_or xs i d ∷ [])
    ∙ ap (λ (t : Bool). list_all p (take i xs) && t) (and_yes (p (get_or xs i d)))

all_fails : {A : Type 0} (p : A → Bool) (xs : List A) (i : ℕ) → list_all p (take i xs) ≡ false → list_all p xs ≡ false
all_fails p [] zero fails = cc
all_fails p [] (suc i) fails = cc
all_fails p (x ∷ xs) zero fails = cc
all_fails p (x ∷ xs) (suc i) fails = by_test (λ rest. all_fails p xs i rest) (p x) fails
  where
    by_test : (list_all p (take i xs) ≡ false → list_all p xs ≡ false) → (t : Bool) → (t && list_all p (take i xs)) ≡ false → (t && list_all p xs) ≡ false
    by_test rest true is = rest is
    by_test rest false is = refl

module _ (outcome : ℕ → Outcome) (words : List Word) (i : ℕ) (within : i < length words) where
  abbrev word : Word
  word = get_or words i (Watch 0)

  -- one more word that names no watchpoint, or one whose value was compared
  pub known_more : list_all (names_known outcome) (take i words) ≡ true → names_known outcome word ≡ true → list_all (names_known outcome) (take (i + 1) words) ≡ true
  known_more before here = all_more (names_known outcome) words i (Watch 0) within ∙ rw (before, here) refl

  -- one that names another
  pub known_fails : names_known outcome word ≡ false → value_of outcome words ≡ None
  unfolding value_of
  known_fails here =
      let fails : list_all (names_known outcome) words ≡ false = all_fails (names_known outcome) words (i + 1) (all_more (names_known outcome) words i (Watch 0) within ∙ ap (λ (t : Bool). list_all (names_known outcome) (take i words) && t) here ∙ and_no (list_all (names_known outcome) (take i words))) in
      rw fails refl

  -- the values behind one more word
  pub stack_more : (stack next : ℕ) → ((values : List Bool) → values_left (tripped_in outcome) (take i words) ≡ Some values → stack ≡ bits_of values)
      → ((values left : List Bool) → stack ≡ bits_of values → worked (tripped_in outcome) values word ≡ Some left → next ≡ bits_of left)
      → (values : List Bool) → values_left (tripped_in outcome) (take (i + 1) words) ≡ Some values → next ≡ bits_of values
  stack_more stack next before after values is = by_left (values_left (tripped_in outcome) (take i words)) refl (sym (left_next (tripped_in outcome) words i within) ∙ is)
    where
      by_left : (left : Option (List Bool)) → values_left (tripped_in outcome) (take i words) ≡ left → worked_on (tripped_in outcome) left word ≡ Some values → next ≡ bits_of values
      by_left None was here = cc
      by_left (Some earlier) was here = after earlier values (before earlier was) here

-- the whole expression
pub value_known : (outcome : ℕ → Outcome) (words : List Word) (b : Bool) → list_all (names_known outcome) words ≡ true → values_left (tripped_in outcome) words ≡ Some (b ∷ []) → value_of outcome words ≡ Some b
unfolding value_of
value_known outcome words b known left = rw (known, left) refl

-- of an entry
pub entry_unused : (outcome : ℕ → Outcome) (row : ActRow) → is_used row ≡ false → None ≡ evaluation_of outcome row
unfolding evaluation_of
entry_unused outcome row unused = rw unused refl

pub entry_used : (outcome : ℕ → Outcome) (row : ActRow) (found : Option Bool) → is_used row ≡ true → value_of outcome (expression row) ≡ found → found ≡ evaluation_of outcome row
unfolding evaluation_of
entry_used outcome row found used is = rw used (sym is)

-- an entry that is evaluated is used
pub evaluated_used : (outcome : ℕ → Outcome) (row : ActRow) (fails : Bool) → evaluation_of outcome row ≡ Some fails → is_used row ≡ true
unfolding evaluation_of
evaluated_used outcome row fails is = by_test (is_used row) is
  where
    by_test : (t : Bool) → cond t (value_of outcome (expression row)) None ≡ Some fails → t ≡ true
    by_test true some = refl
    by_test false some = cc

-- by outcomes that agree
module _ (f g : ℕ → Outcome) (same : (k : ℕ) → f k ≡ g k) where
  known_same : (words : List Word) → list_all (names_known f) words ≡ list_all (names_known g) words
  known_same [] = refl
  known_same (w ∷ words) = ap (λ (t : Bool). t && list_all (names_known f) words) (here w) ∙ ap (λ (t : Bool). names_known g w && t) (known_same words)
    where
      here : (v : Word) → names_known f v ≡ names_known g v
      here (Watch place) = ap is_known (same place)
      here And = refl
      here Or = refl
      here Xor = refl
      here Not = refl
      here Unknown = refl

  worked_same : (left : Option (List Bool)) (word : Word) → worked_on (tripped_in f) left word ≡ worked_on (tripped_in g) left word
  worked_same None w = refl
  worked_same (Some values) (Watch place) = ap (λ (o : Outcome). Some (is_tripped o ∷ values)) (same place)
  worked_same (Some values) And = refl
  worked_same (Some values) Or = refl
  worked_same (Some values) Xor = refl
  worked_same (Some values) Not = refl
  worked_same (Some values) Unknown = refl

  left_same : (words : List Word) (left : Option (List Bool)) → fold (worked_on (tripped_in f)) left words ≡ fold (worked_on (tripped_in g)) left words
  left_same [] left = refl
  left_same (w ∷ words) left = left_same words (worked_on (tripped_in f) left w) ∙ ap (λ (next : Option (List Bool)). fold (worked_on (tripped_in g)) next words) (worked_same left w)

  pub evaluation_same : (row : ActRow) → evaluation_of f row ≡ evaluation_of g row
  unfolding evaluation_of value_of values_left
  evaluation_same row = rw (known_same (expression row), left_same (expression row) (Some [])) refl
