-- Expressions word by word.
use Rattle.std.proofs.Common.{◌≡◌, ℕ, zero, suc, ◌+◌, ◌<◌, Bool, true, false, not, ◌&&◌, ◌||◌, List, [], ◌∷◌, length, take, drop, get_or, Option, Some, None, option_map, refl, sym, ap, ◌∙◌, arith}
use Rattle.std.specs.Prelude.{◌==◌}
use Rattle.std.specs.List.{fold}
use Rattle.std.proofs.lemmas.List.{get_or_default}
use Rattle.std.proofs.lemmas.Bool.{eqb-true}
use Rattle.histories.proofs.Fronts.{fold_front}
use Rattle.lc_watch.specs.Expressions.{differ, with_one, with_two, worked, worked_on, values_left, is_one, LeavesOne}
use Rattle.lc_watch.specs.declared.expressions.Word.{Word}
use Rattle.lc_watch.specs.declared.expressions.Word.TheVariants.{Watch, And, Or, Xor, Not, Unknown}

-- how many values there are
abbrev pub count_of : Option (List Bool) → Option ℕ
count_of left = option_map length left

-- before the first word
pub left_none : (value : ℕ → Bool) → values_left value [] ≡ Some []
unfolding values_left
left_none value = refl

-- after one more
pub left_front : (value : ℕ → Bool) (words : List Word) (i : ℕ) (word : Word) → i < length words → word ≡ get_or words i word → values_left value (take (i + 1) words) ≡ worked_on value (values_left value (take i words)) word
unfolding values_left
left_front value words i word within is = fold_front (worked_on value) (Some []) words i word within is

-- where a word lacks an operand or is none, all behind it does no more
none_after : (value : ℕ → Bool) (words : List Word) → fold (worked_on value) None words ≡ None
none_after value [] = refl
none_after value (word ∷ words) = none_after value words

fold_parts : (value : ℕ → Bool) (words : List Word) (i : ℕ) (left : Option (List Bool)) → fold (worked_on value) left words ≡ fold (worked_on value) (fold (worked_on value) left (take i words)) (drop i words)
fold_parts value words zero left = refl
fold_parts value [] (suc i) left = refl
fold_parts value (word ∷ words) (suc i) left = fold_parts value words i (worked_on value left word)

pub none_left : (value : ℕ → Bool) (words : List Word) (i : ℕ) → values_left value (take i words) ≡ None → values_left value words ≡ None
unfolding values_left
none_left value words i none =
    fold_parts value words i (Some []) ∙ ap (λ (left : Option (List Bool)). fold (worked_on value) left (drop i words)) none ∙ none_after value (drop i words)

-- how many values are left after one more word
pub left_next : (value : ℕ → Bool) (words : List Word) (i : ℕ) → i < length words → values_left value (take (i + 1) words) ≡ worked_on value (values_left value (take i words)) (get_or words i (Watch 0))
left_next value words i within = left_front value words i (get_or words i (Watch 0)) within (get_or_default words i (Watch 0) (get_or words i (Watch 0)) within)

pub counted_more : (value : ℕ → Bool) (words : List Word) (i count : ℕ) (result : Option ℕ) → i < length words
    → ((values : List Bool) → count ≡ length values → result ≡ count_of (worked value values (get_or words i (Watch 0))))
    → count_of (values_left value (take i words)) ≡ Some count → count_of (values_left value (take (i + 1) words)) ≡ result
counted_more value words i count result within after before = ap count_of (left_next value words i within) ∙ by_left (values_left value (take i words)) before
  where
    by_left : (left : Option (List Bool)) → count_of left ≡ Some count → count_of (worked_on value left (get_or words i (Watch 0))) ≡ result
    by_left None is = cc
    by_left (Some values) is = let same : count ≡ length values = cc in sym (after values same)

-- where a word ends the counting, nothing is left
pub counted_none : (value : ℕ → Bool) (words : List Word) (i : ℕ) → count_of (values_left value (take i words)) ≡ None → false ≡ is_one (values_left value words)
counted_none value words i none = sym (ap is_one (none_left value words i (by_left (values_left value (take i words)) none)))
  where
    by_left : (left : Option (List Bool)) → count_of left ≡ None → left ≡ None
    by_left None is = refl
    by_left (Some values) is = cc

-- how many values are left doesn't depend on what those of the watchpoints are
abbrev Alike : Option (List Bool) → Option (List Bool) → Type 0
Alike left other = count_of left ≡ count_of other

one_alike : (f : Bool → Bool) (xs ys : List Bool) → length xs ≡ length ys → Alike (with_one f xs) (with_one f ys)
one_alike f [] [] same = refl
one_alike f [] (y ∷ ys) same = absurd (omega arith)
one_alike f (x ∷ xs) [] same = absurd (omega arith)
one_alike f (x ∷ xs) (y ∷ ys) same = ap (λ (n : ℕ). Some n) same

two_alike : (f : Bool → Bool → Bool) (xs ys : List Bool) → length xs ≡ length ys → Alike (with_two f xs) (with_two f ys)
two_alike f [] [] same = refl
two_alike f [] (y ∷ ys) same = absurd (omega arith)
two_alike f (x ∷ xs) [] same = absurd (omega arith)
two_alike f (x ∷ []) (y ∷ []) same = refl
two_alike f (x ∷ []) (y ∷ z ∷ ys) same = absurd (omega arith)
two_alike f (x ∷ z ∷ xs) (y ∷ []) same = absurd (omega arith)
two_alike f (x ∷ z ∷ xs) (y ∷ w ∷ ys) same = ap (λ (n : ℕ). Some n) (let shorter : length (f z x ∷ xs) ≡ length (f w y ∷ ys) = omega arith in shorter)

some_alike : (xs ys : List Bool) → Alike (Some xs) (Some ys) → length xs ≡ length ys
some_alike xs ys same = cc

module _ (value other : ℕ → Bool) where
  word_alike : (xs ys : List Bool) (word : Word) → length xs ≡ length ys → Alike (worked value xs word) (worked other ys word)
  word_alike xs ys (Watch place) same = ap (λ (n : ℕ). Some n) (let longer : length (value place ∷ xs) ≡ length (other place ∷ ys) = omega arith in longer)
  word_alike xs ys And same = two_alike (λ a b. a && b) xs ys same
  word_alike xs ys Or same = two_alike (λ a b. a || b) xs ys same
  word_alike xs ys Xor same = two_alike differ xs ys same
  word_alike xs ys Not same = one_alike not xs ys same
  word_alike xs ys Unknown same = refl

  step_alike : (left right : Option (List Bool)) (word : Word) → Alike left right → Alike (worked_on value left word) (worked_on other right word)
  step_alike None None word same = refl
  step_alike None (Some ys) word same = cc
  step_alike (Some xs) None word same = cc
  step_alike (Some xs) (Some ys) word same = word_alike xs ys word (some_alike xs ys same)

  fold_alike : (words : List Word) (left right : Option (List Bool)) → Alike left right → Alike (fold (worked_on value) left words) (fold (worked_on other) right words)
  fold_alike [] left right same = same
  fold_alike (word ∷ words) left right same = fold_alike words (worked_on value left word) (worked_on other right word) (step_alike left right word same)

  pub left_alike : (words : List Word) → Alike (values_left value words) (values_left other words)
  unfolding values_left
  left_alike words = fold_alike words (Some []) (Some []) refl

-- one value
pub one_counts : (left : Option (List Bool)) (count : ℕ) → count_of left ≡ Some count → (count == 1) ≡ is_one left
one_counts None count is = cc
one_counts (Some values) count is = let same : count ≡ length values = cc in ap (λ (n : ℕ). n == 1) same

one_value : (values : List Bool) → (length values == 1) ≡ true → LeavesOne (Some values)
one_value [] is = cc
one_value (b ∷ []) is = (b, refl)
one_value (b ∷ a ∷ values) is = let one : length (b ∷ a ∷ values) ≡ 1 = eqb-true (length (b ∷ a ∷ values)) 1 is in absurd (omega arith)

one_same : (left right : Option (List Bool)) → Alike left right → is_one left ≡ true → LeavesOne right
one_same None right same is = cc
one_same (Some xs) None same is = cc
one_same (Some xs) (Some ys) same is = one_value ys (ap (λ (n : ℕ). n == 1) (sym (some_alike xs ys same)) ∙ is)

-- an expression that leaves one value by some values of the watchpoints does so by all
pub leaves_one : (value : ℕ → Bool) (words : List Word) → is_one (values_left value words) ≡ true → (other : ℕ → Bool) → LeavesOne (values_left other words)
leaves_one value words is other = one_same (values_left value words) (values_left other words) (left_alike value other words) is
