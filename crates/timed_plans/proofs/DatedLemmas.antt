-- Lemmas on telecommands with dates.
use Rattle.std.proofs.Common.{◌≡◌, ℕ, ◌+◌, ◌<◌, Bool, true, false, List, [], ◌∷◌, ◌++◌, length, refl, ap, sym, ◌∙◌, arith, append_assoc, append-nil}
use Rattle.std.specs.Prelude.{◌==◌, if◌then◌else◌, filter, codes, decimal, Result, Ok, Err}
use Rattle.std.specs.List.{AllByRecursion, slice_split, onto_first}
use Rattle.std.proofs.lemmas.List.Splits.{slice_split-cons_yes, slice_split-cons_no}
use Rattle.row_forms.specs.Words.{words, is_word}
use Rattle.row_forms.proofs.TextLemmas.{IsPlain, IsWord, no_words, word_alone, all_append, marks_are_plain, decimal_marks}
use Rattle.plan_text.specs.declared.fault.PlanReason.{PlanReason}
use Rattle.plan_text.specs.declared.fault.LineError.{LineError}
use Rattle.plan_text.specs.declared.fault.LineError.TheVariants as line_errors
use Rattle.calendar_dates.specs.declared.epoch.Epoch.{Epoch}
use Rattle.timed_plans.specs.Times.{in_front, dated_word, dated_words, GivesWord, GivesWords}

-- ---- words of two texts

onto_append : (x : ℕ) (ps qs : List (List ℕ)) → 0 < length ps → onto_first x (ps ++ qs) ≡ onto_first x ps ++ qs
onto_append x [] qs some = absurd (omega arith)
onto_append x (p ∷ ps) qs some = refl

onto_some : (x : ℕ) (parts : List (List ℕ)) → 0 < length parts → 0 < length (onto_first x parts)
onto_some x [] some = omega arith
onto_some x (p ∷ ps) some = omega arith

split_some : (p : ℕ → Bool) (xs : List ℕ) → 0 < length (slice_split p xs)
split_some p [] = omega arith
split_some p (x ∷ xs) = by (p x) refl (split_some p xs) where
  by : (b : Bool) → p x ≡ b → 0 < length (slice_split p xs) → 0 < length (slice_split p (x ∷ xs))
  by true e some = rw (slice_split-cons_yes p x xs e) (omega arith)
  by false e some = rw (slice_split-cons_no p x xs e) (onto_some x (slice_split p xs) some)

split_append : (p : ℕ → Bool) (xs : List ℕ) (y : ℕ) (ys : List ℕ) → p y ≡ true → slice_split p (xs ++ y ∷ ys) ≡ slice_split p xs ++ slice_split p ys
split_append p [] y ys cut = slice_split-cons_yes p y ys cut
split_append p (x ∷ xs) y ys cut = by (p x) refl (split_append p xs y ys cut) where
  by : (b : Bool) → p x ≡ b → slice_split p (xs ++ y ∷ ys) ≡ slice_split p xs ++ slice_split p ys → slice_split p (x ∷ (xs ++ y ∷ ys)) ≡ slice_split p (x ∷ xs) ++ slice_split p ys
  by true e more =
      slice_split-cons_yes p x (xs ++ y ∷ ys) e ∙ ap (λ (ps : List (List ℕ)). [] ∷ ps) more
      ∙ ap (λ (ps : List (List ℕ)). ps ++ slice_split p ys) (sym (slice_split-cons_yes p x xs e))
  by false e more =
      slice_split-cons_no p x (xs ++ y ∷ ys) e ∙ ap (onto_first x) more
      ∙ onto_append x (slice_split p xs) (slice_split p ys) (split_some p xs)
      ∙ ap (λ (ps : List (List ℕ)). ps ++ slice_split p ys) (sym (slice_split-cons_no p x xs e))

filter_append : (p : List ℕ → Bool) (xs ys : List (List ℕ)) → filter p (xs ++ ys) ≡ filter p xs ++ filter p ys
filter_append p [] ys = refl
filter_append p (x ∷ xs) ys = by (p x) (filter_append p xs ys) where
  by : (b : Bool) → filter p (xs ++ ys) ≡ filter p xs ++ filter p ys → (if b then x ∷ filter p (xs ++ ys) else filter p (xs ++ ys)) ≡ (if b then x ∷ filter p xs else filter p xs) ++ filter p ys
  by true more = ap (λ (ps : List (List ℕ)). x ∷ ps) more
  by false more = more

words_behind : (xs ys : List ℕ) → words (xs ++ 32 ∷ ys) ≡ words xs ++ words ys
unfolding words
words_behind xs ys =
    ap (filter is_word) (split_append (λ b. b == 32) xs 32 ys refl) ∙ filter_append is_word (slice_split (λ b. b == 32) xs) (slice_split (λ b. b == 32) ys)

-- ---- one word more

dated_nil : (e : Epoch) (n : ℕ) → dated_words e n [] ≡ Ok []
unfolding dated_words
dated_nil e n = refl

dated_cons : (e : Epoch) (n : ℕ) (w v : List ℕ) (more : List (List ℕ)) → dated_word e n w ≡ Ok v → dated_words e n (w ∷ more) ≡ in_front (v ∷ []) (dated_words e (n + 1) more)
unfolding dated_words
dated_cons e n w v more said = rw said refl

dated_fault : (e : Epoch) (n : ℕ) (w : List ℕ) (more : List (List ℕ)) (reason : PlanReason) → dated_word e n w ≡ Err reason → dated_words e n (w ∷ more) ≡ Err reason
unfolding dated_words
dated_fault e n w more reason said = rw said refl

in_front_both : (a b : List (List ℕ)) (r : Result (List (List ℕ)) PlanReason) → in_front a (in_front b r) ≡ in_front (a ++ b) r
in_front_both a b (Ok ws) = ap (λ (ps : List (List ℕ)). Ok ps) (sym (append_assoc a b ws))
in_front_both a b (Err reason) = refl

pub said_first : (e : Epoch) (line out : List ℕ) → out ≡ [] → dated_words e 2 (words line) ≡ in_front (words out) (dated_words e 2 (words line))
said_first e line out none = by (dated_words e 2 (words line)) ∙ ap (λ (ps : List (List ℕ)). in_front ps (dated_words e 2 (words line))) (sym (ap words none ∙ no_words)) where
  by : (r : Result (List (List ℕ)) PlanReason) → r ≡ in_front [] r
  by (Ok ws) = refl
  by (Err reason) = refl

pub said_more : (e : Epoch) (n : ℕ) (w v rest more old new : List ℕ) (whole : Result (List (List ℕ)) PlanReason) → whole ≡ in_front (words old) (dated_words e n (words rest)) → words rest ≡ w ∷ words more
    → dated_word e n w ≡ Ok v → new ≡ old ++ 32 ∷ v → words v ≡ v ∷ [] → whole ≡ in_front (words new) (dated_words e (n + 1) (words more))
said_more e n w v rest more old new whole is first said put alone =
    is
    ∙ ap (λ (ws : List (List ℕ)). in_front (words old) (dated_words e n ws)) first
    ∙ ap (in_front (words old)) (dated_cons e n w v (words more) said)
    ∙ in_front_both (words old) (v ∷ []) (dated_words e (n + 1) (words more))
    ∙ ap (λ (ps : List (List ℕ)). in_front ps (dated_words e (n + 1) (words more))) (sym (ap words put ∙ words_behind old v ∙ ap (λ (ps : List (List ℕ)). words old ++ ps) alone))

pub said_fault : (e : Epoch) (n : ℕ) (w rest more old : List ℕ) (reason : PlanReason) (whole : Result (List (List ℕ)) PlanReason) → whole ≡ in_front (words old) (dated_words e n (words rest)) → words rest ≡ w ∷ words more → dated_word e n w ≡ Err reason → whole ≡ Err reason
said_fault e n w rest more old reason whole is first said =
    is ∙ ap (λ (ws : List (List ℕ)). in_front (words old) (dated_words e n ws)) first ∙ ap (in_front (words old)) (dated_fault e n w (words more) reason said)

pub fault_gives : (e : Epoch) (n : ℕ) (w rest more old new : List ℕ) (error : LineError) (whole : Result (List (List ℕ)) PlanReason) → whole ≡ in_front (words old) (dated_words e n (words rest)) → words rest ≡ w ∷ words more
    → GivesWord (dated_word e n w) old new (Err error) → GivesWords whole new (Err error)
fault_gives e n w rest more old new (line_errors.Memory error) whole is first gives = tt
fault_gives e n w rest more old new (line_errors.Because reason) whole is first gives = said_fault e n w rest more old reason whole is first gives

pub said_all : (e : Epoch) (n : ℕ) (rest old : List ℕ) (whole : Result (List (List ℕ)) PlanReason) → whole ≡ in_front (words old) (dated_words e n (words rest)) → words rest ≡ [] → whole ≡ Ok (words old)
said_all e n rest old whole is none =
    is ∙ ap (λ (ws : List (List ℕ)). in_front (words old) (dated_words e n ws)) none ∙ ap (in_front (words old)) (dated_nil e n)
    ∙ ap (λ (ps : List (List ℕ)). Ok ps) (append-nil (words old))

-- ---- the word of a second

letters : AllByRecursion IsPlain (codes "time=")
letters = (omega arith, (omega arith, (omega arith, (omega arith, (omega arith, tt)))))

second_is : (s : ℕ) → s < 4294967296 → IsWord (codes "time=" ++ decimal s)
second_is s small = (omega arith, all_append IsPlain (codes "time=") (decimal s) letters (marks_are_plain (decimal s) (decimal_marks s small)))

pub second_alone : (s : ℕ) → s < 4294967296 → words (codes "time=" ++ decimal s) ≡ (codes "time=" ++ decimal s) ∷ []
second_alone s small = word_alone (codes "time=" ++ decimal s) (second_is s small)

pub text_put : (old a b w : List ℕ) → a ≡ old ++ 32 ∷ [] → b ≡ a ++ w → b ≡ old ++ 32 ∷ w
text_put old a b w first second = second ∙ ap (λ (t : List ℕ). t ++ w) first ∙ append_assoc old (32 ∷ []) w

pub second_put : (old a b w : List ℕ) → a ≡ old ++ codes " time=" → b ≡ a ++ w → b ≡ old ++ 32 ∷ (codes "time=" ++ w)
second_put old a b w first second = second ∙ ap (λ (t : List ℕ). t ++ w) first ∙ append_assoc old (codes " time=") w
