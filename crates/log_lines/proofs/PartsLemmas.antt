-- Lemmas on the words of a line, which stand between single spaces.
use Rattle.std.proofs.Common.{◌≡◌, ◌==◌, ℕ, ◌+◌, ◌<◌, ◌≤◌, Bool, true, false, List, [], ◌∷◌, ◌++◌, length, take, drop, Some, None, refl, ap, sym, ◌∙◌, arith, append-nil}
use Rattle.std.specs.List.{position, position_or_len, onto_first, slice_split, AllByRecursion, join_with_byte}
use Rattle.std.proofs.lemmas.List.Splits.{length-slice_split, slice_split_first, slice_split-cons_yes, slice_split-cons_no, join_with_byte-slice_split}
use Rattle.row_forms.specs.Rows.{spaced}
use Rattle.row_forms.proofs.TextLemmas.{IsPlain, all_map}
use Rattle.row_forms.proofs.WordsLemmas.{position_is, position_none}
use Rattle.std.specs.Prelude.{Err}
use Rattle.log_lines.specs.declared.fault.LineFault.TheVariants as faults
use Rattle.log_lines.specs.Lines.{line_words, last_word, reset_said}
use Rattle.std.proofs.lemmas.Bool.Decides.{nat_tests}

-- ---- cutting at the first byte that ends a part

none_one : (p : ℕ → Bool) (x : ℕ) (xs : List ℕ) (b : Bool) → p x ≡ b → (length xs ≤ position_or_len p xs → slice_split p xs ≡ xs ∷ []) → length (x ∷ xs) ≤ position_or_len p (x ∷ xs) → slice_split p (x ∷ xs) ≡ (x ∷ xs) ∷ []
none_one p x xs true e ih h = let k = rw e at h in absurd (omega (arith, k))
none_one p x xs false e ih h =
    let k = rw e at h in
    slice_split-cons_no p x xs e ∙ ap (onto_first x) (ih (omega (arith, k)))

one_part : (p : ℕ → Bool) (xs : List ℕ) → length xs ≤ position_or_len p xs → slice_split p xs ≡ xs ∷ []
one_part p [] h = refl
one_part p (x ∷ xs) h = none_one p x xs (p x) refl (one_part p xs) h

-- a text in which none stands is one part
pub whole_part : (p : ℕ → Bool) (text : List ℕ) → position p text ≡ None → slice_split p text ≡ text ∷ []
whole_part p text none = one_part p text (position_none p text none)

-- the first part ends at the first one
pub part_at : (p : ℕ → Bool) (text : List ℕ) (at : ℕ) → position p text ≡ Some at → slice_split p text ≡ take at text ∷ slice_split p (drop (at + 1) text)
part_at p text at found =
    let here = position_is p text at found in
    slice_split_first p text 0 (let k : position_or_len p text < length text = omega (arith, here.0, here.1) in k)
    ∙ ap (λ (n : ℕ). take n text ∷ slice_split p (drop (n + 1) text)) (sym here.0)

-- the first part ends at the first byte that ends one
pub split_first : (p : ℕ → Bool) (xs : List ℕ) (y : ℕ) (ys : List ℕ) → AllByRecursion (λ x. p x ≡ false) xs → p y ≡ true → slice_split p (xs ++ y ∷ ys) ≡ xs ∷ slice_split p ys
split_first p [] y ys all ends = slice_split-cons_yes p y ys ends
split_first p (x ∷ xs) y ys all ends = slice_split-cons_no p x (xs ++ y ∷ ys) all.0 ∙ ap (onto_first x) (split_first p xs y ys all.1 ends)

-- all is one part where none does
pub split_none : (p : ℕ → Bool) (xs : List ℕ) → AllByRecursion (λ x. p x ≡ false) xs → slice_split p xs ≡ xs ∷ []
split_none p [] all = refl
split_none p (x ∷ xs) all = slice_split-cons_no p x xs all.0 ∙ ap (onto_first x) (split_none p xs all.1)

-- ---- words

pub words_whole : (text : List ℕ) → position (λ b. b == 32) text ≡ None → line_words text ≡ text ∷ []
unfolding line_words
words_whole text none = whole_part (λ b. b == 32) text none

pub words_cut : (text : List ℕ) (at : ℕ) → position (λ b. b == 32) text ≡ Some at → line_words text ≡ take at text ∷ line_words (drop (at + 1) text)
unfolding line_words
words_cut text at found = part_at (λ b. b == 32) text at found

plain_no_space : (b : ℕ) → IsPlain b → (b == 32) ≡ false
plain_no_space b plain = grind (arith, nat_tests)

no_spaces : (w : List ℕ) → AllByRecursion IsPlain w → AllByRecursion (λ b. (b == 32) ≡ false) w
no_spaces w all = all_map IsPlain (λ b. (b == 32) ≡ false) plain_no_space w all

spaced_nil : spaced [] ≡ []
unfolding spaced
spaced_nil = refl

spaced_cons : (w : List ℕ) (ws : List (List ℕ)) → spaced (w ∷ ws) ≡ 32 ∷ (w ++ spaced ws)
unfolding spaced
spaced_cons w ws = refl

-- the words of a word and others behind it
pub words_led : (w : List ℕ) (ws : List (List ℕ)) → AllByRecursion IsPlain w → AllByRecursion (AllByRecursion IsPlain) ws → line_words (w ++ spaced ws) ≡ w ∷ ws
unfolding line_words
words_led w [] is all =
    ap (λ (xs : List ℕ). slice_split (λ b. b == 32) (w ++ xs)) spaced_nil ∙ ap (slice_split (λ b. b == 32)) (append-nil w) ∙ split_none (λ b. b == 32) w (no_spaces w is)
words_led w (v ∷ vs) is all =
    ap (λ (xs : List ℕ). slice_split (λ b. b == 32) (w ++ xs)) (spaced_cons v vs)
    ∙ split_first (λ b. b == 32) w 32 (v ++ spaced vs) (no_spaces w is) refl
    ∙ ap (λ (ws : List (List ℕ)). w ∷ ws) (words_led v vs all.0 all.1)

join_spaced : (w : List ℕ) (ws : List (List ℕ)) → join_with_byte 32 (w ∷ ws) ≡ w ++ spaced ws
join_spaced w [] = sym (append-nil w) ∙ ap (λ (xs : List ℕ). w ++ xs) (sym spaced_nil)
join_spaced w (v ∷ vs) = ap (λ (xs : List ℕ). w ++ 32 ∷ xs) (join_spaced v vs) ∙ ap (λ (xs : List ℕ). w ++ xs) (sym (spaced_cons v vs))

-- a line is its words with spaces between them
pub line_is : (line w : List ℕ) (ws : List (List ℕ)) → line_words line ≡ w ∷ ws → line ≡ w ++ spaced ws
unfolding line_words
line_is line w ws e = sym (join_with_byte-slice_split 32 line) ∙ ap (join_with_byte 32) e ∙ join_spaced w ws

-- a word behind the last one
more_extra : (w : List ℕ) (ps : List (List ℕ)) → 0 < length ps → last_word (w ∷ ps) ≡ Err faults.Extra
more_extra w [] h = absurd (omega (arith, h))
more_extra w (p ∷ ps) h = refl

pub word_extra : (text w rest : List ℕ) → line_words text ≡ w ∷ line_words rest → last_word (line_words text) ≡ Err faults.Extra
unfolding line_words
word_extra text w rest e = ap last_word e ∙ more_extra w (slice_split (λ b. b == 32) rest) (let n = length-slice_split (λ b. b == 32) rest in omega (arith, n))

reset_some : (ps : List (List ℕ)) → 0 < length ps → reset_said ps ≡ Err faults.Extra
reset_some [] h = absurd (omega (arith, h))
reset_some (p ∷ ps) h = refl

pub reset_extra : (rest : List ℕ) → reset_said (line_words rest) ≡ Err faults.Extra
unfolding line_words
reset_extra rest = reset_some (slice_split (λ b. b == 32) rest) (let n = length-slice_split (λ b. b == 32) rest in omega (arith, n))
