-- Lemmas on the lines of a text.
use Rattle.std.proofs.Common.{◌≡◌, ◌==◌, ℕ, ◌+◌, ◌<◌, ◌≤◌, true, false, Bool, List, [], ◌∷◌, length, take, drop, Some, None, refl, ap, sym, ◌∙◌, arith}
use Rattle.std.specs.List.{position, position_or_len, onto_first}
use Rattle.std.proofs.lemmas.List.Splits.{slice_split_first, slice_split-cons_no}
use Rattle.std.proofs.lemmas.Bool.Decides.{nat_tests}
use Rattle.row_forms.specs.Words.{words}
use Rattle.row_forms.proofs.TextLemmas.{no_words}
use Rattle.row_forms.proofs.WordsLemmas.{position_is, position_none}
use Rattle.table_texts.specs.Lines.{lines_of, kept, kept_of, unless_skipped}

abbrev is_end : ℕ → Bool
is_end b = b == 10

none_one : (x : ℕ) (xs : List ℕ) (b : Bool) → is_end x ≡ b → (length xs ≤ position_or_len is_end xs → lines_of xs ≡ xs ∷ []) → length (x ∷ xs) ≤ position_or_len is_end (x ∷ xs) → lines_of (x ∷ xs) ≡ (x ∷ xs) ∷ []
unfolding lines_of
none_one x xs true e ih h = let k = rw e at h in absurd (omega (arith, k))
none_one x xs false e ih h =
    let k = rw e at h in
    slice_split-cons_no is_end x xs e ∙ ap (onto_first x) (ih (omega (arith, k)))

no_bytes : lines_of [] ≡ [] ∷ []
unfolding lines_of
no_bytes = refl

one_line : (xs : List ℕ) → length xs ≤ position_or_len is_end xs → lines_of xs ≡ xs ∷ []
one_line [] h = no_bytes
one_line (x ∷ xs) h = none_one x xs (is_end x) refl (one_line xs) h

first_line : (text : List ℕ) (at : ℕ) → position is_end text ≡ Some at → lines_of text ≡ take at text ∷ lines_of (drop (at + 1) text)
unfolding lines_of
first_line text at found =
    let here = position_is is_end text at found in
    slice_split_first is_end text 0 (let k : position_or_len is_end text < length text = omega (arith, here.0, here.1) in k)
    ∙ ap (λ (n : ℕ). take n text ∷ lines_of (drop (n + 1) text)) (sym here.0)

kept_nil : (n : ℕ) → kept n [] ≡ []
unfolding kept
kept_nil n = refl

pub kept_cons : (n : ℕ) (line : List ℕ) (more : List (List ℕ)) → kept n (line ∷ more) ≡ unless_skipped n (words line) (kept (n + 1) more)
unfolding kept
kept_cons n line more = refl

-- an empty text says nothing
pub nothing_kept : (n : ℕ) → kept_of n [] ≡ []
nothing_kept n = ap (kept n) no_bytes ∙ kept_cons n [] [] ∙ ap (λ (ws : List (List ℕ)). unless_skipped n ws (kept (n + 1) [])) no_words ∙ kept_nil (n + 1)

-- a first line with its LF
pub kept_at : (text : List ℕ) (at n : ℕ) → position is_end text ≡ Some at → kept_of n text ≡ unless_skipped n (words (take at text)) (kept_of (n + 1) (drop (at + 1) text))
kept_at text at n found = ap (kept n) (first_line text at found) ∙ kept_cons n (take at text) (lines_of (drop (at + 1) text))

-- a line without LF is all that there is
pub kept_alone : (text : List ℕ) (n : ℕ) → position is_end text ≡ None → kept_of n text ≡ unless_skipped n (words text) (kept_of (n + 1) [])
kept_alone text n none =
    ap (kept n) (one_line text (position_none is_end text none)) ∙ kept_cons n text []
    ∙ ap (unless_skipped n (words text)) (kept_nil (n + 1) ∙ sym (nothing_kept (n + 1)))

-- no bytes say nothing
pub nothing_left : (n : ℕ) (text : List ℕ) → (length text == 0) ≡ true → kept_of n text ≡ []
nothing_left n [] e = nothing_kept n
nothing_left n (b ∷ text) e = let h : length (b ∷ text) ≡ 0 = grind (arith, nat_tests) in absurd (omega (arith, h))
