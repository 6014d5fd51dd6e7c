-- Lemmas on the words of texts, and on the lines that they make.
use Rattle.std.proofs.Common.{◌≡◌, ℕ, ◌+◌, ◌<◌, ◌==◌, Bool, true, false, List, [], ◌∷◌, ◌++◌, length, map, refl, ap, ◌∙◌, arith, append_assoc, append-nil}
use Rattle.std.specs.Prelude.{if◌then◌else◌, nat_lt, filter}
use Rattle.std.specs.List.{AllByRecursion, slice_split, onto_first}
use Rattle.std.proofs.lemmas.Bool.Decides.{nat_tests}
use Rattle.std.proofs.lemmas.List.Splits.{slice_split-cons_yes, slice_split-cons_no}
use Rattle.row_forms.specs.Words.{words, is_word}
use Rattle.row_forms.specs.Rows.{spaced}
use Rattle.row_forms.proofs.TextLemmas.{all_append, split_first, spaced_nil, spaced_cons}
use Rattle.table_texts.specs.Lines.{Numbered, lines_of, is_skipped, kept, kept_of, unless_skipped}
use Rattle.scenario.specs.Texts.{Line, whole_lines}
use Rattle.scenario.specs.Standing.{is_lf}
use Rattle.scenario.specs.LineLaws.{whole_first, parts_some}
use Rattle.plan_text.specs.Lines.{line_bytes, text_of}
use Rattle.plan_text.specs.Readings.{as_line, HasNo, IsTextWord, IsTextLine}
use Rattle.plan_text.proofs.WritingLemmas.{text_nil, text_cons}

-- ---- parts

onto_all : (Q : ℕ → Type 0) (x : ℕ) (parts : List (List ℕ)) → Q x → AllByRecursion (AllByRecursion Q) parts → AllByRecursion (AllByRecursion Q) (onto_first x parts)
onto_all Q x [] q all = ((q, tt), tt)
onto_all Q x (part ∷ parts) q all = ((q, all.0), all.1)

-- what holds of each byte that ends no part holds of the parts
parts_all : (Q : ℕ → Type 0) (p : ℕ → Bool) (xs : List ℕ) → AllByRecursion (λ x. p x ≡ false → Q x) xs → AllByRecursion (AllByRecursion Q) (slice_split p xs)
parts_all Q p [] all = (tt, tt)
parts_all Q p (x ∷ xs) all = by (p x) refl (parts_all Q p xs all.1) where
  by : (b : Bool) → p x ≡ b → AllByRecursion (AllByRecursion Q) (slice_split p xs) → AllByRecursion (AllByRecursion Q) (slice_split p (x ∷ xs))
  by true e more = rw (slice_split-cons_yes p x xs e) (tt, more)
  by false e more = rw (slice_split-cons_no p x xs e) (onto_all Q x (slice_split p xs) (all.0 e) more)

always : (P Q : ℕ → Type 0) (xs : List ℕ) → AllByRecursion Q xs → AllByRecursion (λ x. P x → Q x) xs
always P Q [] all = tt
always P Q (x ∷ xs) all = (λ p. all.0, always P Q xs all.1)

itself : (P : ℕ → Type 0) (xs : List ℕ) → AllByRecursion (λ x. P x → P x) xs
itself P [] = tt
itself P (x ∷ xs) = (λ p. p, itself P xs)

both : (P Q : List ℕ → Type 0) (xs : List (List ℕ)) → AllByRecursion P xs → AllByRecursion Q xs → AllByRecursion (λ x. P x × Q x) xs
both P Q [] ps qs = tt
both P Q (x ∷ xs) ps qs = ((ps.0, qs.0), both P Q xs ps.1 qs.1)

filled : (parts : List (List ℕ)) → AllByRecursion (λ w. HasNo 32 w × HasNo 10 w) parts → AllByRecursion IsTextWord (filter is_word parts)
filled [] all = tt
filled (w ∷ ws) all = by (is_word w) refl (filled ws all.1) where
  by : (b : Bool) → is_word w ≡ b → AllByRecursion IsTextWord (filter is_word ws) → AllByRecursion IsTextWord (if b then w ∷ filter is_word ws else filter is_word ws)
  by true e more = let some : 0 < length w = grind (arith, nat_tests, e) in ((some, all.0.0, all.0.1), more)
  by false e more = more

-- the words of a line without LF
words_are : (line : List ℕ) → HasNo 10 line → AllByRecursion IsTextWord (words line)
unfolding words
words_are line plain =
    filled (slice_split (λ b. b == 32) line) (both (HasNo 32) (HasNo 10) (slice_split (λ b. b == 32) line)
    (parts_all (λ b. (b == 32) ≡ false) (λ b. b == 32) line (itself (λ b. (b == 32) ≡ false) line))
    (parts_all (λ b. (b == 10) ≡ false) (λ b. b == 32) line (always (λ b. (b == 32) ≡ false) (λ b. (b == 10) ≡ false) line plain)))

-- a line that is kept has words
kept_line : (n : ℕ) (ws : List (List ℕ)) (more : List Numbered) → AllByRecursion IsTextWord ws → AllByRecursion (λ (l : Numbered). IsTextLine l.words) more → AllByRecursion (λ (l : Numbered). IsTextLine l.words) (unless_skipped n ws more)
kept_line n [] more all others = others
kept_line n (w ∷ ws) more all others = by (is_skipped (w ∷ ws)) refl where
  by : (b : Bool) → is_skipped (w ∷ ws) ≡ b → AllByRecursion (λ (l : Numbered). IsTextLine l.words) (if b then more else record { number = n; words = w ∷ ws } ∷ more)
  by true e = others
  by false e = ((all.0, e, all.1), others)

kept_lines : (n : ℕ) (parts : List (List ℕ)) → AllByRecursion (HasNo 10) parts → AllByRecursion (λ (l : Numbered). IsTextLine l.words) (kept n parts)
unfolding kept
kept_lines n [] all = tt
kept_lines n (part ∷ parts) all = kept_line n (words part) (kept (n + 1) parts) (words_are part all.0) (kept_lines (n + 1) parts all.1)

-- each line of a text that is kept is a line of words
pub text_lines : (n : ℕ) (text : List ℕ) → AllByRecursion (λ (l : Numbered). IsTextLine l.words) (kept_of n text)
unfolding lines_of
text_lines n text = kept_lines n (slice_split (λ b. b == 10) text) (parts_all (λ b. (b == 10) ≡ false) (λ b. b == 10) text (itself (λ b. (b == 10) ≡ false) text))

-- ---- the words of a line that is made

word_some : (w : List ℕ) (ws : List (List ℕ)) → 0 < length w → filter is_word (w ∷ ws) ≡ w ∷ filter is_word ws
word_some w ws some = let t : nat_lt 0 (length w) ≡ true = grind (arith, nat_tests) in rw t refl

led : (w rest : List ℕ) → IsTextWord w → words (w ++ 32 ∷ rest) ≡ w ∷ words rest
unfolding words
led w rest is = ap (filter is_word) (split_first (λ b. b == 32) w 32 rest is.1 refl) ∙ word_some w (slice_split (λ b. b == 32) rest) is.0

alone : (w : List ℕ) → IsTextWord w → words w ≡ w ∷ []
unfolding words
alone w is = ap (filter is_word) (none_splits w is.1) ∙ word_some w [] is.0 where
  none_splits : (xs : List ℕ) → HasNo 32 xs → slice_split (λ b. b == 32) xs ≡ xs ∷ []
  none_splits [] all = refl
  none_splits (x ∷ xs) all = slice_split-cons_no (λ b. b == 32) x xs all.0 ∙ ap (onto_first x) (none_splits xs all.1)

words_back : (w : List ℕ) (ws : List (List ℕ)) → IsTextWord w → AllByRecursion IsTextWord ws → words (w ++ spaced ws) ≡ w ∷ ws
words_back w [] is all = ap (λ (xs : List ℕ). words (w ++ xs)) spaced_nil ∙ ap words (append-nil w) ∙ alone w is
words_back w (v ∷ vs) is all =
    ap (λ (xs : List ℕ). words (w ++ xs)) (spaced_cons v vs) ∙ led w (v ++ spaced vs) is ∙ ap (λ (ws : List (List ℕ)). w ∷ ws) (words_back v vs all.0 all.1)

-- a line has its words
pub line_words : (line : List (List ℕ)) → IsTextLine line → words (line_bytes line) ≡ line
line_words [] is = absurd is
line_words (w ∷ ws) is = words_back w ws is.0 is.2

spaced_plain : (ws : List (List ℕ)) → AllByRecursion IsTextWord ws → HasNo 10 (spaced ws)
unfolding spaced
spaced_plain [] all = tt
spaced_plain (w ∷ ws) all = (refl, all_append (λ b. (b == 10) ≡ false) w (spaced ws) all.0.2 (spaced_plain ws all.1))

line_plain : (line : List (List ℕ)) → IsTextLine line → HasNo 10 (line_bytes line)
line_plain [] is = absurd is
line_plain (w ∷ ws) is = all_append (λ b. (b == 10) ≡ false) w (spaced ws) is.0.2 (spaced_plain ws is.2)

-- ---- the lines of a text that is made

first_cut : (line : List (List ℕ)) (more : List (List (List ℕ))) → IsTextLine line → slice_split is_lf (text_of (line ∷ more)) ≡ line_bytes line ∷ slice_split is_lf (text_of more)
first_cut line more is =
    ap (slice_split is_lf) (text_cons line more ∙ append_assoc (line_bytes line) (10 ∷ []) (text_of more))
    ∙ split_first is_lf (line_bytes line) 10 (text_of more) (line_plain line is) refl

-- a text that is made has its lines
pub whole_text : (lines : List (List (List ℕ))) → AllByRecursion IsTextLine lines → whole_lines true (slice_split is_lf (text_of lines)) ≡ map as_line lines
whole_text [] all = ap (λ (t : List ℕ). whole_lines true (slice_split is_lf t)) text_nil
whole_text (line ∷ more) all =
    ap (whole_lines true) (first_cut line more all.0)
    ∙ whole_first true (line_bytes line) (slice_split is_lf (text_of more)) (parts_some (text_of more))
    ∙ ap (λ (ls : List Line). as_line line ∷ ls) (whole_text more all.1)
