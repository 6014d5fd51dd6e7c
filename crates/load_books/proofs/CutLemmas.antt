-- Lemmas on texts that are cut.
use Rattle.std.proofs.Common.{◌≡◌, ◌==◌, ℕ, suc, ◌+◌, ◌<◌, ◌≤◌, true, false, Bool, List, [], ◌∷◌, ◌++◌, length, take, drop, Some, None, refl, ap, sym, ◌∙◌, append_assoc, arith}
use Rattle.std.specs.Prelude.{codes}
use Rattle.std.specs.List.{position, position_or_len}
use Rattle.std.proofs.lemmas.List.{append-nil, take_all, drop-drop}
use Rattle.std.proofs.lemmas.Bool.Decides.{nat_tests}
use Rattle.std.proofs.Math.Seq.{take-add, drop-length}
use Rattle.row_forms.specs.Words.{words}
use Rattle.row_forms.proofs.WordsLemmas.{position_is, position_none}
use Rattle.load_books.specs.Cuts.{onto_line, whole_lines, bare, words_in, begins, part_of, Cut, put_line, cut, cut_of, with_front}

abbrev is_end : ℕ → Bool
is_end b = b == 10

-- ---- lines

line_one : (b : ℕ) (more : List ℕ) (t : Bool) → is_end b ≡ t → (position_or_len is_end more < length more → whole_lines more ≡ take (position_or_len is_end more + 1) more ∷ whole_lines (drop (position_or_len is_end more + 1) more)) → position_or_len is_end (b ∷ more) < length (b ∷ more) → whole_lines (b ∷ more) ≡ take (position_or_len is_end (b ∷ more) + 1) (b ∷ more) ∷ whole_lines (drop (position_or_len is_end (b ∷ more) + 1) (b ∷ more))
unfolding whole_lines
line_one b more true e ih h = rw e refl
line_one b more false e ih h =
    let k = rw e at h in
    let same : (1 + position_or_len is_end more) + 1 ≡ suc (position_or_len is_end more + 1) = omega arith in
    rw e (rw same (ap (onto_line b) (ih (omega (arith, k)))))

line_at : (text : List ℕ) → position_or_len is_end text < length text → whole_lines text ≡ take (position_or_len is_end text + 1) text ∷ whole_lines (drop (position_or_len is_end text + 1) text)
line_at [] h = absurd (omega (arith, h))
line_at (b ∷ more) h = line_one b more (is_end b) refl (line_at more) h

last_one : (b : ℕ) (more : List ℕ) (t : Bool) → is_end b ≡ t → (length more ≤ position_or_len is_end more → 0 < length more → whole_lines more ≡ more ∷ []) → length (b ∷ more) ≤ position_or_len is_end (b ∷ more) → whole_lines (b ∷ more) ≡ (b ∷ more) ∷ []
unfolding whole_lines
last_one b more true e ih h = let k = rw e at h in absurd (omega (arith, k))
last_one b [] false e ih h = rw e refl
last_one b (c ∷ more) false e ih h = let k = rw e at h in rw e (ap (onto_line b) (ih (omega (arith, k)) (omega arith)))

last_line : (text : List ℕ) → length text ≤ position_or_len is_end text → 0 < length text → whole_lines text ≡ text ∷ []
last_line [] h some = absurd (omega (arith, some))
last_line (b ∷ more) h some = last_one b more (is_end b) refl (last_line more) h

bare_one : (b : ℕ) (more : List ℕ) (t : Bool) → is_end b ≡ t → bare (take (position_or_len is_end more + 1) more) ≡ take (position_or_len is_end more) more → bare (take (position_or_len is_end (b ∷ more) + 1) (b ∷ more)) ≡ take (position_or_len is_end (b ∷ more)) (b ∷ more)
unfolding bare
bare_one b more true e ih = rw e (rw e refl)
bare_one b more false e ih =
    let same : (1 + position_or_len is_end more) + 1 ≡ suc (position_or_len is_end more + 1) = omega arith in
    let again : 1 + position_or_len is_end more ≡ suc (position_or_len is_end more) = omega arith in
    rw e (rw same (rw e (rw again (ap (λ (bs : List ℕ). b ∷ bs) ih))))

no_bytes : bare [] ≡ []
unfolding bare
no_bytes = refl

pub no_lines : whole_lines [] ≡ []
unfolding whole_lines
no_lines = refl

bare_at : (text : List ℕ) → bare (take (position_or_len is_end text + 1) text) ≡ take (position_or_len is_end text) text
bare_at [] = no_bytes
bare_at (b ∷ more) = bare_one b more (is_end b) refl (bare_at more)

last_bare : (b : ℕ) (more : List ℕ) (t : Bool) → is_end b ≡ t → (length more ≤ position_or_len is_end more → bare more ≡ more) → length (b ∷ more) ≤ position_or_len is_end (b ∷ more) → bare (b ∷ more) ≡ b ∷ more
unfolding bare
last_bare b more true e ih h = let k = rw e at h in absurd (omega (arith, k))
last_bare b more false e ih h = let k = rw e at h in rw e (ap (λ (bs : List ℕ). b ∷ bs) (ih (omega (arith, k))))

bare_last : (text : List ℕ) → length text ≤ position_or_len is_end text → bare text ≡ text
bare_last [] h = no_bytes
bare_last (b ∷ more) h = last_bare b more (is_end b) refl (bare_last more) h

-- a first line with its LF
pub line_found : (text : List ℕ) (at : ℕ) → position is_end text ≡ Some at → whole_lines text ≡ take (at + 1) text ∷ whole_lines (drop (at + 1) text)
line_found text at found = let here = position_is is_end text at found in rw here.0 (line_at text (let k : position_or_len is_end text < length text = omega (arith, here.0, here.1) in k))

pub bare_found : (text : List ℕ) (at : ℕ) → position is_end text ≡ Some at → bare (take (at + 1) text) ≡ take at text
bare_found text at found = let here = position_is is_end text at found in rw here.0 (bare_at text)

-- a line without LF is all that there is
pub line_alone : (text : List ℕ) → position is_end text ≡ None → 0 < length text → whole_lines text ≡ take (length text) text ∷ whole_lines (drop (length text) text)
line_alone text none some =
    last_line text (position_none is_end text none) some
    ∙ ap (λ (ls : List (List ℕ)). text ∷ ls) (sym (ap whole_lines (drop-length text) ∙ no_lines))
    ∙ ap (λ (l : List ℕ). l ∷ whole_lines (drop (length text) text)) (sym (take_all (length text) text (omega arith)))

pub bare_alone : (text : List ℕ) → position is_end text ≡ None → bare (take (length text) text) ≡ text
bare_alone text none = ap bare (take_all (length text) text (omega arith)) ∙ bare_last text (position_none is_end text none)

-- ---- cuts

cut_nil : (n : ℕ) → cut n [] ≡ record { front = []; parts = [] }
unfolding cut
cut_nil n = refl

cut_cons : (n : ℕ) (line : List ℕ) (more : List (List ℕ)) → cut n (line ∷ more) ≡ put_line n line (words_in line) (cut (n + 1) more)
unfolding cut
cut_cons n line more = refl

-- a text, by its first line
cut_first : (n k : ℕ) (text bytes rest : List ℕ) → whole_lines text ≡ take k text ∷ whole_lines rest → bare (take k text) ≡ bytes → cut_of n text ≡ put_line n (take k text) (words bytes) (cut_of (n + 1) rest)
cut_first n k text bytes rest line is = ap (cut n) line ∙ cut_cons n (take k text) (whole_lines rest) ∙ ap (λ (l : List ℕ). put_line n (take k text) (words l) (cut_of (n + 1) rest)) is

put_other : (n : ℕ) (line : List ℕ) (ws : List (List ℕ)) (c : Cut) → begins (codes "part") ws ≡ false → put_line n line ws c ≡ with_front line c
put_other n line ws c other = rw other refl

put_title : (n : ℕ) (line : List ℕ) (ws title : List (List ℕ)) (c : Cut) → ws ≡ codes "part" ∷ title → put_line n line ws c ≡ record { front = []; parts = part_of n title c.front ∷ c.parts }
put_title n line ws title c e = rw e refl

fronts_join : (a b : List ℕ) (c : Cut) → with_front a (with_front b c) ≡ with_front (a ++ b) c
fronts_join a b c = ap (λ (f : List ℕ). record { front = f; parts = c.parts }) (sym (append_assoc a b c.front))

-- ---- the lines in front of a part

-- one line more stands in front
pub line_passed : (n m k j : ℕ) (text left bytes rest : List ℕ) → cut_of n text ≡ with_front (take k text) (cut_of m left) → left ≡ drop k text → whole_lines left ≡ take j left ∷ whole_lines rest → bare (take j left) ≡ bytes → begins (codes "part") (words bytes) ≡ false → cut_of n text ≡ with_front (take (k + j) text) (cut_of (m + 1) rest)
line_passed n m k j text left bytes rest so_far here line is other =
    so_far
    ∙ ap (with_front (take k text)) (cut_first m j left bytes rest line is ∙ put_other m (take j left) (words bytes) (cut_of (m + 1) rest) other)
    ∙ fronts_join (take k text) (take j left) (cut_of (m + 1) rest)
    ∙ ap (λ (l : List ℕ). with_front (take k text ++ take j l) (cut_of (m + 1) rest)) here
    ∙ ap (λ (f : List ℕ). with_front f (cut_of (m + 1) rest)) (sym (take-add k j text))

-- a part begins
part_found : (n m k j : ℕ) (text left bytes rest title : List ℕ) → cut_of n text ≡ with_front (take k text) (cut_of m left) → whole_lines left ≡ take j left ∷ whole_lines rest → bare (take j left) ≡ bytes → words bytes ≡ codes "part" ∷ words title → cut_of n text ≡ record { front = take k text; parts = part_of m (words title) (cut_of (m + 1) rest).front ∷ (cut_of (m + 1) rest).parts }
part_found n m k j text left bytes rest title so_far line is part =
    so_far
    ∙ ap (with_front (take k text)) (cut_first m j left bytes rest line is ∙ put_title m (take j left) (words bytes) (words title) (cut_of (m + 1) rest) part)
    ∙ ap (λ (f : List ℕ). record { front = f; parts = part_of m (words title) (cut_of (m + 1) rest).front ∷ (cut_of (m + 1) rest).parts }) (append-nil (take k text))

pub front_found : (n m k j : ℕ) (text left bytes rest title : List ℕ) → cut_of n text ≡ with_front (take k text) (cut_of m left) → whole_lines left ≡ take j left ∷ whole_lines rest → bare (take j left) ≡ bytes → words bytes ≡ codes "part" ∷ words title → (cut_of n text).front ≡ take k text
front_found n m k j text left bytes rest title so_far line is part = ap (λ (c : Cut). c.front) (part_found n m k j text left bytes rest title so_far line is part)

pub parts_found : (n m k j : ℕ) (text left bytes rest title : List ℕ) → cut_of n text ≡ with_front (take k text) (cut_of m left) → whole_lines left ≡ take j left ∷ whole_lines rest → bare (take j left) ≡ bytes → words bytes ≡ codes "part" ∷ words title → (cut_of n text).parts ≡ part_of m (words title) (cut_of (m + 1) rest).front ∷ (cut_of (m + 1) rest).parts
parts_found n m k j text left bytes rest title so_far line is part = ap (λ (c : Cut). c.parts) (part_found n m k j text left bytes rest title so_far line is part)

-- no line has come
pub cut_begins : (n : ℕ) (text : List ℕ) → cut_of n text ≡ with_front (take 0 text) (cut_of n text)
cut_begins n text = refl

pub empty : (left : List ℕ) → (length left == 0) ≡ true → left ≡ []
empty [] e = refl
empty (b ∷ more) e = let h : length (b ∷ more) ≡ 0 = grind (arith, nat_tests) in absurd (omega (arith, h))

-- no part begins
all_cut : (n m k : ℕ) (text left : List ℕ) → cut_of n text ≡ with_front (take k text) (cut_of m left) → (length left == 0) ≡ true → k + length left ≡ length text → cut_of n text ≡ record { front = text; parts = [] }
all_cut n m k text left so_far none size =
    let is = empty left none in
    let long : length text ≤ k = (let z : length left ≡ 0 = ap length is in omega (arith, size, z)) in
    so_far
    ∙ ap (λ (l : List ℕ). with_front (take k text) (cut_of m l)) is
    ∙ ap (λ (ls : List (List ℕ)). with_front (take k text) (cut m ls)) no_lines
    ∙ ap (with_front (take k text)) (cut_nil m)
    ∙ ap (λ (f : List ℕ). record { front = f; parts = [] }) (append-nil (take k text) ∙ take_all k text long)

pub all_front : (n m k : ℕ) (text left : List ℕ) → cut_of n text ≡ with_front (take k text) (cut_of m left) → (length left == 0) ≡ true → k + length left ≡ length text → (cut_of n text).front ≡ text
all_front n m k text left so_far none size = ap (λ (c : Cut). c.front) (all_cut n m k text left so_far none size)

pub no_parts : (n m k : ℕ) (text left : List ℕ) → cut_of n text ≡ with_front (take k text) (cut_of m left) → (length left == 0) ≡ true → k + length left ≡ length text → (cut_of n text).parts ≡ []
no_parts n m k text left so_far none size = ap (λ (c : Cut). c.parts) (all_cut n m k text left so_far none size)

-- what stands behind bytes that stand behind others
pub behind_both : (k j : ℕ) (text left : List ℕ) → left ≡ drop k text → drop j left ≡ drop (k + j) text
behind_both k j text left here = ap (drop j) here ∙ drop-drop j k text
