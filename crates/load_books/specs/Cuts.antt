-- A book's text, cut in front of the lines that begin its parts.
use Rattle.std.specs.Prelude.{ℕ, ◌+◌, ◌==◌, Bool, false, if◌then◌else◌, List, [], ◌∷◌, ◌++◌, codes, Option, Some, None}
use Rattle.std.specs.Str.{bytes_eq}
use Rattle.row_forms.specs.Words.{words}
use Rattle.load_books.specs.declared.cuts.PartLine.{PartLine}

-- a byte in front of the first of lines
abbrev pub onto_line : ℕ → List (List ℕ) → List (List ℕ)
onto_line b [] = (b ∷ []) ∷ []
onto_line b (line ∷ more) = (b ∷ line) ∷ more

-- the lines of a text, each with the LF that ends it, which the last one may lack
unfoldable pub whole_lines : List ℕ → List (List ℕ)
whole_lines [] = []
whole_lines (b ∷ more) = if b == 10 then (b ∷ []) ∷ whole_lines more else onto_line b (whole_lines more)

-- the bytes of a line in front of its LF
unfoldable pub bare : List ℕ → List ℕ
bare [] = []
bare (b ∷ more) = if b == 10 then [] else b ∷ bare more

abbrev pub words_in : List ℕ → List (List ℕ)
words_in line = words (bare line)

-- a part of a book: the number of the line that begins it, the words behind `part`, and the lines up to the next part
pub record Part : Type 0 where
  pub number : ℕ
  pub title : List (List ℕ)
  pub text : List ℕ

-- a text's lines in front of its first part, and its parts
pub record Cut : Type 0 where
  pub front : List ℕ
  pub parts : List Part

abbrev pub part_of : ℕ → List (List ℕ) → List ℕ → Part
part_of n title text = record { number = n; title = title; text = text }

-- whether a line begins with a word
abbrev pub begins : List ℕ → List (List ℕ) → Bool
begins wanted [] = false
begins wanted (w ∷ ws) = bytes_eq w wanted

-- the words behind the first one
abbrev pub behind_first : List (List ℕ) → List (List ℕ)
behind_first [] = []
behind_first (w ∷ ws) = ws

-- line n, of these words, in front of a text that is cut
abbrev pub put_line : ℕ → List ℕ → List (List ℕ) → Cut → Cut
put_line n line ws c =
    if begins (codes "part") ws then record { front = []; parts = part_of n (behind_first ws) c.front ∷ c.parts }
    else record { front = line ++ c.front; parts = c.parts }

-- lines, of which the first has number n
unfoldable pub cut : ℕ → List (List ℕ) → Cut
cut n [] = record { front = []; parts = [] }
cut n (line ∷ more) = put_line n line (words_in line) (cut (n + 1) more)

-- a text whose first line has number n
abbrev pub cut_of : ℕ → List ℕ → Cut
cut_of n text = cut n (whole_lines text)

-- ---- what the code gives

-- the parts from the one on that a line begins
abbrev pub parts_from : Option PartLine → List Part
parts_from None = []
parts_from (Some p) = let c = cut_of (p.number + 1) p.rest.now in part_of p.number (words p.title.now) c.front ∷ c.parts

-- bytes in front of a text that is cut
abbrev pub with_front : List ℕ → Cut → Cut
with_front front c = record { front = front ++ c.front; parts = c.parts }
