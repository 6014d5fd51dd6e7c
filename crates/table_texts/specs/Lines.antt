-- The lines of a text that say something.
use Rattle.std.specs.Prelude.{ℕ, ◌+◌, ◌==◌, Bool, true, List, [], ◌∷◌, slice_index, if◌then◌else◌}
use Rattle.std.specs.List.{slice_split}
use Rattle.row_forms.specs.Words.{words}

-- a line by its number, counted from 1, and its words
pub record Numbered : Type 0 where
  pub number : ℕ
  pub words : List (List ℕ)

-- the parts of a text between LFs; the last one is empty where the last line has its LF
unfoldable pub lines_of : List ℕ → List (List ℕ)
lines_of text = slice_split (λ b. b == 10) text

-- a line without words says nothing, and neither does one whose first word begins with `#`
abbrev pub is_skipped : List (List ℕ) → Bool
is_skipped [] = true
is_skipped (w ∷ ws) = slice_index w 0 == 35

-- a line in front of others, unless it is skipped
abbrev pub unless_skipped : ℕ → List (List ℕ) → List Numbered → List Numbered
unless_skipped n ws more = if is_skipped ws then more else record { number = n; words = ws } ∷ more

-- the lines that aren't skipped, the first of all having number n
unfoldable pub kept : ℕ → List (List ℕ) → List Numbered
kept n [] = []
kept n (line ∷ more) = unless_skipped n (words line) (kept (n + 1) more)

-- the lines of a text that aren't skipped, its first line having number n
abbrev pub kept_of : ℕ → List ℕ → List Numbered
kept_of n text = kept n (lines_of text)
