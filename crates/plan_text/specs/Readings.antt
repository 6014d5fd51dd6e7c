-- How a scenario's reader reads the lines that are made.
use Rattle.std.specs.Prelude.{◌≡◌, ℕ, ◌+◌, ◌<◌, ◌==◌, false, List, [], ◌∷◌, length, slice_index}
use Rattle.std.specs.List.{AllByRecursion}
use Rattle.scenario.specs.Texts.{Line}
use Rattle.plan_text.specs.Lines.{line_bytes}

-- a whole line of a scenario, by its words
abbrev pub as_line : List (List ℕ) → Line
as_line line = record { bytes = line_bytes line; takes = length (line_bytes line) + 1 }

abbrev pub HasNo : ℕ → List ℕ → Type 0
HasNo c bytes = AllByRecursion (λ b. (b == c) ≡ false) bytes

-- a word of a text: it has a byte, and neither a space nor an LF
abbrev pub IsTextWord : List ℕ → Type 0
IsTextWord w = (0 < length w) × HasNo 32 w × HasNo 10 w

-- a line of such words that isn't skipped
abbrev pub IsTextLine : List (List ℕ) → Type 0
IsTextLine [] = ⊥
IsTextLine (w ∷ ws) = IsTextWord w × ((slice_index w 0 == 35) ≡ false) × AllByRecursion IsTextWord ws
