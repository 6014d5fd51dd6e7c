-- The lines of a scenario that is made, by their words.
use Rattle.std.specs.Prelude.{ℕ, List, [], ◌∷◌, ◌++◌, codes}
use Rattle.packet_forms.specs.Hex.{hex}
use Rattle.row_forms.specs.Rows.{spaced}

-- a line, by its words: with a space between two of them
abbrev pub line_bytes : List (List ℕ) → List ℕ
line_bytes [] = []
line_bytes (w ∷ ws) = w ++ spaced ws

-- the text of a line
abbrev pub line_text : List (List ℕ) → List ℕ
line_text line = line_bytes line ++ 10 ∷ []

-- the text of lines
unfoldable pub text_of : List (List (List ℕ)) → List ℕ
text_of [] = []
text_of (line ∷ more) = line_text line ++ text_of more

-- the line that ends a frame
abbrev pub tick : List (List ℕ)
tick = codes "tick" ∷ []

-- the line that ends a scenario
abbrev pub end : List (List ℕ)
end = codes "end" ∷ []

-- the line that sends a packet
abbrev pub sent_line : List ℕ → List (List ℕ)
sent_line packet = codes "send" ∷ hex packet ∷ []
