-- A log in sentences.
use Rattle.std.specs.Prelude.{◌≡◌, ℕ, List, [], ◌∷◌, ◌++◌, Option}
use Rattle.log_lines.specs.declared.line.LogLine.{LogLine}
use Rattle.log_words.specs.Sentences.{sentence_of}
use Rattle.log_words.specs.Worked.{own_words}

-- the sentence of a line in the names of the bench's applications, with its LF
abbrev pub IsSentence : Option ℕ → LogLine → List ℕ → Type 0
IsSentence epoch line made = made ≡ sentence_of own_words epoch line ++ 10 ∷ []
