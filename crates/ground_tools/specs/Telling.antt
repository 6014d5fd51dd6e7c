-- A log in words.
use Rattle.std.specs.Prelude.{◌≡◌, ℕ, List, [], ◌∷◌, ◌++◌, Option, Ok, Err}
use Rattle.std.specs.List.{flat_map}
use Rattle.log_lines.specs.Logs.{Said, log_said, Stands as ReaderStands}
use Rattle.log_words.specs.declared.vocabulary.Vocabulary.{Vocabulary}
use Rattle.log_words.specs.Sentences.{sentence_of}
use Rattle.ground_tools.specs.declared.log_teller.LogTeller.{LogTeller}

-- the sentence of a line, with its LF; a line that is none of the log's has no sentence
abbrev pub said_told : Vocabulary → Option ℕ → Said → List ℕ
said_told v epoch (Ok line) = sentence_of v epoch line ++ 10 ∷ []
said_told v epoch (Err fault) = []

-- a log in words: the sentences of its lines that ended, in their order
unfoldable pub log_told : Vocabulary → Option ℕ → List ℕ → List ℕ
log_told v epoch text = flat_map (said_told v epoch) (log_said text)

-- A teller stands for the text that came, whose lines were told behind `front`.
pub record Stands (t : LogTeller) (front text out : List ℕ) : Type 0 where
  pub reader : ReaderStands t.reader text (log_said text)
  pub told : out ≡ front ++ log_told t.vocabulary t.epoch text

-- a teller goes on in the same names, from the same epoch
pub record KeepsNames (old new : LogTeller) : Type 0 where
  pub vocabulary : new.vocabulary ≡ old.vocabulary
  pub epoch : new.epoch ≡ old.epoch

-- A teller read on in a text: the sentences of the lines that ended there were appended.
pub record TellsOn (old new : LogTeller) (text bytes out shown : List ℕ) : Type 0 where
  pub reader : ReaderStands new.reader (text ++ bytes) (log_said (text ++ bytes))
  pub names : KeepsNames old new
  pub more : List ℕ
  pub told : log_told old.vocabulary old.epoch (text ++ bytes) ≡ log_told old.vocabulary old.epoch text ++ more
  pub appended : shown ≡ out ++ more
