-- A log in words, in which something stands in front of its sentences.
use Rattle.std.specs.Prelude.{◌≡◌, ℕ, List, ◌++◌}
use Rattle.std.specs.List.{flat_map}
use Rattle.log_lines.specs.Logs.{log_said, Stands as ReaderStands}
use Rattle.ground_tools.specs.declared.log_teller.LogTeller.{LogTeller}
use Rattle.ground_tools.specs.Telling.{log_told, KeepsNames}

-- a sentence of the log, and what stands in front of it
pub record Placed : Type 0 where
  pub before : List ℕ
  pub sentence : List ℕ

-- the sentences alone
abbrev pub sentences_in : List Placed → List ℕ
sentences_in parts = flat_map (λ (p : Placed). p.sentence) parts

-- the sentences, each behind what stands in front of it
abbrev pub words_in : List Placed → List ℕ
words_in parts = flat_map (λ (p : Placed). p.before ++ p.sentence) parts

-- A teller read on in a text: the sentences of the lines that ended there were appended, in their order, each behind something.
pub record Weaves (old new : LogTeller) (text bytes out shown : List ℕ) : Type 0 where
  pub reader : ReaderStands new.reader (text ++ bytes) (log_said (text ++ bytes))
  pub names : KeepsNames old new
  pub parts : List Placed
  pub told : log_told old.vocabulary old.epoch (text ++ bytes) ≡ log_told old.vocabulary old.epoch text ++ sentences_in parts
  pub appended : shown ≡ out ++ words_in parts
