-- What a log is made into, line by line.
use Rattle.std.specs.Prelude.{◌≡◌, ℕ, Bool, true, false, ◌&&◌, List, [], ◌∷◌, ◌++◌, Option, Some, None, Ok, Err}
use Rattle.std.specs.List.{AllZip, concat}
use Rattle.std.specs.Io.KnownBytes.{Appends}
use Rattle.log_lines.specs.declared.line.LogLine.{LogLine}
use Rattle.log_lines.specs.Logs.{Said, log_said, cut_in, Stands as ReaderStands}
use Rattle.log_lines.specs.declared.fault.LogFault.{LogFault}
use Rattle.ground_logs.specs.declared.log_maker.LogMaker.{LogMaker}

-- the lines that are a log's, in their order
abbrev pub good_lines : List Said → List LogLine
good_lines [] = []
good_lines (Ok line ∷ more) = line ∷ good_lines more
good_lines (Err fault ∷ more) = good_lines more

-- the lines of a text that ended and are a log's, in their order
unfoldable pub lines_of : List ℕ → List LogLine
lines_of text = good_lines (log_said text)

abbrev pub are_good : List Said → Bool
are_good [] = true
are_good (Ok line ∷ more) = are_good more
are_good (Err fault ∷ more) = false

abbrev pub is_whole_end : Option LogFault → Bool
is_whole_end None = true
is_whole_end (Some fault) = false

-- whether all lines of a text are a log's, and none is cut off
unfoldable pub is_log : List ℕ → Bool
is_log text = are_good (log_said text) && is_whole_end (cut_in text)

-- These bytes were made of the lines: a part of each, in their order, and nothing else.
pub record AreMade (makes : LogLine → List ℕ → Type 0) (lines : List LogLine) (bytes : List ℕ) : Type 0 where
  pub parts : List (List ℕ)
  pub each : AllZip makes lines parts
  pub whole : bytes ≡ concat parts

-- A maker stands for the text that came, of whose lines these bytes were made.
pub record Stands {M : Type 0} (makes : M → LogLine → List ℕ → Type 0) (m : LogMaker M) (text bytes : List ℕ) : Type 0 where
  pub reader : ReaderStands m.reader text (log_said text)
  pub made : AreMade (makes m.maker) (lines_of text) bytes
  pub whole : m.is_whole ≡ are_good (log_said text)

-- A maker takes more of its text, and more is made.
pub record Takes {M : Type 0} (makes : M → LogLine → List ℕ → Type 0) (old new : LogMaker M) (taken more : List ℕ) : Type 0 where
  pub stands : (text bytes : List ℕ) → Stands makes old text bytes → Stands makes new (text ++ taken) (bytes ++ more)
  pub maker : new.maker ≡ old.maker

-- what is appended where a maker takes more of its text
pub record Appended {M : Type 0} (makes : M → LogLine → List ℕ → Type 0) (old new : LogMaker M) (taken before after : List ℕ) : Type 0 where
  pub more : List ℕ
  pub whole : after ≡ before ++ more
  pub takes : Takes makes old new taken more

-- A maker stands for a text, with what was made of its lines written behind what was there before.
pub record IsWritten {M : Type 0} (makes : M → LogLine → List ℕ → Type 0) (m : LogMaker M) (text : List ℕ) (before after : Option (List ℕ)) : Type 0 where
  pub bytes : List ℕ
  pub stands : Stands makes m text bytes
  pub written : Appends before after bytes

-- what is written where a maker takes more of its text
pub record Writes {M : Type 0} (makes : M → LogLine → List ℕ → Type 0) (old new : LogMaker M) (taken : List ℕ) (before after : Option (List ℕ)) : Type 0 where
  pub more : List ℕ
  pub takes : Takes makes old new taken more
  pub written : Appends before after more

-- What was written of a whole text is what was made of its lines, and it was said whether all of them are a log's.
pub record IsMadeOf (makes : LogLine → List ℕ → Type 0) (text : List ℕ) (said : Bool) (before after : Option (List ℕ)) : Type 0 where
  pub bytes : List ℕ
  pub made : AreMade makes (lines_of text) bytes
  pub written : Appends before after bytes
  pub whole : said ≡ is_log text
