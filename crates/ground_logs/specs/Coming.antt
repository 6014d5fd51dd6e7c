-- What is still to come of a log that is read line by line.
use Rattle.std.specs.Prelude.{◌≡◌, ℕ, Bool, true, false, ◌&&◌, List, [], ◌∷◌, ◌++◌, take, drop, Option, Some, None, Ok, Err}
use Rattle.std.specs.Io.KnownBytes.{prepend_known}
use Rattle.log_lines.specs.declared.fault.LogFault.{LogFault}
use Rattle.log_lines.specs.declared.line.LogLine.{LogLine}
use Rattle.log_lines.specs.Logs.{Said, log_said, cut_in, Stands as ReaderStands}
use Rattle.ground_logs.specs.Making.{good_lines, are_good}
use Rattle.ground_logs.specs.declared.good_lines.GoodLines.{GoodLines}
use Rattle.ground_logs.specs.declared.log_source.LogSource.{LogSource}
use Rattle.ground_logs.specs.declared.log_source.Next.{Next}
use Rattle.ground_logs.specs.declared.log_source.Next.TheVariants as nexts
use Rattle.ground_logs.specs.declared.log_source.Taken.{Taken}
use Rattle.ground_logs.specs.declared.log_source.Taken.TheVariants as takens

-- what is said of a line that is cut off, where there is one
abbrev pub end_said : Option LogFault → List Said
end_said None = []
end_said (Some fault) = Err fault.fault ∷ []

-- what all lines of a text say: those that end with an LF, and behind them one that is cut off
unfoldable pub all_said : List ℕ → List Said
all_said text = log_said text ++ end_said (cut_in text)

-- the bytes that are left of a log: of the piece that was read last, and behind that
abbrev pub bytes_left : {L : Type 0} → (L → Option (List ℕ)) → LogSource L → Option (List ℕ)
bytes_left remaining source = prepend_known (drop source.at (take source.count source.piece)) (remaining source.log)

-- A source has this left to say: of all that the lines say of the bytes that its reader was fed and of those that are left, what wasn't
-- said yet; and nothing once the end was said.
pub record IsToSay {L : Type 0} (remaining : L → Option (List ℕ)) (source : LogSource L) (said : List Said) : Type 0 where
  pub fed : List ℕ
  pub left : List ℕ
  pub reader : ReaderStands source.reader fed (log_said fed)
  pub rest : bytes_left remaining source ≡ Some left
  pub more : source.has_ended ≡ false → all_said (fed ++ left) ≡ log_said fed ++ said
  pub none : source.has_ended ≡ true → said ≡ []

-- A source said the first of what it had to say, and has the others left.
pub record SaysFirst {L : Type 0} (remaining : L → Option (List ℕ)) (new : LogSource L) (said : List Said) (first : Said) : Type 0 where
  pub others : List Said
  pub whole : said ≡ first ∷ others
  pub left : IsToSay remaining new others

-- A source has nothing left to say.
pub record SaysNothing {L : Type 0} (remaining : L → Option (List ℕ)) (new : LogSource L) (said : List Said) : Type 0 where
  pub none : said ≡ []
  pub left : IsToSay remaining new []

-- what a source gives of what it had to say
abbrev pub GivesNext : {L : Type 0} → (L → Option (List ℕ)) → LogSource L → List Said → Next → Type 0
GivesNext remaining new said (nexts.Line line) = SaysFirst remaining new said (Ok line)
GivesNext remaining new said (nexts.Fault fault) = SaysFirst remaining new said (Err fault.fault)
GivesNext remaining new said nexts.End = SaysNothing remaining new said

-- what a source took of its log, and has to say of it
abbrev pub TakesNext : {L : Type 0} → (L → Option (List ℕ)) → LogSource L → List Said → Taken → Type 0
TakesNext remaining new said takens.More = IsToSay remaining new said
TakesNext remaining new said takens.Line = SaysFirst remaining new said (Ok new.line)
TakesNext remaining new said (takens.Fault fault) = SaysFirst remaining new said (Err fault.fault)
TakesNext remaining new said takens.End = SaysNothing remaining new said

-- A log has these lines left that are a log's; and this is whether all of its lines are, those that came and those that are left.
pub record HasLines {L E : Type 0} (remaining : L → Option (List ℕ)) (log : GoodLines L E) (lines : List LogLine) (whole : Bool) : Type 0 where
  pub said : List Said
  pub source : IsToSay remaining log.source said
  pub good : lines ≡ good_lines said
  pub all : whole ≡ (log.is_whole && are_good said)

-- The first of a log's lines was given, and the others are left.
pub record GivesFirst {L E : Type 0} (remaining : L → Option (List ℕ)) (new : GoodLines L E) (lines : List LogLine) (whole : Bool) (first : LogLine) : Type 0 where
  pub others : List LogLine
  pub whole_list : lines ≡ first ∷ others
  pub left : HasLines remaining new others whole

-- A log has no line left, and it is known whether all of its lines are a log's.
pub record GivesNone {L E : Type 0} (new : GoodLines L E) (lines : List LogLine) (whole : Bool) : Type 0 where
  pub none : lines ≡ []
  pub all : new.is_whole ≡ whole

-- what a log gives of the lines that it had left
abbrev pub GivesLine : {L E : Type 0} → (L → Option (List ℕ)) → GoodLines L E → List LogLine → Bool → Option LogLine → Type 0
GivesLine remaining new lines whole (Some line) = GivesFirst remaining new lines whole line
GivesLine remaining new lines whole None = GivesNone new lines whole
