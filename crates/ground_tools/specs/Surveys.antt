-- When a survey stands for a log.
use Rattle.std.specs.Prelude.{◌≡◌, Bool, ℕ, List, ◌++◌, map}
use Rattle.std.specs.List.{list_any}
use Rattle.log_lines.specs.Logs.{log_said, Stands as ReaderStands}
use Rattle.ground_tools.specs.declared.survey.Notable.{Notable}
use Rattle.ground_tools.specs.declared.survey.NotableCount.{NotableCount}
use Rattle.ground_tools.specs.declared.survey.Survey.{Survey}
use Rattle.ground_tools.specs.Noted.{noted}

-- what is counted
abbrev pub notables_in : List NotableCount → List Notable
notables_in counts = map (λ (c : NotableCount). c.what) counts

-- two lists have the same in them, in whatever order and however often
abbrev pub AreAlike : List Notable → List Notable → Type 0
AreAlike xs ys = (test : Notable → Bool) → list_any test xs ≡ list_any test ys

-- what a survey counted is what a log's lines tell
abbrev pub Counts : Survey → List ℕ → Type 0
Counts s log = AreAlike (notables_in s.notables.items) (noted log)

-- A survey stands for the log that it took.
pub record Surveys (s : Survey) (log : List ℕ) : Type 0 where
  pub reader : ReaderStands s.reader log (log_said log)
  pub counts : Counts s log

-- a survey counted these as well
pub record Notes (old new : Survey) (more : List Notable) : Type 0 where
  pub reader : new.reader ≡ old.reader
  pub notables : AreAlike (notables_in new.notables.items) (notables_in old.notables.items ++ more)
