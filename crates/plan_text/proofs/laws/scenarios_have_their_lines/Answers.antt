use Rattle.std.proofs.Common.{◌≡◌, ℕ, List, [], ◌∷◌, refl, ◌∙◌}
use Rattle.std.specs.List.{AllByRecursion}
use Rattle.row_forms.specs.Words.{words}
use Rattle.scenario.specs.Words.{words as scenario_words}
use Rattle.plan_text.specs.Lines.{line_bytes}
use Rattle.plan_text.specs.Readings.{IsTextLine}
use Rattle.plan_text.proofs.WordLemmas.{line_words, whole_text}
use Rattle.plan_text.proofs.MadeLemmas.{made_lines}
use Rattle.plan_text.proofs.laws.scenarios_have_their_lines.Goals as goal

pub returns-clause-lines : goal.returns-clause-lines
returns-clause-lines c = λ cs text lines good e. whole_text lines (made_lines cs text lines good e)

same_words : (line : List ℕ) → scenario_words line ≡ words line
unfolding scenario_words words
same_words line = refl

all_words : (lines : List (List (List ℕ))) → AllByRecursion IsTextLine lines → AllByRecursion (λ line. scenario_words (line_bytes line) ≡ line) lines
all_words [] all = tt
all_words (line ∷ more) all = (same_words (line_bytes line) ∙ line_words line all.0, all_words more all.1)

pub returns-clause-words : goal.returns-clause-words
returns-clause-words c = λ cs text lines good e. all_words lines (made_lines cs text lines good e)
