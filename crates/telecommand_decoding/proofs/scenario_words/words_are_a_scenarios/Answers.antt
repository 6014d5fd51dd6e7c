use Rattle.std.proofs.Common.{◌≡◌, ℕ, List, [], ◌∷◌, refl}
use Rattle.row_forms.specs.Words.{words, digits, number, hex_said, name_said}
use Rattle.scenario.specs.Words.{words as scenario_words, digits as scenario_digits, number as scenario_number, hex as scenario_hex, name_said as scenario_name}
use Rattle.telecommand_decoding.proofs.scenario_words.words_are_a_scenarios.Goals as goal

hex_same : (word : List ℕ) → hex_said word ≡ scenario_hex word
unfolding hex_said scenario_hex
hex_same [] = refl
hex_same (c ∷ []) = refl
hex_same (c ∷ d ∷ more) = rw (hex_same more) refl

pub returns-clause-words : goal.returns-clause-words
unfolding words scenario_words
returns-clause-words c = λ line. refl

pub returns-clause-numbers : goal.returns-clause-numbers
unfolding number digits scenario_number scenario_digits
returns-clause-numbers c = λ most word. refl

pub returns-clause-bytes : goal.returns-clause-bytes
returns-clause-bytes c = hex_same

pub returns-clause-names : goal.returns-clause-names
unfolding name_said scenario_name
returns-clause-names c = λ word. refl
