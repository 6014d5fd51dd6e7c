-- What `--allow` allows, and what of a log it doesn't.
use Rattle.std.proofs.Common.{Bor}
use Rattle.std.specs.Prelude.{ℕ, Bool, not, List, [], ◌∷◌, ◌++◌, codes, decimal, Option, Some, None, bytes_eq}
use Rattle.std.specs.List.{list_any}
use Rattle.packet_forms.specs.Names.{name_text}
use Rattle.packet_log.specs.Lines.{pipe_text}
use Rattle.events.specs.Events.{event_row}
use Rattle.events.specs.Tables.{event_table}
use Rattle.events.specs.declared.event.Event.{Event}
use Rattle.ground_tools.specs.Noted.{noted}
use Rattle.ground_tools.specs.declared.survey.Notable.{Notable}
use Rattle.ground_tools.specs.declared.survey.Notable.TheVariants as notables

-- two words with a blank between them
abbrev pub word_pair : List ℕ → List ℕ → List ℕ
word_pair first second = first ++ 32 ∷ second

-- a word with `any`, and with a name
abbrev pub any_or : List ℕ → List ℕ → List (List ℕ)
any_or word name = word_pair word (codes "any") ∷ word_pair word name ∷ []

-- the name of an event, where it has one
abbrev pub event_name_words : List ℕ → Option Event → List (List ℕ)
event_name_words application None = []
event_name_words application (Some e) = word_pair application e.name.now ∷ []

-- the words that allow an error: all of its application, its number, and its name
abbrev pub error_words : List ℕ → ℕ → List (List ℕ)
error_words application number =
    word_pair application (codes "any") ∷ word_pair application (decimal number)
    ∷ event_name_words application (event_row event_table application number 3)

-- the words that allow what came
abbrev pub words_for : Notable → List (List ℕ)
words_for (notables.Error name number) = error_words (name_text name) number
words_for (notables.Drop pipe full) = any_or (codes "drop") (pipe_text pipe)
words_for notables.Reset = codes "reset" ∷ []
words_for (notables.Restart name) = any_or (codes "restart") (name_text name)
words_for (notables.Delete name) = any_or (codes "delete") (name_text name)

-- whether a text is one of these
abbrev pub is_among : List (List ℕ) → List ℕ → Bool
is_among texts text = list_any (bytes_eq text) texts

-- whether one of the `--allow`s allows what came
unfoldable pub is_allowed : List (Bor (List ℕ)) → Notable → Bool
is_allowed allowed what = list_any (λ (words : Bor (List ℕ)). is_among (words_for what) words.now) allowed

-- whether one of these is unwanted: no `--allow` allows it
unfoldable pub is_unwanted : List (Bor (List ℕ)) → List Notable → Bool
is_unwanted allowed kinds = list_any (λ (what : Notable). not (is_allowed allowed what)) kinds

-- whether a log has an event of type 3, a drop or a request that is unwanted
abbrev pub has_unwanted : List (Bor (List ℕ)) → List ℕ → Bool
has_unwanted allowed log = is_unwanted allowed (noted log)
