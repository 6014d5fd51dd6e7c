-- How what an operator looks at first is told.
use Rattle.std.proofs.Common.{Bor}
use Rattle.std.specs.Prelude.{ℕ, Bool, true, false, if◌then◌else◌, List, [], ◌∷◌, ◌++◌, codes, decimal}
use Rattle.std.specs.List.{flat_map}
use Rattle.packet_forms.specs.Names.{name_text}
use Rattle.packet_log.specs.Lines.{pipe_text}
use Rattle.events.specs.Events.{event_said}
use Rattle.events.specs.Tables.{event_table}
use Rattle.ground_tools.specs.declared.survey.Notable.{Notable}
use Rattle.ground_tools.specs.declared.survey.Notable.TheVariants as notables
use Rattle.ground_tools.specs.declared.survey.NotableCount.{NotableCount}
use Rattle.ground_summaries.specs.Counts.{things_said}
use Rattle.ground_summaries.specs.Allowed.{word_pair, is_allowed}

abbrev pub drop_said : Bool → List ℕ
drop_said true = codes " was full and dropped a packet"
drop_said false = codes " dropped a packet for its id's limit"

-- an event of type 3, and its number
unfoldable pub error_said : List ℕ → ℕ → List ℕ
error_said application number = event_said event_table application number 3 ++ codes " (event " ++ decimal number ++ codes ")"

-- a sentence of what came
abbrev pub notable_said : Notable → List ℕ
notable_said (notables.Error name number) = error_said (name_text name) number
notable_said (notables.Drop pipe full) = codes "pipe " ++ pipe_text pipe ++ drop_said full
notable_said notables.Reset = codes "HS asked for a processor reset"
notable_said (notables.Restart name) = codes "HS asked to restart " ++ name_text name
notable_said (notables.Delete name) = codes "HS asked to delete " ++ name_text name

-- how often it came, on a line of its own
unfoldable pub counted_said : NotableCount → List ℕ
counted_said c = codes "  " ++ things_said c.count (codes "time") ++ codes ": " ++ notable_said c.what ++ codes "\n"

-- the words by which a line tells how it would be allowed
abbrev pub allow_said : Notable → List ℕ
allow_said (notables.Error name number) = word_pair (name_text name) (decimal number)
allow_said (notables.Drop pipe full) = word_pair (codes "drop") (pipe_text pipe)
allow_said notables.Reset = codes "reset"
allow_said (notables.Restart name) = word_pair (codes "restart") (name_text name)
allow_said (notables.Delete name) = word_pair (codes "delete") (name_text name)

-- the line of what isn't allowed
unfoldable pub unwanted_said : List (Bor (List ℕ)) → NotableCount → List ℕ
unwanted_said allowed c =
    if is_allowed allowed c.what then [] else codes "not allowed, --allow '" ++ allow_said c.what ++ codes "':" ++ counted_said c

-- whether a text has something in it
abbrev pub has_text : List ℕ → Bool
has_text [] = false
has_text (c ∷ text) = true
