-- What of a log an operator looks at first.
use Rattle.std.specs.Prelude.{ℕ, ◌==◌, if◌then◌else◌, List, [], ◌∷◌, Option, Some, None, Ok, Err}
use Rattle.std.specs.List.{flat_map}
use Rattle.packet_forms.specs.Numbers.{be16_at}
use Rattle.log_lines.specs.Logs.{Said, log_said}
use Rattle.log_lines.specs.declared.line.LineItem.{LineItem}
use Rattle.log_lines.specs.declared.line.LineItem.TheVariants as items
use Rattle.log_words.specs.Sentences.{name_bytes, is_event}
use Rattle.ground_tools.specs.declared.application.EventHead.{EventHead}
use Rattle.ground_tools.specs.declared.survey.Notable.{Notable}
use Rattle.ground_tools.specs.declared.survey.Notable.TheVariants as notables

-- the head of the event that a packet is
abbrev pub head_in : List ℕ → Option EventHead
head_in p = if is_event p then Some (record { application = name_bytes p; number = be16_at p 32; kind = be16_at p 34 }) else None

-- an event of type 3
abbrev pub error_of : Option EventHead → List Notable
error_of None = []
error_of (Some head) = if head.kind == 3 then notables.Error head.application head.number ∷ [] else []

-- what a line tells of these: an event of type 3, a drop, or a request
abbrev pub item_noted : LineItem → List Notable
item_noted (items.Packet p) = error_of (head_in p)
item_noted (items.Drop lost) = notables.Drop lost.pipe lost.full ∷ []
item_noted items.Reset = notables.Reset ∷ []
item_noted (items.Restart name) = notables.Restart name ∷ []
item_noted (items.Delete name) = notables.Delete name ∷ []

-- a line that is none of a log's tells none
abbrev pub said_noted : Said → List Notable
said_noted (Ok line) = item_noted line.item
said_noted (Err fault) = []

-- the events of type 3, drops and requests of a log, in the order of its lines
unfoldable pub noted : List ℕ → List Notable
noted log = flat_map said_noted (log_said log)
