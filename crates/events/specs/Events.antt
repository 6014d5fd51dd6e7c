-- Events: which of them a number and a type are, and what is told of it.
use Rattle.std.specs.Prelude.{ℕ, ◌==◌, Bool, true, ◌&&◌, ◌||◌, not, nat_lt, if◌then◌else◌, List, [], ◌∷◌, ◌++◌, length, codes, decimal, Option, Some, None}
use Rattle.std.specs.List.{list_all}
use Rattle.std.specs.Str.{bytes_eq}
use Rattle.events.specs.declared.event.Event.{Event}
use Rattle.events.specs.declared.event.EventKind.{EventKind}
use Rattle.events.specs.declared.event.EventKind.TheVariants.{Information, Error}

-- the type that stands in the packet
abbrev pub kind_number : EventKind → ℕ
kind_number Information = 2
kind_number Error = 3

-- whether this is an application's event of a number and a type
abbrev pub is_event : List ℕ → ℕ → ℕ → Event → Bool
is_event application number kind e = (e.number == number) && (kind_number e.kind == kind) && bytes_eq e.application.now application

-- the first event of a number and a type
unfoldable pub event_row : List Event → List ℕ → ℕ → ℕ → Option Event
event_row [] application number kind = None
event_row (e ∷ es) application number kind = if is_event application number kind e then Some e else event_row es application number kind

abbrev pub sentence_said : Option Event → ℕ → ℕ → List ℕ
sentence_said (Some e) number kind = codes ": " ++ e.sentence.now
sentence_said None number kind = (codes ": unknown event " ++ decimal number) ++ (codes " of type " ++ decimal kind)

-- what an event tells: the application's name and the event's sentence, or number and type where no row has them
unfoldable pub event_said : List Event → List ℕ → ℕ → ℕ → List ℕ
event_said es application number kind = application ++ sentence_said (event_row es application number kind) number kind

-- whether two events of an application can be told apart, by number and by name
abbrev pub differ : Event → Event → Bool
differ e f =
    not (bytes_eq e.application.now f.application.now)
    || (not (e.number == f.number) && not (bytes_eq e.name.now f.name.now))

-- no two events of an application have one number or one name
unfoldable pub are_distinct : List Event → Bool
are_distinct [] = true
are_distinct (e ∷ es) = list_all (differ e) es && are_distinct es

-- each name is one word
unfoldable pub are_named : List Event → Bool
are_named es = list_all (λ e. nat_lt 0 (length e.name.now) && list_all (nat_lt 32) e.name.now) es
