-- Health and Safety's name, and the events of its monitors.
use Rattle.std.specs.Prelude.{ℕ, List, codes}
use Rattle.packet_forms.specs.Names.{name_of}
use Rattle.hs_actions.specs.declared.action.Source.{Source}
use Rattle.hs_actions.specs.declared.action.Source.TheVariants.{AppMonitor, EventMonitor}
use Rattle.hs_actions.specs.declared.messages.Event.{Event}
use Rattle.hs_actions.specs.declared.messages.Event.TheVariants.{ResetAsked, RestartAsked, Reported, MessageSent, NoResetLeft}

-- The name of Health and Safety.
unfoldable pub hs_name : List ℕ
hs_name = name_of (codes "HS")

-- The events of application monitors are numbered from 101 on, those of event monitors from 111 on.
abbrev pub event_base : Source → ℕ
event_base AppMonitor = 100
event_base EventMonitor = 110

-- Which of its monitor's five events an event is, from 1.
abbrev pub event_place : Event → ℕ
event_place ResetAsked = 1
event_place RestartAsked = 2
event_place Reported = 3
event_place MessageSent = 4
event_place NoResetLeft = 5

-- The type of an event: each is an error.
abbrev pub event_kind : Event → ℕ
event_kind event = 3
