-- What an attempt gives.
use Rattle.std.specs.Prelude.{ℕ, ◌+◌, ◌==◌, Bool, if◌then◌else◌, List, [], ◌∷◌, Option, Some, None}
use Rattle.histories.specs.Words.{joined_along}
use Rattle.packet_forms.specs.Built.{event_of}
use Rattle.bus_pipes.specs.declared.names.Out.{Out}
use Rattle.bus_pipes.specs.declared.names.Out.TheVariants as outs
use Rattle.hs_tables.specs.Actions.{entry_of}
use Rattle.hs_tables.specs.declared.actions.ActRow.{ActRow}
use Rattle.hs_tables.specs.declared.actions.ActEntry.{ActEntry}
use Rattle.hs_actions.specs.Messages.{hs_name, event_base, event_place}
use Rattle.hs_actions.specs.Happenings.{Happening}
use Rattle.hs_actions.specs.Happenings.Happening.{Clears, Limits, Attempts}
use Rattle.hs_actions.specs.Outcomes.{Past, with_more, goes_after, act_at}
use Rattle.hs_actions.specs.declared.action.Action.{Action}
use Rattle.hs_actions.specs.declared.action.Action.TheVariants.{Reset, Restart, Report, Message}
use Rattle.hs_actions.specs.declared.action.Source.{Source}
use Rattle.hs_actions.specs.declared.action.Source.TheVariants.{AppMonitor, EventMonitor}
use Rattle.hs_actions.specs.declared.messages.Event.TheVariants.{ResetAsked, RestartAsked, Reported, MessageSent, NoResetLeft}

-- The n-th event of a monitor, from 1.
unfoldable pub event_out : ℕ → Source → ℕ → Out
event_out time source n = outs.Made (event_of hs_name (event_base source + n) 3 time)

-- A report: of an event monitor also the request to delete the application.
abbrev pub report_items : ℕ → Source → List ℕ → List Out
report_items time AppMonitor name = event_out time AppMonitor (event_place Reported) ∷ []
report_items time EventMonitor name = event_out time EventMonitor (event_place Reported) ∷ outs.Delete name ∷ []

-- A message action that goes: its packet, and an event unless the state is 2.
abbrev pub message_items : ℕ → Source → Option ActEntry → List Out
message_items time source None = []
message_items time source (Some entry) = outs.Stored entry.packet ∷ (if entry.state == 2 then [] else event_out time source (event_place MessageSent) ∷ [])

-- What an attempt gives, by whether it goes.
abbrev pub performed : ℕ → List ActRow → Source → List ℕ → Action → Bool → List Out
performed time acts source name Reset went =
    if went then event_out time source (event_place ResetAsked) ∷ outs.Reset ∷ []
    else event_out time source (event_place NoResetLeft) ∷ []
performed time acts source name Restart went = event_out time source (event_place RestartAsked) ∷ outs.Restart name ∷ []
performed time acts source name Report went = report_items time source name
performed time acts source name (Message place) went = if went then message_items time source (entry_of (act_at acts place)) else []

-- What a happening gives, by whether it goes.
abbrev pub items_with : ℕ → List ActRow → Happening → Bool → List Out
items_with time acts Clears went = []
items_with time acts (Limits n) went = []
items_with time acts (Attempts a) went = performed time acts a.source a.name a.action went

-- What the next happening gives.
unfoldable pub happening_items : ℕ → List ActRow → Past → Happening → List Out
happening_items time acts past h = items_with time acts h (goes_after acts past h)

-- What several happenings give, one after another.
unfoldable pub items_of : ℕ → List ActRow → Past → List Happening → List Out
items_of time acts past more = joined_along (λ done h. happening_items time acts (with_more past done) h) more
