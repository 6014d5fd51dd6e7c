-- What an actionpoint gives that fires.
use Rattle.std.specs.Prelude.{ℕ, List, [], ◌∷◌}
use Rattle.packet_forms.specs.MessageIds.{sc_command}
use Rattle.packet_forms.specs.Numbers.{be16_bytes}
use Rattle.packet_forms.specs.Built.{command_of, event_of}
use Rattle.bus_pipes.specs.declared.names.Out.{Out}
use Rattle.bus_pipes.specs.declared.names.Out.TheVariants.{Made, Stored}
use Rattle.lc_watch.specs.Messages.{lc_name, start_code, event_number, event_kind}
use Rattle.lc_watch.specs.Actionpoints.{act_at}
use Rattle.lc_watch.specs.declared.messages.Event.{Event}
use Rattle.lc_watch.specs.declared.messages.Event.TheVariants.{Fired}
use Rattle.lc_watch.specs.declared.actionpoints.ActRow.{ActRow}

-- An event at the time `now`.
abbrev pub lc_event : Event → ℕ → Out
lc_event event now = Made (event_of lc_name (event_number event) (event_kind event) now)

-- The command that starts a relative sequence.
unfoldable pub start_of : ℕ → List ℕ
start_of rts = command_of sc_command start_code (be16_bytes rts)

-- What an actionpoint gives that fires: the command that starts its sequence, and then the event.
abbrev pub firing_items : ℕ → ActRow → List Out
firing_items time row = Stored (start_of row.rts) ∷ lc_event Fired time ∷ []

-- What the actionpoint in a place gives that fires.
abbrev pub point_items : ℕ → List ActRow → ℕ → List Out
point_items time actions place = firing_items time (act_at actions place)
