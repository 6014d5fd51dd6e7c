-- LC's name, the codes of its commands, its event that no command gives, and the command that it sends.
use Rattle.std.specs.Prelude.{ℕ, List, [], ◌∷◌, codes}
use Rattle.packet_forms.specs.Names.{name_of}
use Rattle.commands.specs.Rows.{code_row}
use Rattle.commands.specs.declared.verdicts.CodeRow.{CodeRow}
use Rattle.lc_watch.specs.declared.messages.Event.{Event}
use Rattle.lc_watch.specs.declared.messages.Event.TheVariants.{Fired}

-- LC's name.
unfoldable pub lc_name : List ℕ
lc_name = name_of (codes "LC")

-- The codes, each with the shortest and the longest payload: no-op, reset counters, set active, set passive.
unfoldable pub lc_codes : List CodeRow
lc_codes = code_row 0 0 0 ∷ code_row 1 0 0 ∷ code_row 2 2 2 ∷ code_row 3 2 2 ∷ []

-- The event of an actionpoint that fires, and the code of the command that starts a relative sequence.
abbrev pub firing_event : ℕ
firing_event = 101

abbrev pub start_code : ℕ
start_code = 4

-- The number of an event, and its type: 3 an error.
abbrev pub event_number : Event → ℕ
event_number Fired = firing_event

abbrev pub event_kind : Event → ℕ
event_kind Fired = 3
