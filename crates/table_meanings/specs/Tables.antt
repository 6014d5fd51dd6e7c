-- The entries that lines mean, kind by kind.
use Rattle.std.specs.Prelude.{ℕ, List, ◌∷◌, map, Option, Some, None, option_map, Result, Ok, Err, take, drop, codes}
use Rattle.row_forms.specs.declared.field.Field.{Field}
use Rattle.telecommands.specs.declared.command.Command.{Command}
use Rattle.telecommands.specs.declared.fault.CommandFault.{CommandFault}
use Rattle.telecommands.specs.Commands.{command_said}
use Rattle.hs_tables.specs.Apps as apps
use Rattle.hs_tables.specs.Events as events
use Rattle.hs_tables.specs.Counters as counters
use Rattle.hs_tables.specs.Actions as actions
use Rattle.hs_tables.specs.declared.apps.AppRow.{AppRow}
use Rattle.hs_tables.specs.declared.events.EventRow.{EventRow}
use Rattle.hs_tables.specs.declared.counters.CountRow.{CountRow}
use Rattle.hs_tables.specs.declared.actions.ActRow as messages
use Rattle.md_dwell.specs.Tables.{entry_at, blank_entry}
use Rattle.md_dwell.specs.declared.tables.DwellEntry.{DwellEntry}
use Rattle.cs_slices.specs.Tables.{segment_at, blank_segment}
use Rattle.cs_slices.specs.declared.segments.Segment.{Segment}
use Rattle.lc_watch.specs.Watchpoints as watchpoints
use Rattle.lc_watch.specs.declared.watchpoints.WatchRow.{WatchRow}
use Rattle.lc_watch.specs.Actionpoints as actionpoints
use Rattle.lc_watch.specs.Expressions.{word_of}
use Rattle.lc_watch.specs.declared.actionpoints.ActRow.{ActRow}
use Rattle.table_forms.specs.Layouts.{all_layouts}
use Rattle.table_meanings.specs.Meanings.{Keyed, meanings_said, amount_in, name_meant_in, steps_in}
use Rattle.table_meanings.specs.Entries.{EntryMeaning}

-- ---- the entry of what the words behind a number mean

unfoldable pub counter_of : List Keyed → CountRow
counter_of ms = record { name = name_meant_in ms (codes "app"); sort = amount_in ms (codes "type") }

unfoldable pub app_of : List Keyed → AppRow
app_of ms = record { name = name_meant_in ms (codes "app"); cycles = amount_in ms (codes "cycles"); action = amount_in ms (codes "action") }

unfoldable pub event_of : List Keyed → EventRow
event_of ms = record { name = name_meant_in ms (codes "app"); id = amount_in ms (codes "event"); action = amount_in ms (codes "action") }

unfoldable pub dwell_entry_of : List Keyed → DwellEntry
dwell_entry_of ms = record { len = amount_in ms (codes "length"); delay = amount_in ms (codes "delay"); at = amount_in ms (codes "address") }

unfoldable pub segment_of : List Keyed → Segment
segment_of ms = record { state = amount_in ms (codes "state"); start = amount_in ms (codes "start"); len = amount_in ms (codes "length") }

unfoldable pub watchpoint_of : List Keyed → WatchRow
watchpoint_of ms = record {
  kind = amount_in ms (codes "type");
  id = amount_in ms (codes "id");
  offset = amount_in ms (codes "offset");
  operator = watchpoints.operator_of (amount_in ms (codes "operator"));
  mask = amount_in ms (codes "mask");
  limit = amount_in ms (codes "limit");
}

unfoldable pub actionpoint_of : List Keyed → ActRow
actionpoint_of ms = record {
  state = amount_in ms (codes "state");
  rts = amount_in ms (codes "sequence");
  failures = amount_in ms (codes "failures");
  size = amount_in ms (codes "when");
  words = map word_of (steps_in ms (codes "when"));
}

-- the words of a row as an entry
abbrev pub row_meant : {E : Type 0} → Option ℕ → List Field → (List Keyed → E) → List (List ℕ) → Option E
row_meant epoch fs made ws = option_map made (meanings_said epoch fs ws)

-- entries of one row each, which the loader reads by their place
abbrev pub rows_meaning : {E : Type 0} → Option ℕ → List Field → (List Keyed → E) → (List ℕ → ℕ → E) → E → EntryMeaning E
rows_meaning epoch fs made row_at unused = record { said = row_meant epoch fs made; read = λ bytes. row_at bytes 0; unused = unused }

unfoldable pub counters_meaning : Option ℕ → EntryMeaning CountRow
counters_meaning epoch = rows_meaning epoch all_layouts.counters.fields.now counter_of counters.row_at counters.blank_row

unfoldable pub apps_meaning : Option ℕ → EntryMeaning AppRow
apps_meaning epoch = rows_meaning epoch all_layouts.apps.fields.now app_of apps.row_at apps.blank_row

unfoldable pub events_meaning : Option ℕ → EntryMeaning EventRow
events_meaning epoch = rows_meaning epoch all_layouts.events.fields.now event_of events.row_at events.blank_row

-- a dwell table's entries stand behind the 4 bytes of its head
unfoldable pub dwells_meaning : Option ℕ → EntryMeaning DwellEntry
dwells_meaning epoch = rows_meaning epoch all_layouts.dwells.fields.now dwell_entry_of (λ bytes. entry_at (0 ∷ 0 ∷ 0 ∷ 0 ∷ bytes)) blank_entry

unfoldable pub segments_meaning : Option ℕ → EntryMeaning Segment
segments_meaning epoch = rows_meaning epoch all_layouts.checksums.fields.now segment_of segment_at blank_segment

unfoldable pub watchpoints_meaning : Option ℕ → EntryMeaning WatchRow
watchpoints_meaning epoch = rows_meaning epoch all_layouts.watchpoints.fields.now watchpoint_of watchpoints.row_at watchpoints.blank_row

unfoldable pub actionpoints_meaning : Option ℕ → EntryMeaning ActRow
actionpoints_meaning epoch = rows_meaning epoch all_layouts.actionpoints.fields.now actionpoint_of actionpoints.row_at actionpoints.blank_row

-- ---- message actions, which have a telecommand behind their fields

-- what two fields mean, and the packet that a telecommand says
abbrev pub message_of : Option (List Keyed) → Result (List ℕ) CommandFault → Option messages.ActRow
message_of (Some ms) (Ok packet) = Some (record { state = amount_in ms (codes "state"); cooldown = amount_in ms (codes "cooldown"); packet = Some packet })
message_of (Some ms) (Err fault) = None
message_of None said = None

-- words 2 and 3 are the fields, and the telecommand begins with word 4
unfoldable pub message_meant : Option ℕ → List Command → List (List ℕ) → Option messages.ActRow
message_meant epoch cs ws = message_of (meanings_said epoch all_layouts.actions.fields.now (take 2 ws)) (command_said epoch 4 cs (drop 2 ws))

unfoldable pub messages_meaning : Option ℕ → List Command → EntryMeaning messages.ActRow
messages_meaning epoch cs = record {
  said = message_meant epoch cs;
  read = λ bytes. actions.row_at bytes 0;
  unused = actions.blank_row;
}
