-- Event messages, and the event monitors that they match.
use Rattle.std.specs.Prelude.{ℕ, ◌==◌, Bool, ◌&&◌, if◌then◌else◌, List, [], ◌∷◌, length, take, drop, slice_index_or, Option, Some, None}
use Rattle.std.specs.List.{flat_map}
use Rattle.packet_forms.specs.Numbers.{be16_at}
use Rattle.packet_forms.specs.Packets.{message_id}
use Rattle.packet_forms.specs.MessageIds.{event_id}
use Rattle.hs_tables.specs.Events.{blank_row, entry_of}
use Rattle.hs_tables.specs.declared.events.EventRow.{EventRow}
use Rattle.hs_tables.specs.declared.events.EventEntry.{EventEntry}
use Rattle.hs_actions.specs.Happenings.{Happening, attempt_by}
use Rattle.hs_actions.specs.Happenings.Happening.{Attempts}
use Rattle.hs_actions.specs.declared.action.Source.TheVariants.{EventMonitor}
use Rattle.hs_monitors.specs.Acting.{is_same}
use Rattle.hs_monitors.specs.Heads.{AreHeaded}
use Rattle.hs_monitors.specs.declared.heads.Heads.{Heads}

-- An event message: a packet of its id with 44 bytes. Its sender's name and its event id stand behind the header of 12.
unfoldable pub is_event : List ℕ → Bool
is_event p = (message_id p == event_id) && (length p == 44)

-- The name of an event message's sender.
abbrev pub event_sender : List ℕ → List ℕ
event_sender p = take 20 (drop 12 p)

-- Whether an entry has the name and the id of an event message.
unfoldable pub is_matched : List ℕ → EventEntry → Bool
is_matched p e = is_same (event_sender p) e.name && (be16_at p 32 == e.id)

-- The row in a place of the table, from 0.
abbrev pub row_at : List EventRow → ℕ → EventRow
row_at rows place = slice_index_or rows place blank_row

-- The name of the entry in a place, where it is used.
abbrev pub sender_where : Option EventEntry → Option (List ℕ)
sender_where None = None
sender_where (Some e) = Some e.name

abbrev pub sender_at : List EventRow → ℕ → Option (List ℕ)
sender_at rows place = sender_where (entry_of (row_at rows place))

-- The names of all used entries are noted.
abbrev pub SendersStand : List EventRow → Heads → Type 0
SendersStand rows senders = AreHeaded (sender_at rows) 16 senders

-- The attempt of an entry in wakeup k, at an event message.
abbrev pub attempt_of : ℕ → List ℕ → EventEntry → List Happening
attempt_of k p e = if is_matched p e then Attempts (attempt_by EventMonitor e.name e.action k) ∷ [] else []

abbrev pub attempt_where : ℕ → List ℕ → Option EventEntry → List Happening
attempt_where k p None = []
attempt_where k p (Some e) = attempt_of k p e

unfoldable pub event_attempt : ℕ → List ℕ → EventRow → List Happening
event_attempt k p row = attempt_where k p (entry_of row)

-- The attempts of all entries in table order, at a packet of the event pipe: a packet that is no event message is ignored.
unfoldable pub event_attempts : ℕ → List EventRow → List ℕ → List Happening
event_attempts k rows p = if is_event p then flat_map (event_attempt k p) rows else []
