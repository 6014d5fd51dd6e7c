-- What a line of the log says, as a sentence.
use Rattle.std.specs.Prelude.{◌≡◌, ℕ, ◌+◌, ◌==◌, Bool, true, ◌&&◌, if◌then◌else◌, List, ◌++◌, length, take, drop, codes, decimal, Option, Some, None}
use Rattle.packet_forms.specs.MessageIds.{event_id}
use Rattle.packet_forms.specs.Names.{is_name, name_text}
use Rattle.packet_forms.specs.Numbers.{be16_at}
use Rattle.packet_forms.specs.Packets.{message_id, is_command}
use Rattle.bus_pipes.specs.declared.names.Dropped.{Dropped}
use Rattle.packet_log.specs.Lines.{pipe_text}
use Rattle.telecommands.specs.Commands.{command_shown, are_good as are_good_commands}
use Rattle.telemetry.specs.Telemetry.{telemetry_shown, are_good as are_good_rows}
use Rattle.events.specs.Events.{event_said}
use Rattle.events.specs.declared.event.Event.{Event}
use Rattle.log_lines.specs.declared.line.LineItem.{LineItem}
use Rattle.log_lines.specs.declared.line.LineItem.TheVariants as items
use Rattle.log_lines.specs.declared.line.LogLine.{LogLine}
use Rattle.log_words.specs.declared.vocabulary.Vocabulary.{Vocabulary}

-- a vocabulary whose rows can be shown
pub record IsGood (v : Vocabulary) : Type 0 where
  pub commands : are_good_commands v.commands.now ≡ true
  pub telemetry : are_good_rows v.telemetry.now ≡ true

-- the 20 bytes of an event's name
abbrev pub name_bytes : List ℕ → List ℕ
name_bytes p = take 20 (drop 12 p)

-- a packet with the id and the length of an event, and a name
abbrev pub is_event : List ℕ → Bool
is_event p = (message_id p == event_id) && (length p == 44) && is_name (name_bytes p)

-- the application that tells an event
abbrev pub application : List ℕ → List ℕ
application p = name_text (name_bytes p)

abbrev pub number_words : ℕ → List ℕ
number_words n = codes " (event " ++ decimal n ++ codes ")"

-- what an event tells, and its number
unfoldable pub event_words : List Event → List ℕ → List ℕ
event_words es p = event_said es (application p) (be16_at p 32) (be16_at p 34) ++ number_words (be16_at p 32)

-- what a packet is: of a command or of telemetry the name and the fields, of an event what it tells
unfoldable pub packet_words : Vocabulary → List ℕ → List ℕ
packet_words v p =
    if is_command p then command_shown v.commands.now p
    else if is_event p then event_words v.events.now p
    else telemetry_shown v.telemetry.now p

-- what was sent: a command, or telemetry
abbrev pub sent_words : Vocabulary → List ℕ → List ℕ
sent_words v p = if is_command p then codes "sent on board: " ++ packet_words v p else packet_words v p

abbrev pub cause_words : Bool → List ℕ
cause_words full = if full then codes " is full, dropped: " else codes " holds as many packets of this id as it may, dropped: "

-- which pipe dropped a packet, why, and what it is
abbrev pub drop_words : Vocabulary → Dropped → List ℕ
drop_words v lost = codes "pipe " ++ pipe_text lost.pipe ++ cause_words lost.full ++ packet_words v lost.packet

-- what happened
abbrev pub item_words : Vocabulary → LineItem → List ℕ
item_words v (items.Packet p) = sent_words v p
item_words v (items.Drop lost) = drop_words v lost
item_words v items.Reset = codes "HS asks for a processor reset: behind this frame all applications start anew, on the first file of each table; memory, its protection and sequence counts stay"
item_words v (items.Restart name) = codes "HS asks to restart " ++ name_text name
item_words v (items.Delete name) = codes "HS asks to delete " ++ name_text name

-- when it happened: in seconds where the epoch is known, and else by the frame's number
abbrev pub time_words : Option ℕ → ℕ → List ℕ
time_words None frame = codes "frame " ++ decimal frame
time_words (Some epoch) frame = codes "time " ++ decimal (epoch + frame)

-- the sentence of a line
unfoldable pub sentence_of : Vocabulary → Option ℕ → LogLine → List ℕ
sentence_of v epoch line = time_words epoch line.frame ++ codes ": " ++ item_words v line.item
