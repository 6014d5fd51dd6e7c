-- Lemmas on vocabularies whose texts lie elsewhere.
use Rattle.std.proofs.Common.{◌≡◌, ℕ, Bool, true, false, List, [], ◌∷◌, ◌++◌, drop, map, Option, Some, None, refl, ap, sym, ◌∙◌}
use Rattle.std.specs.Prelude.{if◌then◌else◌, codes}
use Rattle.packet_forms.specs.Packets.{payload_of}
use Rattle.row_forms.specs.declared.field.Field.{Field}
use Rattle.row_forms.specs.declared.field.Field.TheVariants.{Value, Zeros, Check}
use Rattle.row_forms.specs.Values.{width}
use Rattle.row_forms.specs.Rows.{row_words, spaced, is_row}
use Rattle.telecommands.specs.declared.command.Command.{Command}
use Rattle.telecommands.specs.Commands.{shows, showing, shown_by, command_shown}
use Rattle.telecommands.specs.Dictionary.{placed as placed_command, placed_field, dictionary as command_dictionary}
use Rattle.telemetry.specs.declared.row.TelemetryRow.{TelemetryRow}
use Rattle.telemetry.specs.Telemetry.{telemetry_shown}
use Rattle.telemetry.specs.Dictionary.{placed as placed_telemetry_row, dictionary as telemetry_dictionary}
use Rattle.telemetry.proofs.PlaceLemmas.{placed_telemetry}
use Rattle.events.specs.declared.event.Event.{Event}
use Rattle.events.specs.Events.{event_said}
use Rattle.events.specs.Tables.{placed_event, event_table}
use Rattle.events.proofs.PlaceLemmas.{placed_sentence}
use Rattle.packet_log.specs.Lines.{pipe_text}
use Rattle.log_lines.specs.declared.line.LineItem.{LineItem}
use Rattle.log_lines.specs.declared.line.LineItem.TheVariants as items
use Rattle.log_lines.specs.declared.line.LogLine.{LogLine}
use Rattle.log_words.specs.declared.vocabulary.Vocabulary.{Vocabulary}
use Rattle.log_words.specs.Sentences.{event_words, packet_words, cause_words, item_words, sentence_of}
use Rattle.log_words.specs.Worked.{own_words}

-- ---- commands

placed_is_row : (fs : List Field) (bytes : List ℕ) → is_row (map placed_field fs) bytes ≡ is_row fs bytes
unfolding is_row
placed_is_row [] bytes = refl
placed_is_row (Value key kind ∷ fs) bytes = rw (placed_is_row fs (drop (width kind bytes) bytes)) refl
placed_is_row (Zeros count ∷ fs) bytes = rw (placed_is_row fs (drop count bytes)) refl
placed_is_row (Check ∷ fs) bytes = rw (placed_is_row fs (drop 2 bytes)) refl

placed_words : (fs : List Field) (bytes : List ℕ) → row_words (map placed_field fs) bytes ≡ row_words fs bytes
unfolding row_words
placed_words [] bytes = refl
placed_words (Value key kind ∷ fs) bytes = rw (placed_words fs (drop (width kind bytes) bytes)) refl
placed_words (Zeros count ∷ fs) bytes = placed_words fs (drop count bytes)
placed_words (Check ∷ fs) bytes = placed_words fs (drop 2 bytes)

abbrev placed_option : Option Command → Option Command
placed_option None = None
placed_option (Some c) = Some (placed_command c)

placed_shows : (packet : List ℕ) (c : Command) → shows packet (placed_command c) ≡ shows packet c
unfolding shows
placed_shows packet c = rw (placed_is_row c.fields.now (payload_of packet)) refl

placed_showing : (cs : List Command) (packet : List ℕ) → showing (map placed_command cs) packet ≡ placed_option (showing cs packet)
unfolding showing
placed_showing [] packet = refl
placed_showing (c ∷ cs) packet = ap (λ (b : Bool). if b then Some (placed_command c) else showing (map placed_command cs) packet) (placed_shows packet c) ∙ by (shows packet c) (placed_showing cs packet) where
  by : (b : Bool) → showing (map placed_command cs) packet ≡ placed_option (showing cs packet) → (if b then Some (placed_command c) else showing (map placed_command cs) packet) ≡ placed_option (if b then Some c else showing cs packet)
  by true h = refl
  by false h = h

placed_shown_by : (o : Option Command) (packet : List ℕ) → shown_by (placed_option o) packet ≡ shown_by o packet
placed_shown_by None packet = refl
placed_shown_by (Some c) packet = ap (λ (ws : List (List ℕ)). c.name.now ++ spaced ws) (placed_words c.fields.now (payload_of packet))

-- where the texts of commands lie says nothing of the words of a packet
placed_commands : (cs : List Command) (packet : List ℕ) → command_shown (map placed_command cs) packet ≡ command_shown cs packet
unfolding command_shown
placed_commands cs packet = ap (λ (o : Option Command). shown_by o packet) (placed_showing cs packet) ∙ placed_shown_by (showing cs packet) packet

-- ---- sentences

-- the vocabulary has these rows
pub record HasRows (v : Vocabulary) : Type 0 where
  pub commands : map placed_command v.commands.now ≡ command_dictionary
  pub telemetry : map placed_telemetry_row v.telemetry.now ≡ telemetry_dictionary
  pub events : map placed_event v.events.now ≡ event_table

same_command : (v : Vocabulary) (p : List ℕ) → HasRows v → command_shown v.commands.now p ≡ command_shown command_dictionary p
same_command v p has = sym (placed_commands v.commands.now p) ∙ ap (λ (cs : List Command). command_shown cs p) has.commands

same_telemetry : (v : Vocabulary) (p : List ℕ) → HasRows v → telemetry_shown v.telemetry.now p ≡ telemetry_shown telemetry_dictionary p
same_telemetry v p has = sym (placed_telemetry v.telemetry.now p) ∙ ap (λ (rs : List TelemetryRow). telemetry_shown rs p) has.telemetry

same_event : (v : Vocabulary) (application : List ℕ) (number kind : ℕ) → HasRows v → event_said v.events.now application number kind ≡ event_said event_table application number kind
same_event v application number kind has =
    sym (placed_sentence v.events.now application number kind) ∙ ap (λ (es : List Event). event_said es application number kind) has.events

same_packet : (v : Vocabulary) (p : List ℕ) → HasRows v → packet_words v p ≡ packet_words own_words p
unfolding packet_words event_words
same_packet v p has = rw (same_command v p has, same_telemetry v p has, same_event v _ _ _ has) refl

same_item : (v : Vocabulary) (item : LineItem) → HasRows v → item_words v item ≡ item_words own_words item
same_item v (items.Packet p) has = rw (same_packet v p has) refl
same_item v (items.Drop lost) has = ap (λ (ws : List ℕ). codes "pipe " ++ pipe_text lost.pipe ++ cause_words lost.full ++ ws) (same_packet v lost.packet has)
same_item v items.Reset has = refl
same_item v (items.Restart name) has = refl
same_item v (items.Delete name) has = refl

-- a line is told by these rows, wherever their texts lie
pub same_sentence : (v : Vocabulary) (epoch : Option ℕ) (line : LogLine) → HasRows v → sentence_of v epoch line ≡ sentence_of own_words epoch line
unfolding sentence_of
same_sentence v epoch line has = rw (same_item v line.item has) refl
