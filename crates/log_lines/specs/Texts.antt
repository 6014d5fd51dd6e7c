-- The lines that are written of what they say, by the definitions of the log.
use Rattle.std.specs.Prelude.{◌≡◌, ◌<◌, ℕ, ◌==◌, true, List, [], ◌∷◌, ◌++◌, Ok}
use Rattle.std.specs.List.{AllByRecursion, slice_split}
use Rattle.packet_forms.specs.Names.{is_name}
use Rattle.packet_forms.specs.Packets.{IsPacket}
use Rattle.bus_pipes.specs.declared.names.Out.TheVariants as outs
use Rattle.packet_log.specs.Lines.{packet_line, drop_line}
use Rattle.packet_log.specs.Items.{request_line}
use Rattle.log_lines.specs.declared.line.LineItem.{LineItem}
use Rattle.log_lines.specs.declared.line.LineItem.TheVariants as items
use Rattle.log_lines.specs.declared.line.LogLine.{LogLine}
use Rattle.log_lines.specs.Lines.{line_said}

-- the text of an item's line in a frame, with its LF
abbrev pub item_text : ℕ → LineItem → List ℕ
item_text frame (items.Packet p) = packet_line frame p
item_text frame (items.Drop lost) = drop_line frame lost
item_text frame items.Reset = request_line frame outs.Reset
item_text frame (items.Restart name) = request_line frame (outs.Restart name)
item_text frame (items.Delete name) = request_line frame (outs.Delete name)

abbrev pub line_text : LogLine → List ℕ
line_text line = item_text line.frame line.item

-- a list of bytes that is a packet
pub record IsPacketOfBytes (p : List ℕ) : Type 0 where
  pub packet : IsPacket p
  pub bytes : AllByRecursion (λ b. b < 256) p

-- an item that there can be: its packet is one, and so is its name
abbrev pub IsItem : LineItem → Type 0
IsItem (items.Packet p) = IsPacketOfBytes p
IsItem (items.Drop lost) = IsPacketOfBytes lost.packet
IsItem items.Reset = Unit {0}
IsItem (items.Restart name) = is_name name ≡ true
IsItem (items.Delete name) = is_name name ≡ true

-- a line that there can be
pub record IsLine (line : LogLine) : Type 0 where
  pub frame : line.frame < 4294967296
  pub item : IsItem line.item

-- the parts of a text between LFs
unfoldable pub lf_parts : List ℕ → List (List ℕ)
lf_parts text = slice_split (λ b. b == 10) text

-- A text, whatever stands behind it, is a line and its LF, and the line says this.
pub record IsReadAs (text : List ℕ) (said : LogLine) : Type 0 where
  pub line : List ℕ
  pub whole : text ≡ line ++ 10 ∷ []
  pub first : (rest : List ℕ) → lf_parts (text ++ rest) ≡ line ∷ lf_parts rest
  pub says : line_said line ≡ Ok said
