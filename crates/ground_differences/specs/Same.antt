-- What lines tell of, without the sequence counts of packets.
use Rattle.std.specs.Prelude.{◌≡◌, List, map}
use Rattle.packet_forms.specs.Built.{with_sequence}
use Rattle.bus_pipes.specs.declared.names.Dropped.{Dropped}
use Rattle.log_lines.specs.declared.line.LineItem.{LineItem}
use Rattle.log_lines.specs.declared.line.LineItem.TheVariants as items
use Rattle.log_lines.specs.declared.line.LogLine.{LogLine}

-- a packet that a pipe dropped, with the sequence count 0
abbrev pub uncounted_drop : Dropped → Dropped
uncounted_drop lost = record lost { packet = with_sequence 0 lost.packet }

-- what a line tells of, with the sequence count 0 in its packet
abbrev pub uncounted_item : LineItem → LineItem
uncounted_item (items.Packet packet) = items.Packet (with_sequence 0 packet)
uncounted_item (items.Drop lost) = items.Drop (uncounted_drop lost)
uncounted_item items.Reset = items.Reset
uncounted_item (items.Restart name) = items.Restart name
uncounted_item (items.Delete name) = items.Delete name

-- a line, with the sequence count 0 in its packet
abbrev pub uncounted : LogLine → LogLine
uncounted line = record line { item = uncounted_item line.item }

-- what lines of one frame tell of, with the sequence count 0 in their packets
abbrev pub uncounted_items : List LogLine → List LineItem
uncounted_items lines = map (λ line. uncounted_item line.item) lines

-- Lines are the same, one by one, but for the sequence counts of packets.
abbrev pub AreSameLines : List LogLine → List LogLine → Type 0
AreSameLines one other = map uncounted one ≡ map uncounted other
