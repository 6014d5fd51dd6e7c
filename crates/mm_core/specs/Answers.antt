-- The packets with which MM answers its commands before their events.
use Rattle.std.specs.Prelude.{ℕ, ◌+◌, ◌-◌, ◌*◌, ◌/◌, List, [], ◌∷◌, ◌++◌, length, map, take, drop, Result, Ok, Err}
use Rattle.std.specs.List.{range_with_len}
use Rattle.packet_forms.specs.MessageIds.{mm_peek, mm_dump}
use Rattle.packet_forms.specs.Numbers.{be16_bytes, be32_bytes}
use Rattle.packet_forms.specs.Built.{telemetry_of}
use Rattle.bus_pipes.specs.declared.names.Out.{Out}
use Rattle.bus_pipes.specs.declared.names.Out.TheVariants.{Made}
use Rattle.memory_window.specs.Memory.{Memory}
use Rattle.memory_window.specs.declared.access.AccessFault.{AccessFault}
use Rattle.mm_core.specs.Reading.{value_at, range_at}
use Rattle.mm_core.specs.declared.instructions.Instruction.{Instruction}
use Rattle.mm_core.specs.declared.instructions.Instruction.TheVariants.{Plain, Peek, Poke, Load, LoadFile, Fill, Protect, Dump}

-- The packet with the value that a peek read: its size, its address, the value.
unfoldable pub peek_packet : ℕ → ℕ → ℕ → ℕ → List ℕ
peek_packet time size at value = telemetry_of mm_peek time (size ∷ be32_bytes at ++ be32_bytes value)

-- The packet of a read, where it met no fault.
abbrev pub read_items : ℕ → ℕ → ℕ → Result ℕ AccessFault → List Out
read_items time size at (Ok value) = Made (peek_packet time size at value) ∷ []
read_items time size at (Err fault) = []

-- How many bytes a part of a dump has, but for the last one.
abbrev pub part_size : ℕ
part_size = 128

-- The packet with a part of a dump: its address, how many bytes it has, and these.
unfoldable pub dump_packet : ℕ → ℕ → List ℕ → List ℕ
dump_packet time at part = telemetry_of mm_dump time (be32_bytes at ++ be16_bytes (length part) ++ part)

-- The packet of the part in place k, from 0, of a dump from an address on.
abbrev pub dump_part : ℕ → ℕ → List ℕ → ℕ → Out
dump_part time at bytes k = Made (dump_packet time (at + k * part_size) (take part_size (drop (k * part_size) bytes)))

-- The packets of a dump, which is cut from its start into parts, the last one shorter.
unfoldable pub dump_items : ℕ → ℕ → List ℕ → List Out
dump_items time at bytes = map (dump_part time at bytes) (range_with_len 0 ((length bytes + (part_size - 1)) / part_size))

-- The packets of a dump of a range, where its reading met no fault.
abbrev pub range_items : ℕ → ℕ → Result (List ℕ) AccessFault → List Out
range_items time at (Ok bytes) = dump_items time at bytes
range_items time at (Err fault) = []

-- The packets with which an accepted command is answered before its event.
abbrev pub replies_to : ℕ → Memory → Instruction → List Out
replies_to time image Plain = []
replies_to time image (Peek size at) = read_items time size at (value_at image size at)
replies_to time image (Poke size at value) = []
replies_to time image (Load at crc part) = []
replies_to time image (LoadFile n) = []
replies_to time image (Fill at len byte) = []
replies_to time image (Protect region on) = []
replies_to time image (Dump at len) = range_items time at (range_at image at len)
