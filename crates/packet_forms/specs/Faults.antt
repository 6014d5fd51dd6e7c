-- Why a list of bytes is no packet.
use Rattle.std.specs.Prelude.{ℕ, ◌+◌, ◌==◌, if◌then◌else◌, List, length, nat_lt, not}
use Rattle.std.specs.Prelude.{Option, Some, None}
use Rattle.packet_forms.specs.Packets.{version_of, sequence_flags, length_field}
use Rattle.packet_forms.specs.declared.packet.PacketFault.{PacketFault}
use Rattle.packet_forms.specs.declared.packet.PacketFault.TheVariants.{Short, Long, Version, Segmented, Length}

-- the first fault of a list of bytes, in the order in which they are asked, or none where it is a packet
unfoldable pub fault_of : List ℕ → Option PacketFault
fault_of bytes =
    if nat_lt (length bytes) 8 then Some Short
    else if nat_lt 256 (length bytes) then Some Long
    else if not (version_of bytes == 0) then Some Version
    else if not (sequence_flags bytes == 3) then Some Segmented
    else if not (length_field bytes + 7 == length bytes) then Some Length
    else None

-- the number of a fault, by the order in which they are asked
abbrev pub fault_number : PacketFault → ℕ
fault_number Short = 1
fault_number Long = 2
fault_number Version = 3
fault_number Segmented = 4
fault_number Length = 5
