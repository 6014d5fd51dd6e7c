-- The command packet that ends an entry: its first six bytes say what it is and how long it is.
use Rattle.std.specs.Prelude.{ℕ, ◌+◌, ◌==◌, Bool, not, ◌&&◌, nat_le, nat_lt, if◌then◌else◌, List, length, take, Option, Some, None}
use Rattle.packet_forms.specs.Packets.{version_of, sequence_flags, is_command, length_field}
use Rattle.sc_tables.specs.declared.reasons.EntryReason.{EntryReason}
use Rattle.sc_tables.specs.declared.reasons.EntryReason.TheVariants.{Packet, PastEnd}

-- how many bytes its length field says that it has
unfoldable pub packet_size : List ℕ → ℕ
packet_size bytes = length_field bytes + 7

-- version 0, sequence flags 3, type bit and secondary header flag 1, and 8 to 256 bytes in all
unfoldable pub is_command_head : List ℕ → Bool
is_command_head bytes =
    (version_of bytes == 0) && (sequence_flags bytes == 3) && is_command bytes && nat_le 8 (packet_size bytes) && nat_le (packet_size bytes) 256

-- the first reason to refuse it
unfoldable pub packet_reason : List ℕ → Option EntryReason
packet_reason bytes =
    if not (is_command_head bytes) then Some Packet
    else if nat_lt (length bytes) (packet_size bytes) then Some PastEnd
    else None

-- its bytes
unfoldable pub packet_of : List ℕ → List ℕ
packet_of bytes = take (packet_size bytes) bytes
