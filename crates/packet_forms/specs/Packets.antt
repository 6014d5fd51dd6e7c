-- What the bytes of a space packet say (CCSDS 133.0-B, with a command header made after the cFE's).
use Rattle.std.specs.Prelude.{◌≡◌, ◌≤◌, ℕ, ◌+◌, ◌/◌, ◌%◌, ◌==◌, Bool, if◌then◌else◌, List, [], ◌∷◌, length, drop, slice_index, bit_xor}
use Rattle.std.specs.List.{fold}
use Rattle.packet_forms.specs.Numbers.{be16_at}

-- the message id: the first 16 bits
unfoldable pub message_id : List ℕ → ℕ
message_id p = be16_at p 0

-- the version: the top three bits
unfoldable pub version_of : List ℕ → ℕ
version_of p = slice_index p 0 / 32

-- the sequence flags: the top two bits of byte 2
unfoldable pub sequence_flags : List ℕ → ℕ
sequence_flags p = slice_index p 2 / 64

-- the sequence count: the low 14 bits of bytes 2 and 3
unfoldable pub sequence_count : List ℕ → ℕ
sequence_count p = be16_at p 2 % 16384

-- the data length field: the number of bytes after the first six, less one
unfoldable pub length_field : List ℕ → ℕ
length_field p = be16_at p 4

-- an id whose type bit and secondary header flag are 1
abbrev pub is_command_id : ℕ → Bool
is_command_id id = id / 2048 % 4 == 3

-- a packet with the id of a command
unfoldable pub is_command : List ℕ → Bool
is_command p = is_command_id (message_id p)

-- the function code: the low seven bits of byte 6
unfoldable pub function_code : List ℕ → ℕ
function_code p = slice_index p 6 % 128

-- the exclusive or of all bytes
unfoldable pub checksum_of : List ℕ → ℕ
checksum_of bytes = fold bit_xor 0 bytes

-- the exclusive or of all bytes is 0xFF
unfoldable pub is_checksum_right : List ℕ → Bool
is_checksum_right p = checksum_of p == 255

-- the payload: from byte 8 of a command on, from byte 12 of any other packet on
unfoldable pub payload_of : List ℕ → List ℕ
payload_of p = drop (if is_command p then 8 else 12) p

-- a list of bytes is a packet: 8 to 256 bytes, version 0, sequence flags 3, and the length that its field says
pub record IsPacket (p : List ℕ) : Type 0 where
  pub long : 8 ≤ length p
  pub short : length p ≤ 256
  pub version : version_of p ≡ 0
  pub whole : sequence_flags p ≡ 3
  pub field : length_field p + 7 ≡ length p

-- the shortest packet: id 0, the count 0, and two zero bytes behind the header
abbrev pub shortest_packet : List ℕ
shortest_packet = 0x00 ∷ 0x00 ∷ 0xC0 ∷ 0x00 ∷ 0x00 ∷ 0x01 ∷ 0x00 ∷ 0x00 ∷ []
