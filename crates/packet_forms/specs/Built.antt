-- The packets that are built here, byte by byte, and how they read back.
use Rattle.std.specs.Prelude.{◌≡◌, ℕ, ◌+◌, ◌-◌, true, false, List, [], ◌∷◌, ◌++◌, length, take, drop, bit_xor}
use Rattle.packet_forms.specs.Numbers.{be16_bytes, be32_bytes}
use Rattle.packet_forms.specs.MessageIds.{event_id}
use Rattle.packet_forms.specs.Packets.{IsPacket, message_id, is_command, is_command_id, function_code, is_checksum_right, payload_of, sequence_count, checksum_of}

-- the six bytes that begin a packet of `size` bytes: its id, the sequence flags 3 with the count 0, and its length field
unfoldable pub primary_header : ℕ → ℕ → List ℕ
primary_header id size = be16_bytes id ++ be16_bytes 49152 ++ be16_bytes (size - 7)

-- two parts, and between them the byte that makes the exclusive or of all bytes 0xFF
unfoldable pub with_checksum : List ℕ → List ℕ → List ℕ
with_checksum front behind = front ++ bit_xor 255 (bit_xor (checksum_of front) (checksum_of behind)) ∷ behind

-- a command: the header, its code, its checksum byte, its payload
unfoldable pub command_of : ℕ → ℕ → List ℕ → List ℕ
command_of id code payload = with_checksum (primary_header id (length payload + 8) ++ code ∷ []) payload

-- telemetry: the header, the seconds, subseconds 0, its payload
unfoldable pub telemetry_of : ℕ → ℕ → List ℕ → List ℕ
telemetry_of id secs payload = primary_header id (length payload + 12) ++ be32_bytes secs ++ be16_bytes 0 ++ payload

-- the payload of an event: name, event id, type, spacecraft 66, processor 1
unfoldable pub event_payload : List ℕ → ℕ → ℕ → List ℕ
event_payload name id kind = name ++ be16_bytes id ++ be16_bytes kind ++ be32_bytes 66 ++ be32_bytes 1

-- an event message
unfoldable pub event_of : List ℕ → ℕ → ℕ → ℕ → List ℕ
event_of name id kind secs = telemetry_of event_id secs (event_payload name id kind)

-- a packet with another sequence count
unfoldable pub with_sequence : ℕ → List ℕ → List ℕ
with_sequence n p = take 2 p ++ be16_bytes (49152 + n) ++ drop 4 p

-- a command reads back as what it was built from
pub record IsCommandOf (mid number : ℕ) (content p : List ℕ) : Type 0 where
  pub form : IsPacket p
  pub id : message_id p ≡ mid
  pub kind : is_command p ≡ true
  pub code : function_code p ≡ number
  pub checksum : is_checksum_right p ≡ true
  pub payload : payload_of p ≡ content
  pub count : sequence_count p ≡ 0

-- telemetry reads back as what it was built from
pub record IsTelemetryOf (mid : ℕ) (content p : List ℕ) : Type 0 where
  pub form : IsPacket p
  pub id : message_id p ≡ mid
  pub kind : is_command p ≡ is_command_id mid
  pub payload : is_command_id mid ≡ false → payload_of p ≡ content
  pub count : sequence_count p ≡ 0

-- only the sequence count of a packet is another one
pub record IsRecounted (n : ℕ) (old new : List ℕ) : Type 0 where
  pub form : IsPacket new
  pub id : message_id new ≡ message_id old
  pub size : length new ≡ length old
  pub count : sequence_count new ≡ n
  pub behind : drop 4 new ≡ drop 4 old
