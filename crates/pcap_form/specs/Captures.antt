-- Captures of packets in the format of libpcap, the most significant byte of each number first. The link type is 252, in which each packet
-- stands behind the name of the dissector that shows it.
use Rattle.std.specs.Prelude.{◌≡◌, ℕ, ◌+◌, ◌-◌, ◌<◌, ◌≤◌, ◌==◌, ◌&&◌, nat_le, List, [], ◌∷◌, ◌++◌, length, take, drop, Option, Some, None, if◌then◌else◌}
use Rattle.std.specs.Str.{bytes_eq}
use Rattle.packet_forms.specs.Numbers.{be32_at, be32_bytes}

-- a packet, and when it came, in seconds
pub record Stamped : Type 0 where
  pub seconds : ℕ
  pub packet : List ℕ

-- what a record has room for
pub record IsStamped (s : Stamped) : Type 0 where
  pub seconds : s.seconds < 4294967296
  pub size : length s.packet ≤ 65519

-- the magic number, version 2.4, zone and accuracy, the most bytes of a record, the link type
abbrev pub capture_header : List ℕ
capture_header = 0xA1 ∷ 0xB2 ∷ 0xC3 ∷ 0xD4 ∷ 0 ∷ 2 ∷ 0 ∷ 4 ∷ 0 ∷ 0 ∷ 0 ∷ 0 ∷ 0 ∷ 0 ∷ 0 ∷ 0 ∷ 0 ∷ 0 ∷ 0xFF ∷ 0xFF ∷ 0 ∷ 0 ∷ 0 ∷ 0xFC ∷ []

-- tag 12, the name of a dissector, of eight bytes; `ccsds` and zero bytes; the tag that ends the tags
abbrev pub dissector : List ℕ
dissector = 0 ∷ 12 ∷ 0 ∷ 8 ∷ 99 ∷ 99 ∷ 115 ∷ 100 ∷ 115 ∷ 0 ∷ 0 ∷ 0 ∷ 0 ∷ 0 ∷ 0 ∷ 0 ∷ []

-- what stands before a packet: seconds, microseconds, how many bytes follow, how many there were, and the dissector
unfoldable pub record_header : ℕ → ℕ → List ℕ
record_header seconds size = be32_bytes seconds ++ be32_bytes 0 ++ be32_bytes size ++ be32_bytes size ++ dissector

-- the record of a packet
unfoldable pub stamped : Stamped → List ℕ
stamped s = record_header s.seconds (length s.packet + 16) ++ s.packet

-- what a record's header and what is behind it say: a packet with its time, and what is behind that
abbrev pub record_said : ℕ → ℕ → ℕ → ℕ → List ℕ → List ℕ → Option (Stamped × List ℕ)
record_said seconds micros size long name behind =
    if nat_le 16 size && nat_le (size - 16) (length behind) && (long == size) && (micros == 0) && bytes_eq name dissector
    then Some (record { seconds = seconds; packet = take (size - 16) behind }, drop (size - 16) behind)
    else None

-- the packet of the first record, and what is behind that; none where no record of a whole packet stands there
unfoldable pub first_in : List ℕ → Option (Stamped × List ℕ)
first_in bytes = record_said (be32_at bytes 0) (be32_at bytes 4) (be32_at bytes 8) (be32_at bytes 12) (take 16 (drop 16 bytes)) (drop 32 bytes)

-- these are the packets of the records, in their order, and nothing else is there
unfoldable pub AreIn : List ℕ → List Stamped → Type 0
AreIn bytes [] = bytes ≡ []
AreIn bytes (s ∷ packets) = (rest : List ℕ) × (first_in bytes ≡ Some (s, rest)) × AreIn rest packets
