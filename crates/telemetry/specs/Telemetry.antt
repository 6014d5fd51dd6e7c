-- Telemetry: what words say as a packet, and the words that a packet has.
use Rattle.std.specs.Prelude.{◌≡◌, ℕ, ◌+◌, ◌==◌, Bool, true, false, ◌&&◌, not, if◌then◌else◌, nat_lt, nat_le, List, [], ◌∷◌, ◌++◌, length, take, drop, codes, Option, Some, None, is_none, Result, Ok, Err}
use Rattle.std.specs.List.{list_all}
use Rattle.std.specs.Str.{bytes_eq}
use Rattle.packet_forms.specs.Built.{telemetry_of, with_sequence}
use Rattle.packet_forms.specs.Faults.{fault_of}
use Rattle.packet_forms.specs.Hex.{hex}
use Rattle.packet_forms.specs.Numbers.{be16_at, be32_at, be16_bytes}
use Rattle.packet_forms.specs.Packets.{message_id, is_command_id, sequence_count}
use Rattle.packet_forms.specs.declared.packet.PacketFault.{PacketFault}
use Rattle.row_forms.specs.declared.field.Field.{Field}
use Rattle.row_forms.specs.declared.field.Field.TheVariants.{Value, Zeros, Check}
use Rattle.row_forms.specs.Words.{hex_said}
use Rattle.row_forms.specs.Values.{fixed_size}
use Rattle.row_forms.specs.Rows.{behind_key, fault_at, row_said, row_shown, is_row, are_fields}
use Rattle.row_forms.specs.declared.fault.Reason.TheVariants as reasons
use Rattle.row_forms.specs.declared.fault.RowFault.{RowFault}
use Rattle.telemetry.specs.declared.row.TelemetryRow.{TelemetryRow}
use Rattle.telemetry.specs.declared.fault.TelemetryFault.{TelemetryFault}
use Rattle.telemetry.specs.declared.fault.TelemetryFault.TheVariants as faults
use Rattle.telemetry.specs.declared.fault.ReadError.{ReadError}
use Rattle.telemetry.specs.declared.fault.ReadError.TheVariants as errors

-- a name that is one word, and no word `packet=..`
abbrev pub is_packet_name : List ℕ → Bool
is_packet_name name = nat_lt 0 (length name) && list_all (nat_lt 32) name && is_none (behind_key (codes "packet") name)

abbrev pub is_size : ℕ → Option ℕ → Bool
is_size size (Some n) = n == size
is_size size None = false

-- a field with a word and so many bytes
abbrev pub has_size : ℕ → Field → Bool
has_size size (Value key kind) = is_size size (fixed_size kind)
has_size size (Zeros count) = false
has_size size Check = false

-- fields that begin with the seconds, of four bytes, and the sequence count, of two
unfoldable pub begin_with_header : List Field → Bool
begin_with_header [] = false
begin_with_header (f ∷ []) = false
begin_with_header (f ∷ g ∷ fs) = has_size 4 f && has_size 2 g

-- a row whose packets can be built, read and shown
unfoldable pub is_good : TelemetryRow → Bool
is_good r =
    is_packet_name r.name.now && nat_lt r.id 8192 && not (is_command_id r.id) && nat_lt (length r.fields.now) 65536
    && begin_with_header r.fields.now && are_fields r.fields.now

unfoldable pub are_good : List TelemetryRow → Bool
are_good rs = list_all is_good rs

-- no two rows have one name
unfoldable pub are_distinct : List TelemetryRow → Bool
are_distinct [] = true
are_distinct (r ∷ rs) = list_all (λ s. not (bytes_eq s.name.now r.name.now)) rs && are_distinct rs

-- the first row of a name
unfoldable pub named : List TelemetryRow → List ℕ → Option TelemetryRow
named [] name = None
named (r ∷ rs) name = if bytes_eq r.name.now name then Some r else named rs name

-- what a row says of a packet: its seconds, its sequence count, its payload
unfoldable pub content_of : List ℕ → List ℕ
content_of packet = take 4 (drop 6 packet) ++ be16_bytes (sequence_count packet) ++ drop 12 packet

-- what a packet can be made of: a sequence count of 14 bits, and at most 244 bytes behind it
abbrev pub is_content : List ℕ → Bool
is_content content = nat_le 6 (length content) && nat_le (length content) 250 && nat_le (be16_at content 4) 16383

-- the packet of an id, its seconds, its sequence count and its payload
unfoldable pub packet_of : ℕ → List ℕ → List ℕ
packet_of id content = with_sequence (be16_at content 4) (telemetry_of id (be32_at content 0) (drop 6 content))

abbrev pub counted : ℕ → List ℕ → Result (List ℕ) TelemetryFault
counted id content = if nat_le (be16_at content 4) 16383 then Ok (packet_of id content) else Err faults.Count

-- the packet of a row with this content
abbrev pub made : TelemetryRow → Result (List ℕ) RowFault → Result (List ℕ) TelemetryFault
made r (Ok content) = if nat_le (length content) 250 then counted r.id content else Err faults.Long
made r (Err fault) = Err (faults.Row fault)

abbrev pub named_said : Option ℕ → ℕ → Option TelemetryRow → List (List ℕ) → Result (List ℕ) TelemetryFault
named_said epoch n (Some r) ws = made r (row_said epoch (n + 1) r.fields.now ws)
named_said epoch n None ws = Err (faults.Name n)

abbrev pub whole_packet : ℕ → List ℕ → Option PacketFault → Result (List ℕ) TelemetryFault
whole_packet n bytes None = Ok bytes
whole_packet n bytes (Some fault) = Err (faults.Packet n fault)

-- the packet of hexadecimal digits, behind which no word stands
abbrev pub packet_said : ℕ → Option (List ℕ) → List (List ℕ) → Result (List ℕ) TelemetryFault
packet_said n None ws = Err (faults.Row (fault_at n reasons.Block))
packet_said n (Some bytes) [] = whole_packet n bytes (fault_of bytes)
packet_said n (Some bytes) (w ∷ ws) = Err (faults.Row (fault_at (n + 1) reasons.Extra))

abbrev pub word_said : Option ℕ → ℕ → List TelemetryRow → Option (List ℕ) → List ℕ → List (List ℕ) → Result (List ℕ) TelemetryFault
word_said epoch n rs (Some digits) name ws = packet_said n (hex_said digits) ws
word_said epoch n rs None name ws = named_said epoch n (named rs name) ws

-- the packet that words say, the first being word n: `packet=` and its bytes, or a row's name and its words
unfoldable pub telemetry_said : Option ℕ → ℕ → List TelemetryRow → List (List ℕ) → Result (List ℕ) TelemetryFault
telemetry_said epoch n rs [] = Err (faults.Row (fault_at n reasons.Missing))
telemetry_said epoch n rs (w ∷ ws) = word_said epoch n rs (behind_key (codes "packet") w) w ws

-- whether a row's words say this packet: it has the row's id, and is built again from its content
unfoldable pub shows : List ℕ → TelemetryRow → Bool
shows packet r =
    (message_id packet == r.id) && is_content (content_of packet) && is_row r.fields.now (content_of packet)
    && bytes_eq (packet_of r.id (content_of packet)) packet

-- the first row whose words say a packet
unfoldable pub showing : List TelemetryRow → List ℕ → Option TelemetryRow
showing [] packet = None
showing (r ∷ rs) packet = if shows packet r then Some r else showing rs packet

abbrev pub shown_by : Option TelemetryRow → List ℕ → List ℕ
shown_by (Some r) packet = r.name.now ++ row_shown r.fields.now (content_of packet)
shown_by None packet = codes "packet=" ++ hex packet

-- the words of a packet: a row's name and its words, or all bytes where no row's words say it
unfoldable pub telemetry_shown : List TelemetryRow → List ℕ → List ℕ
telemetry_shown rs packet = shown_by (showing rs packet) packet

-- what is said is the packet; a fault is told only where there is one; and memory may end
abbrev pub GivesPacket : Result (List ℕ) TelemetryFault → Result (List ℕ) ReadError → Type 0
GivesPacket said (Ok packet) = said ≡ Ok packet
GivesPacket said (Err (errors.Memory e)) = Unit {0}
GivesPacket said (Err (errors.Fault fault)) = said ≡ Err fault
