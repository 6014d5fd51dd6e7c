-- Telecommands: what words say as a packet, and the words that a packet has.
use Rattle.std.specs.Prelude.{◌≡◌, ℕ, ◌+◌, ◌==◌, Bool, true, ◌&&◌, not, if◌then◌else◌, nat_lt, nat_le, List, [], ◌∷◌, ◌++◌, length, codes, Option, Some, None, is_none, Result, Ok, Err}
use Rattle.std.specs.List.{list_all}
use Rattle.std.specs.Str.{bytes_eq}
use Rattle.packet_forms.specs.Built.{command_of}
use Rattle.packet_forms.specs.Faults.{fault_of}
use Rattle.packet_forms.specs.Hex.{hex}
use Rattle.packet_forms.specs.Packets.{message_id, is_command_id, function_code, payload_of}
use Rattle.packet_forms.specs.declared.packet.PacketFault.{PacketFault}
use Rattle.row_forms.specs.Words.{hex_said}
use Rattle.row_forms.specs.Rows.{behind_key, fault_at, row_said, row_shown, is_row, are_fields}
use Rattle.row_forms.specs.declared.fault.Reason.TheVariants as reasons
use Rattle.row_forms.specs.declared.fault.RowFault.{RowFault}
use Rattle.telecommands.specs.declared.command.Command.{Command}
use Rattle.telecommands.specs.declared.fault.CommandFault.{CommandFault}
use Rattle.telecommands.specs.declared.fault.CommandFault.TheVariants as faults
use Rattle.telecommands.specs.declared.fault.ReadError.{ReadError}
use Rattle.telecommands.specs.declared.fault.ReadError.TheVariants as errors

-- a name that is one word, and no word `packet=..`
abbrev pub is_command_name : List ℕ → Bool
is_command_name name = nat_lt 0 (length name) && list_all (nat_lt 32) name && is_none (behind_key (codes "packet") name)

-- a command that can be built, read and shown
unfoldable pub is_good : Command → Bool
is_good c =
    is_command_name c.name.now && nat_lt c.id 8192 && is_command_id c.id && nat_le c.code 127
    && nat_lt (length c.fields.now) 65536 && are_fields c.fields.now

unfoldable pub are_good : List Command → Bool
are_good cs = list_all is_good cs

-- no two commands have one name
unfoldable pub are_distinct : List Command → Bool
are_distinct [] = true
are_distinct (c ∷ cs) = list_all (λ d. not (bytes_eq d.name.now c.name.now)) cs && are_distinct cs

-- the first command of a name
unfoldable pub named : List Command → List ℕ → Option Command
named [] name = None
named (c ∷ cs) name = if bytes_eq c.name.now name then Some c else named cs name

-- the packet of a command with this payload
abbrev pub sent : Command → Result (List ℕ) RowFault → Result (List ℕ) CommandFault
sent c (Ok payload) = if nat_le (length payload) 248 then Ok (command_of c.id c.code payload) else Err faults.Long
sent c (Err fault) = Err (faults.Row fault)

abbrev pub named_said : Option ℕ → ℕ → Option Command → List (List ℕ) → Result (List ℕ) CommandFault
named_said epoch n (Some c) ws = sent c (row_said epoch (n + 1) c.fields.now ws)
named_said epoch n None ws = Err (faults.Name n)

abbrev pub whole_packet : ℕ → List ℕ → Option PacketFault → Result (List ℕ) CommandFault
whole_packet n bytes None = Ok bytes
whole_packet n bytes (Some fault) = Err (faults.Packet n fault)

-- the packet of hexadecimal digits, behind which no word stands
abbrev pub packet_said : ℕ → Option (List ℕ) → List (List ℕ) → Result (List ℕ) CommandFault
packet_said n None ws = Err (faults.Row (fault_at n reasons.Block))
packet_said n (Some bytes) [] = whole_packet n bytes (fault_of bytes)
packet_said n (Some bytes) (w ∷ ws) = Err (faults.Row (fault_at (n + 1) reasons.Extra))

abbrev pub word_said : Option ℕ → ℕ → List Command → Option (List ℕ) → List ℕ → List (List ℕ) → Result (List ℕ) CommandFault
word_said epoch n cs (Some digits) name ws = packet_said n (hex_said digits) ws
word_said epoch n cs None name ws = named_said epoch n (named cs name) ws

-- the packet that words say, the first being word n: `packet=` and its bytes, or a command's name and its row
unfoldable pub command_said : Option ℕ → ℕ → List Command → List (List ℕ) → Result (List ℕ) CommandFault
command_said epoch n cs [] = Err (faults.Row (fault_at n reasons.Missing))
command_said epoch n cs (w ∷ ws) = word_said epoch n cs (behind_key (codes "packet") w) w ws

-- whether a command's words say this packet: it has the command's id and code, and is built again from its payload
unfoldable pub shows : List ℕ → Command → Bool
shows packet c =
    (message_id packet == c.id) && (function_code packet == c.code) && is_row c.fields.now (payload_of packet)
    && bytes_eq (command_of c.id c.code (payload_of packet)) packet

-- the first command whose words say a packet
unfoldable pub showing : List Command → List ℕ → Option Command
showing [] packet = None
showing (c ∷ cs) packet = if shows packet c then Some c else showing cs packet

abbrev pub shown_by : Option Command → List ℕ → List ℕ
shown_by (Some c) packet = c.name.now ++ row_shown c.fields.now (payload_of packet)
shown_by None packet = codes "packet=" ++ hex packet

-- the words of a packet: a command's name and its row, or all bytes where no command's words say it
unfoldable pub command_shown : List Command → List ℕ → List ℕ
command_shown cs packet = shown_by (showing cs packet) packet

-- what is said is the packet; a fault is told only where there is one; and memory may end
abbrev pub GivesPacket : Result (List ℕ) CommandFault → Result (List ℕ) ReadError → Type 0
GivesPacket said (Ok packet) = said ≡ Ok packet
GivesPacket said (Err (errors.Memory e)) = Unit {0}
GivesPacket said (Err (errors.Fault fault)) = said ≡ Err fault
