-- What the definitions of packets give: when there is no fault, and how what is built reads back.
use Rattle.std.proofs.Common.{◌≡◌, ◌≤◌, ◌<◌, ℕ, zero, suc, replicate, ◌+◌, Bool, true, false, cond, List, [], ◌∷◌, ◌++◌, length, drop, refl, sym, ap, ◌∙◌, arith, eq-eqb, lit<, lit≤, length-append, append_assoc}
use Rattle.std.proofs.lemmas.Bool.Decides.{nat_tests}
use Rattle.std.specs.Prelude.{None, bit_xor}
use Rattle.std.specs.List.{fold}
use Rattle.std.specs.Int.Bits.{xor_assoc, xor_self, xor_zero_r, xor_zero_l}
use Rattle.std.proofs.lemmas.Nat.{xor_comm}
use Rattle.std.proofs.lemmas.List.Sums.{fold-append}
use Rattle.packet_forms.specs.Numbers.{be16_at, be16_bytes, be32_bytes}
use Rattle.packet_forms.specs.Packets.{IsPacket, shortest_packet, message_id, version_of, sequence_flags, sequence_count, length_field, is_command, is_command_id, function_code, checksum_of, is_checksum_right, payload_of}
use Rattle.packet_forms.specs.Faults.{fault_of}
use Rattle.packet_forms.specs.Built.{primary_header, with_checksum, command_of, telemetry_of, event_payload, event_of, with_sequence, IsCommandOf, IsTelemetryOf, IsRecounted}

faultless_long : (bytes : List ℕ) → fault_of bytes ≡ None → 8 ≤ length bytes
unfolding fault_of
faultless_long bytes h = grind (arith, nat_tests)

faultless_short : (bytes : List ℕ) → fault_of bytes ≡ None → length bytes ≤ 256
unfolding fault_of
faultless_short bytes h = grind (arith, nat_tests)

faultless_version : (bytes : List ℕ) → fault_of bytes ≡ None → version_of bytes ≡ 0
unfolding fault_of
faultless_version bytes h = grind (arith, nat_tests)

faultless_whole : (bytes : List ℕ) → fault_of bytes ≡ None → sequence_flags bytes ≡ 3
unfolding fault_of
faultless_whole bytes h = grind (arith, nat_tests)

faultless_field : (bytes : List ℕ) → fault_of bytes ≡ None → length_field bytes + 7 ≡ length bytes
unfolding fault_of
faultless_field bytes h = grind (arith, nat_tests)

-- a list without a fault is a packet
pub packet_of_none : (bytes : List ℕ) → fault_of bytes ≡ None → IsPacket bytes
packet_of_none bytes h = record {
  long = faultless_long bytes h;
  short = faultless_short bytes h;
  version = faultless_version bytes h;
  whole = faultless_whole bytes h;
  field = faultless_field bytes h;
}

-- a packet has no fault
pub none_of_packet : (bytes : List ℕ) → IsPacket bytes → fault_of bytes ≡ None
unfolding fault_of
none_of_packet bytes w =
    let long = w.long in let short = w.short in let version = w.version in let whole = w.whole in let field = w.field in
    grind (arith, nat_tests)

-- the exclusive or of a list from a first number on
fold_xor : (a : ℕ) (xs : List ℕ) → fold bit_xor a xs ≡ bit_xor a (fold bit_xor 0 xs)
fold_xor a [] = sym (xor_zero_r a)
fold_xor a (x ∷ xs) =
    fold_xor (bit_xor a x) xs ∙ xor_assoc a x (fold bit_xor 0 xs)
    ∙ ap (bit_xor a) (sym (fold_xor x xs) ∙ ap (λ (n : ℕ). fold bit_xor n xs) (sym (xor_zero_l x)))

-- the byte between two parts closes their exclusive or to 255
xor_closes : (f b : ℕ) → bit_xor (bit_xor f (bit_xor 255 (bit_xor f b))) b ≡ 255
xor_closes f b =
    xor_assoc f (bit_xor 255 (bit_xor f b)) b
    ∙ ap (bit_xor f) (xor_assoc 255 (bit_xor f b) b ∙ ap (bit_xor 255) (xor_assoc f b b ∙ ap (bit_xor f) (xor_self b) ∙ xor_zero_r f))
    ∙ xor_comm f (bit_xor 255 f) ∙ xor_assoc 255 f f ∙ ap (bit_xor 255) (xor_self f) ∙ xor_zero_r 255

-- the checksum is right where its byte was put in
pub checksum-with_checksum : (front behind : List ℕ) → checksum_of (with_checksum front behind) ≡ 255
unfolding checksum_of with_checksum
checksum-with_checksum front behind =
    let c = bit_xor 255 (bit_xor (fold bit_xor 0 front) (fold bit_xor 0 behind)) in
    fold-append bit_xor 0 front (c ∷ behind)
    ∙ fold_xor (bit_xor (fold bit_xor 0 front) c) behind
    ∙ xor_closes (fold bit_xor 0 front) (fold bit_xor 0 behind)

pub length-primary_header : (id size : ℕ) → length (primary_header id size) ≡ 6
unfolding primary_header be16_bytes
length-primary_header id size = refl

command_form : (id code : ℕ) (payload : List ℕ) → id < 8192 → length payload ≤ 248 → IsPacket (command_of id code payload)
unfolding command_of with_checksum primary_header be16_bytes version_of sequence_flags length_field be16_at
command_form id code payload version size = record {
  long = omega arith;
  short = omega arith;
  version = omega arith;
  whole = refl;
  field = omega arith;
}

pub command_message_id : (id code : ℕ) (payload : List ℕ) → id < 8192 → message_id (command_of id code payload) ≡ id
unfolding message_id command_of with_checksum primary_header be16_bytes be16_at
command_message_id id code payload version = omega arith

command_kind : (id code : ℕ) (payload : List ℕ) → id < 8192 → is_command_id id ≡ true → is_command (command_of id code payload) ≡ true
unfolding is_command
command_kind id code payload version kind = ap is_command_id (command_message_id id code payload version) ∙ kind

command_function_code : (id code : ℕ) (payload : List ℕ) → code ≤ 127 → function_code (command_of id code payload) ≡ code
unfolding function_code command_of with_checksum primary_header be16_bytes
command_function_code id code payload seven = omega arith

command_checksum : (id code : ℕ) (payload : List ℕ) → is_checksum_right (command_of id code payload) ≡ true
unfolding is_checksum_right command_of
command_checksum id code payload = eq-eqb _ _ (checksum-with_checksum (primary_header id (length payload + 8) ++ code ∷ []) payload)

command_count : (id code : ℕ) (payload : List ℕ) → sequence_count (command_of id code payload) ≡ 0
unfolding sequence_count command_of with_checksum primary_header be16_bytes be16_at
command_count id code payload = refl

drop-command : (id code : ℕ) (payload : List ℕ) → drop 8 (command_of id code payload) ≡ payload
unfolding command_of with_checksum primary_header be16_bytes
drop-command id code payload = refl

command_payload : (id code : ℕ) (payload : List ℕ) → id < 8192 → is_command_id id ≡ true → payload_of (command_of id code payload) ≡ payload
unfolding payload_of is_command
command_payload id code payload version kind =
    ap (λ (b : Bool). drop (cond b 8 12) (command_of id code payload)) (ap is_command_id (command_message_id id code payload version) ∙ kind)
    ∙ drop-command id code payload

telemetry_form : (id secs : ℕ) (payload : List ℕ) → id < 8192 → length payload ≤ 244 → IsPacket (telemetry_of id secs payload)
unfolding telemetry_of primary_header be16_bytes be32_bytes version_of sequence_flags length_field be16_at
telemetry_form id secs payload version size = record {
  long = omega arith;
  short = omega arith;
  version = omega arith;
  whole = refl;
  field = omega arith;
}

pub telemetry_message_id : (id secs : ℕ) (payload : List ℕ) → id < 8192 → message_id (telemetry_of id secs payload) ≡ id
unfolding message_id telemetry_of primary_header be16_bytes be32_bytes be16_at
telemetry_message_id id secs payload version = omega arith

telemetry_kind : (id secs : ℕ) (payload : List ℕ) → id < 8192 → is_command (telemetry_of id secs payload) ≡ is_command_id id
unfolding is_command
telemetry_kind id secs payload version = ap is_command_id (telemetry_message_id id secs payload version)

telemetry_count : (id secs : ℕ) (payload : List ℕ) → sequence_count (telemetry_of id secs payload) ≡ 0
unfolding sequence_count telemetry_of primary_header be16_bytes be32_bytes be16_at
telemetry_count id secs payload = refl

drop-telemetry : (id secs : ℕ) (payload : List ℕ) → drop 12 (telemetry_of id secs payload) ≡ payload
unfolding telemetry_of primary_header be16_bytes be32_bytes
drop-telemetry id secs payload = refl

telemetry_payload : (id secs : ℕ) (payload : List ℕ) → id < 8192 → is_command_id id ≡ false → payload_of (telemetry_of id secs payload) ≡ payload
unfolding payload_of is_command
telemetry_payload id secs payload version kind =
    ap (λ (b : Bool). drop (cond b 8 12) (telemetry_of id secs payload)) (ap is_command_id (telemetry_message_id id secs payload version) ∙ kind)
    ∙ drop-telemetry id secs payload

-- a command reads back as what it was built from
pub command_reads_back : (id code : ℕ) (payload : List ℕ) → id < 8192 → is_command_id id ≡ true → code ≤ 127 → length payload ≤ 248 → IsCommandOf id code payload (command_of id code payload)
command_reads_back id code payload version kind seven size = record {
  form = command_form id code payload version size;
  id = command_message_id id code payload version;
  kind = command_kind id code payload version kind;
  code = command_function_code id code payload seven;
  checksum = command_checksum id code payload;
  payload = command_payload id code payload version kind;
  count = command_count id code payload;
}

-- telemetry reads back as what it was built from
pub telemetry_reads_back : (id secs : ℕ) (payload : List ℕ) → id < 8192 → length payload ≤ 244 → IsTelemetryOf id payload (telemetry_of id secs payload)
telemetry_reads_back id secs payload version size = record {
  form = telemetry_form id secs payload version size;
  id = telemetry_message_id id secs payload version;
  kind = telemetry_kind id secs payload version;
  payload = telemetry_payload id secs payload version;
  count = telemetry_count id secs payload;
}

pub length-event_payload : (name : List ℕ) (id kind : ℕ) → length (event_payload name id kind) ≡ length name + 12
unfolding event_payload be16_bytes be32_bytes
length-event_payload name id kind = simp length-append (omega arith)

pub event_reads_back : (name : List ℕ) (id kind secs : ℕ) → length name ≡ 20 → IsTelemetryOf 0x0808 (event_payload name id kind) (event_of name id kind secs)
unfolding event_of
event_reads_back name id kind secs size =
    telemetry_reads_back 0x0808 secs (event_payload name id kind) (lit< tt) (rw (length-event_payload name id kind, size) (lit≤ tt))

pub telemetry_is : (id secs : ℕ) (payload : List ℕ) → (primary_header id (length payload + 12) ++ (be32_bytes secs ++ be16_bytes 0)) ++ payload ≡ telemetry_of id secs payload
unfolding telemetry_of be32_bytes be16_bytes primary_header
telemetry_is id secs payload = append_assoc (primary_header id (length payload + 12)) (be32_bytes secs ++ be16_bytes 0) payload

pub event_is : (name : List ℕ) (id kind secs : ℕ) → length name ≡ 20 → ((primary_header 0x0808 44 ++ (be32_bytes secs ++ be16_bytes 0)) ++ name) ++ (be16_bytes id ++ be16_bytes kind ++ be32_bytes 66 ++ be32_bytes 1) ≡ event_of name id kind secs
unfolding event_of event_payload
event_is name id kind secs size =
    let n : length (event_payload name id kind) + 12 ≡ 44 = ap (λ (k : ℕ). k + 12) (length-event_payload name id kind ∙ ap (λ (k : ℕ). k + 12) size) in
    append_assoc (primary_header 0x0808 44 ++ (be32_bytes secs ++ be16_bytes 0)) name (be16_bytes id ++ be16_bytes kind ++ be32_bytes 66 ++ be32_bytes 1)
    ∙ payload_last
    ∙ ap (λ (k : ℕ). (primary_header 0x0808 k ++ (be32_bytes secs ++ be16_bytes 0)) ++ event_payload name id kind) (sym n)
    ∙ telemetry_is 0x0808 secs (event_payload name id kind)
  where
    payload_last : (primary_header 0x0808 44 ++ (be32_bytes secs ++ be16_bytes 0)) ++ (name ++ (be16_bytes id ++ be16_bytes kind ++ be32_bytes 66 ++ be32_bytes 1)) ≡ (primary_header 0x0808 44 ++ (be32_bytes secs ++ be16_bytes 0)) ++ event_payload name id kind
    payload_last = ap (λ (rest : List ℕ). (primary_header 0x0808 44 ++ (be32_bytes secs ++ be16_bytes 0)) ++ rest) (simp append_assoc)

-- a command, piece after piece
pub command_is : (id code : ℕ) (payload front : List ℕ) (sum rest : ℕ) → front ≡ primary_header id (length payload + 8) ++ code ∷ [] → sum ≡ checksum_of front → rest ≡ checksum_of payload → (front ++ bit_xor 255 (bit_xor sum rest) ∷ []) ++ payload ≡ command_of id code payload
unfolding command_of with_checksum
command_is id code payload front sum rest e f g = rw (f, g, e, append_assoc) refl

-- only the sequence count changes
pub recounted : (n : ℕ) (p : List ℕ) → n < 16384 → IsPacket p → IsRecounted n p (with_sequence n p)
unfolding with_sequence be16_bytes be16_at version_of sequence_flags sequence_count length_field message_id
recounted n (a ∷ b ∷ c ∷ d ∷ rest) small w = record {
  form = record {
    long = w.long;
    short = w.short;
    version = w.version;
    whole = omega arith;
    field = w.field;
  };
  id = refl;
  size = refl;
  count = omega arith;
  behind = refl;
}
recounted n _ small w = absurd (omega arith)

-- the shortest packet is one
pub shortest : IsPacket shortest_packet
unfolding version_of sequence_flags length_field be16_at
shortest = record { long = lit≤ tt; short = lit≤ tt; version = refl; whole = refl; field = refl }

-- zeros behind a list change nothing in its exclusive or
pub checksum_padded : (bytes : List ℕ) (n : ℕ) → checksum_of (bytes ++ replicate n 0) ≡ checksum_of bytes
unfolding checksum_of
checksum_padded bytes n = fold-append bit_xor 0 bytes (replicate n 0) ∙ zeros_kept (fold bit_xor 0 bytes) n
  where
    zeros_kept : (a n : ℕ) → fold bit_xor a (replicate n 0) ≡ a
    zeros_kept a zero = refl
    zeros_kept a (suc n) = ap (λ (k : ℕ). fold bit_xor k (replicate n 0)) (xor_zero_r a) ∙ zeros_kept a n
