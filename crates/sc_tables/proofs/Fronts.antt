-- A command packet without a reason to be refused is a packet, and lies in the bytes that it begins.
use Rattle.std.proofs.Common.{◌≡◌, ℕ, ◌+◌, ◌/◌, ◌<◌, ◌≤◌, Bool, true, false, not, List, [], length, take, drop, Option, Some, None, refl, sym, ◌∙◌, ap, arith, length-take-le, get_or-take, length-drop}
use Rattle.std.specs.Prelude.{if◌then◌else◌, nat_lt, is_none, slice_index}
use Rattle.std.proofs.lemmas.Bool.{and_parts, leb-true, ltb-false, eqb-true}
use Rattle.packet_forms.specs.Numbers.{be16_at}
use Rattle.packet_forms.specs.Packets.{IsPacket, message_id, version_of, sequence_flags, is_command, length_field}
use Rattle.packet_forms.proofs.Forms.{none_of_packet}
use Rattle.packet_forms.specs.Faults.{fault_of}
use Rattle.sc_tables.specs.declared.absolute.Timed.{Timed}
use Rattle.sc_tables.specs.declared.reasons.EntryReason.{EntryReason}
use Rattle.sc_tables.specs.declared.reasons.EntryReason.TheVariants.{Number, Twice, Packet, PastEnd}
use Rattle.sc_tables.specs.Heads.{packet_size, is_command_head, packet_reason, packet_of}
use Rattle.sc_tables.specs.Absolute.{is_command_number, is_used, timed_reason, timed_size}
use Rattle.sc_tables.specs.Relative.{relative_reason, relative_size}

pub record IsFront (bytes : List ℕ) : Type 0 where
  pub version : version_of bytes ≡ 0
  pub flags : sequence_flags bytes ≡ 3
  pub command : is_command bytes ≡ true
  pub least : 8 ≤ packet_size bytes
  pub most : packet_size bytes ≤ 256
  pub whole : packet_size bytes ≤ length bytes

-- no reason was found by two tests, or by one
two_pass : (head long : Bool) → is_none {T = EntryReason} (if not head then Some Packet else if long then Some PastEnd else None) ≡ true → (head ≡ true) × (long ≡ false)
two_pass true true none = cc
two_pass true false none = (refl, refl)
two_pass false long none = cc

one_passes : (short : Bool) (rest : Option EntryReason) → is_none (if short then Some PastEnd else rest) ≡ true → (short ≡ false) × (is_none rest ≡ true)
one_passes true rest none = cc
one_passes false rest none = (refl, none)

three_pass : (short number used : Bool) (rest : Option EntryReason) → is_none (if short then Some PastEnd else if not number then Some Number else if used then Some Twice else rest) ≡ true
    → (short ≡ false) × (number ≡ true) × (used ≡ false) × (is_none rest ≡ true)
three_pass true number used rest none = cc
three_pass false true true rest none = cc
three_pass false true false rest none = (refl, refl, refl, none)
three_pass false false used rest none = cc

pub front_of : (bytes : List ℕ) → is_none (packet_reason bytes) ≡ true → IsFront bytes
unfolding packet_reason is_command_head
front_of bytes none =
    let passed = two_pass (is_command_head bytes) (nat_lt (length bytes) (packet_size bytes)) none in
    let all : is_command_head bytes ≡ true = passed.0 in
    let most = and_parts _ _ all in
    let least = and_parts _ _ most.0 in
    let command = and_parts _ _ least.0 in
    let flags = and_parts _ _ command.0 in
    record {
      version = eqb-true _ 0 flags.0;
      flags = eqb-true _ 3 flags.1;
      command = command.1;
      least = leb-true 8 _ least.1;
      most = leb-true _ 256 most.1;
      whole = ltb-false _ _ passed.1;
    }

-- the first bytes of a packet that is cut out are those with which it began
kept : (n : ℕ) (bytes : List ℕ) (i : ℕ) → i < n → slice_index (take n bytes) i ≡ slice_index bytes i
kept n bytes i below = get_or-take n bytes i 0 below

pub version_kept : (p q : List ℕ) → slice_index q 0 ≡ slice_index p 0 → version_of q ≡ version_of p
unfolding version_of
version_kept p q same = ap (λ b. b / 32) same

pub flags_kept : (p q : List ℕ) → slice_index q 2 ≡ slice_index p 2 → sequence_flags q ≡ sequence_flags p
unfolding sequence_flags
flags_kept p q same = ap (λ b. b / 64) same

pub command_kept : (p q : List ℕ) → slice_index q 0 ≡ slice_index p 0 → slice_index q 1 ≡ slice_index p 1 → is_command q ≡ is_command p
unfolding is_command message_id be16_at
command_kept p q high low = rw (high, low) refl

pub field_kept : (p q : List ℕ) → slice_index q 4 ≡ slice_index p 4 → slice_index q 5 ≡ slice_index p 5 → length_field q + 7 ≡ packet_size p
unfolding length_field be16_at packet_size
field_kept p q high low = omega arith

-- what is cut out is a packet, a command
pub front_packet : (bytes : List ℕ) → IsFront bytes → IsPacket (packet_of bytes)
unfolding packet_of
front_packet bytes front =
    let n = packet_size bytes in
    let long : length (take n bytes) ≡ n = length-take-le n bytes front.whole in
    record {
      long = rw long front.least;
      short = rw long front.most;
      version = version_kept bytes (take n bytes) (kept n bytes 0 (omega arith)) ∙ front.version;
      whole = flags_kept bytes (take n bytes) (kept n bytes 2 (omega arith)) ∙ front.flags;
      field = field_kept bytes (take n bytes) (kept n bytes 4 (omega arith)) (kept n bytes 5 (omega arith)) ∙ sym long;
    }

pub front_command : (bytes : List ℕ) → IsFront bytes → is_command (packet_of bytes) ≡ true
unfolding packet_of
front_command bytes front =
    command_kept bytes (take (packet_size bytes) bytes) (kept (packet_size bytes) bytes 0 (omega arith)) (kept (packet_size bytes) bytes 1 (omega arith)) ∙ front.command

pub front_sound : (bytes : List ℕ) → IsFront bytes → fault_of (packet_of bytes) ≡ None
front_sound bytes front = none_of_packet (packet_of bytes) (front_packet bytes front)

-- what an entry has that isn't refused
pub record IsTimedFront (bytes : List ℕ) : Type 0 where
  pub long : 14 ≤ length bytes
  pub least : 1 ≤ be16_at bytes 0
  pub most : be16_at bytes 0 ≤ 1000
  pub sound : is_none (packet_reason (drop 6 bytes)) ≡ true
  pub front : IsFront (drop 6 bytes)

pub timed_front : (done : List Timed) (bytes : List ℕ) → is_none (timed_reason done bytes) ≡ true → IsTimedFront bytes
unfolding timed_reason
timed_front done bytes none =
    let passed = three_pass (nat_lt (length bytes) 14) (is_command_number (be16_at bytes 0)) (is_used (be16_at bytes 0) done) (packet_reason (drop 6 bytes)) none in
    let number = and_parts _ _ passed.1 in
    record {
      long = ltb-false _ 14 passed.0;
      least = leb-true 1 _ number.0;
      most = leb-true _ 1000 number.1;
      sound = passed.3;
      front = front_of (drop 6 bytes) passed.3;
    }

-- its number isn't used before it, and it isn't refused where nothing stands before it
pub timed_unused : (done : List Timed) (bytes : List ℕ) → is_none (timed_reason done bytes) ≡ true → is_used (be16_at bytes 0) done ≡ false
unfolding timed_reason
timed_unused done bytes none =
    (three_pass (nat_lt (length bytes) 14) (is_command_number (be16_at bytes 0)) (is_used (be16_at bytes 0) done) (packet_reason (drop 6 bytes)) none).2

alone : (short number used : Bool) (rest : Option EntryReason) → is_none (if short then Some PastEnd else if not number then Some Number else if used then Some Twice else rest) ≡ true
    → is_none (if short then Some PastEnd else if not number then Some Number else if false then Some Twice else rest) ≡ true
alone true number used rest none = cc
alone false true true rest none = cc
alone false true false rest none = none
alone false false used rest none = cc

pub timed_alone : (done : List Timed) (bytes : List ℕ) → is_none (timed_reason done bytes) ≡ true → is_none (timed_reason [] bytes) ≡ true
unfolding timed_reason
timed_alone done bytes none = alone (nat_lt (length bytes) 14) (is_command_number (be16_at bytes 0)) (is_used (be16_at bytes 0) done) (packet_reason (drop 6 bytes)) none

-- how many bytes it has
pub record IsSized (fewest largest size : ℕ) (bytes : List ℕ) : Type 0 where
  pub least : fewest ≤ size
  pub most : size ≤ largest
  pub within : size ≤ length bytes

pub timed_sized : (bytes : List ℕ) → IsTimedFront bytes → IsSized 14 262 (timed_size bytes) bytes
unfolding timed_size
timed_sized bytes it = let cut = length-drop 6 bytes in record { least = omega arith; most = omega arith; within = omega arith }

pub record IsRelativeFront (bytes : List ℕ) : Type 0 where
  pub long : 10 ≤ length bytes
  pub sound : is_none (packet_reason (drop 2 bytes)) ≡ true
  pub front : IsFront (drop 2 bytes)

pub relative_front : (bytes : List ℕ) → is_none (relative_reason bytes) ≡ true → IsRelativeFront bytes
unfolding relative_reason
relative_front bytes none =
    let passed = one_passes (nat_lt (length bytes) 10) (packet_reason (drop 2 bytes)) none in
    record { long = ltb-false _ 10 passed.0; sound = passed.1; front = front_of (drop 2 bytes) passed.1 }

pub relative_sized : (bytes : List ℕ) → IsRelativeFront bytes → IsSized 10 258 (relative_size bytes) bytes
unfolding relative_size
relative_sized bytes it = let cut = length-drop 2 bytes in record { least = omega arith; most = omega arith; within = omega arith }
