-- Absolute time sequences: commands with the time at which they leave.
use Rattle.std.specs.Prelude.{ℕ, ◌+◌, ◌==◌, Bool, not, ◌&&◌, ◌||◌, nat_eq, nat_le, nat_lt, if◌then◌else◌, List, [], ◌∷◌, length, map, drop, Option, Some, Result}
use Rattle.std.specs.List.{list_any}
use Rattle.packet_forms.specs.Numbers.{be16_at, be32_at}
use Rattle.packet_forms.specs.Packets.{shortest_packet}
use Rattle.table_files.specs.declared.fault.EntryFault.{EntryFault}
use Rattle.sc_tables.specs.declared.absolute.Timed.{Timed}
use Rattle.sc_tables.specs.declared.reasons.EntryReason.{EntryReason}
use Rattle.sc_tables.specs.declared.reasons.EntryReason.TheVariants.{Number, Twice, PastEnd}
use Rattle.sc_tables.specs.Heads.{packet_size, packet_reason, packet_of}
use Rattle.sc_tables.specs.Grammar.{EntryForm, read_of, fault_in, entries_in}

-- The command of an entry: its number u16, its time u32, and its packet.
unfoldable pub timed_at : List ℕ → Timed
timed_at bytes = record { number = be16_at bytes 0; tag = be32_at bytes 2; packet = packet_of (drop 6 bytes) }

unfoldable pub timed_size : List ℕ → ℕ
timed_size bytes = 6 + packet_size (drop 6 bytes)

-- A number that a command may have: 1 to 1,000.
abbrev pub is_command_number : ℕ → Bool
is_command_number n = nat_le 1 n && nat_le n 1000

abbrev pub numbers_of : List Timed → List ℕ
numbers_of commands = map (λ c. c.number) commands

-- Whether a number is used by one of these commands.
abbrev pub is_used : ℕ → List Timed → Bool
is_used n commands = list_any (nat_eq n) (numbers_of commands)

-- The first reason to refuse an entry behind these commands.
unfoldable pub timed_reason : List Timed → List ℕ → Option EntryReason
timed_reason done bytes =
    if nat_lt (length bytes) 14 then Some PastEnd
    else if not (is_command_number (be16_at bytes 0)) then Some Number
    else if is_used (be16_at bytes 0) done then Some Twice
    else packet_reason (drop 6 bytes)

abbrev pub timed_form : EntryForm Timed
timed_form = record { reason = timed_reason; entry = timed_at; size = timed_size }

-- The commands of a payload as they are stored, or its first faulty entry.
unfoldable pub stored_ats : List ℕ → Result (List Timed) EntryFault
stored_ats payload = read_of timed_form payload

-- A command comes before another by its time, and at one time by its number.
unfoldable pub comes_before : Timed → Timed → Bool
comes_before a b = nat_lt a.tag b.tag || ((a.tag == b.tag) && nat_lt a.number b.number)

-- The commands in that order: each is put in front of the first that it comes before.
abbrev pub put_in : Timed → List Timed → List Timed
put_in a [] = a ∷ []
put_in a (b ∷ commands) = if comes_before b a then b ∷ put_in a commands else a ∷ b ∷ commands

unfoldable pub in_order : List Timed → List Timed
in_order [] = []
in_order (a ∷ commands) = put_in a (in_order commands)

-- The commands of a payload without a faulty entry, by time and then by number.
unfoldable pub ats_of : List ℕ → List Timed
ats_of payload = in_order (entries_in (stored_ats payload))

-- The fault of a payload: its first faulty entry.
unfoldable pub ats_fault_of : List ℕ → Option EntryFault
ats_fault_of payload = fault_in (stored_ats payload)

-- What stands where there is no command.
abbrev pub no_timed : Timed
no_timed = record { number = 0; tag = 0; packet = shortest_packet }
