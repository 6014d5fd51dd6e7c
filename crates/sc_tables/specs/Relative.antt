-- Relative time sequences: commands with the seconds that pass before they leave.
use Rattle.std.specs.Prelude.{ℕ, ◌+◌, nat_lt, if◌then◌else◌, List, length, drop, Option, Some, Result}
use Rattle.packet_forms.specs.Numbers.{be16_at}
use Rattle.packet_forms.specs.Packets.{shortest_packet}
use Rattle.table_files.specs.declared.fault.EntryFault.{EntryFault}
use Rattle.sc_tables.specs.declared.relative.Relative.{Relative}
use Rattle.sc_tables.specs.declared.reasons.EntryReason.{EntryReason}
use Rattle.sc_tables.specs.declared.reasons.EntryReason.TheVariants.{PastEnd}
use Rattle.sc_tables.specs.Heads.{packet_size, packet_reason, packet_of}
use Rattle.sc_tables.specs.Grammar.{EntryForm, read_of, fault_in, entries_in}

-- The command of an entry: its seconds u16, and its packet.
unfoldable pub relative_at : List ℕ → Relative
relative_at bytes = record { tag = be16_at bytes 0; packet = packet_of (drop 2 bytes) }

unfoldable pub relative_size : List ℕ → ℕ
relative_size bytes = 2 + packet_size (drop 2 bytes)

-- The first reason to refuse an entry, whatever stands before it.
unfoldable pub relative_reason : List ℕ → Option EntryReason
relative_reason bytes = if nat_lt (length bytes) 10 then Some PastEnd else packet_reason (drop 2 bytes)

abbrev pub relative_form : EntryForm Relative
relative_form = record { reason = λ done bytes. relative_reason bytes; entry = relative_at; size = relative_size }

-- The commands of a payload as they are stored, or its first faulty entry.
unfoldable pub stored_rts : List ℕ → Result (List Relative) EntryFault
stored_rts payload = read_of relative_form payload

-- The commands of a payload without a faulty entry, as they are stored.
unfoldable pub rts_of : List ℕ → List Relative
rts_of payload = entries_in (stored_rts payload)

-- The fault of a payload: its first faulty entry.
unfoldable pub rts_fault_of : List ℕ → Option EntryFault
rts_fault_of payload = fault_in (stored_rts payload)

-- What stands where there is no command.
abbrev pub no_relative : Relative
no_relative = record { tag = 0; packet = shortest_packet }
