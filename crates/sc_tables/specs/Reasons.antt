-- Why an entry of a sequence is refused.
use Rattle.std.specs.Prelude.{ℕ}
use Rattle.sc_tables.specs.declared.reasons.EntryReason.{EntryReason}
use Rattle.sc_tables.specs.declared.reasons.EntryReason.TheVariants.{Number, Twice, Packet, PastEnd}

-- the number of a reason
abbrev pub reason_number : EntryReason → ℕ
reason_number Number = 1
reason_number Twice = 2
reason_number Packet = 3
reason_number PastEnd = 4
