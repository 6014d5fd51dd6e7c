-- The grammar of payloads the other way round: how commands are spelled.
use Rattle.std.specs.Prelude.{◌≡◌, ℕ, ◌<◌, ◌≤◌, ◌+◌, ◌^◌, true, false, List, ◌++◌, length, replicate, nat_eq, Some}
use Rattle.std.specs.List.{All, flat_map, IsDistinct}
use Rattle.packet_forms.specs.Numbers.{be16_bytes, be32_bytes}
use Rattle.packet_forms.specs.Packets.{IsPacket, is_command}
use Rattle.table_files.specs.declared.fault.EntryFault.{EntryFault}
use Rattle.sc_tables.specs.declared.reasons.EntryReason.{EntryReason}
use Rattle.sc_tables.specs.declared.absolute.Timed.{Timed}
use Rattle.sc_tables.specs.declared.relative.Relative.{Relative}
use Rattle.sc_tables.specs.Reasons.{reason_number}
use Rattle.sc_tables.specs.Grammar.{EntryForm, is_end}
use Rattle.sc_tables.specs.Absolute.{numbers_of}

-- a command of an absolute time sequence, and its bytes
pub record IsTimed (c : Timed) : Type 0 where
  pub least : 1 ≤ c.number
  pub most : c.number ≤ 1000
  pub time : c.tag < 2 ^ 32
  pub packet : IsPacket c.packet
  pub command : is_command c.packet ≡ true

unfoldable pub timed_spelled : Timed → List ℕ
timed_spelled c = be16_bytes c.number ++ (be32_bytes c.tag ++ c.packet)

-- a command of a relative one, and its bytes
pub record IsRelative (c : Relative) : Type 0 where
  pub seconds : c.tag < 2 ^ 16
  pub packet : IsPacket c.packet
  pub command : is_command c.packet ≡ true

unfoldable pub relative_spelled : Relative → List ℕ
relative_spelled c = be16_bytes c.tag ++ c.packet

-- commands that a sequence may have together: no two of an absolute one have one number
pub record AreTimed (commands : List Timed) : Type 0 where
  pub each : All IsTimed commands
  pub apart : IsDistinct nat_eq (numbers_of commands)

abbrev pub AreRelative : List Relative → Type 0
AreRelative commands = All IsRelative commands

-- the payload spells these entries one after another, with nothing but zero bytes behind them
pub record Spells {E : Type 0} (spelled : E → List ℕ) (AreGood : List E → Type 0) (payload : List ℕ) (entries : List E) : Type 0 where
  pub zeros : ℕ
  pub bytes : payload ≡ flat_map spelled entries ++ replicate zeros 0
  pub good : AreGood entries

-- the payload spells entries, and behind them stands something else: the faulty entry
pub record Fails {E : Type 0} (form : EntryForm E) (spelled : E → List ℕ) (AreGood : List E → Type 0) (payload : List ℕ) (fault : EntryFault) : Type 0 where
  pub entries : List E
  pub rest : List ℕ
  pub reason : EntryReason
  pub bytes : payload ≡ flat_map spelled entries ++ rest
  pub good : AreGood entries
  pub going : is_end rest ≡ false
  pub refused : form.reason entries rest ≡ Some reason
  pub entry : fault.entry ≡ length entries + 1
  pub number : fault.reason ≡ reason_number reason
