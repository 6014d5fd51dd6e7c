-- What Memory Manager makes of a load in words.
use Rattle.std.specs.Prelude.{◌≡◌, ℕ, true, ◌&&◌, nat_le, List, length, slice_index, Option, Some}
use Rattle.packet_forms.specs.Crc.{crc_of}
use Rattle.packet_forms.specs.MessageIds.{mm_command}
use Rattle.packet_forms.specs.Packets.{message_id, function_code, is_checksum_right, payload_of}
use Rattle.commands.specs.Rows.{row_of, is_allowed}
use Rattle.mm_core.specs.Messages.{mm_codes}
use Rattle.mm_core.specs.Instructions.{instruction_of}
use Rattle.mm_core.specs.Decoded.{to_load}

-- A packet is a load at the address that the words say, of some bytes with the check of these bytes, which Memory Manager takes
-- exactly where they are 1 to 200.
pub record IsLoadDecoded (numbers : Option (List ℕ)) (packet : List ℕ) : Type 0 where
  pub id : message_id packet ≡ mm_command
  pub number : function_code packet ≡ 4
  pub checksum : is_checksum_right packet ≡ true
  pub part : List ℕ
  pub allowed : is_allowed (row_of mm_codes 4) (payload_of packet) ≡ (nat_le 1 (length part) && nat_le (length part) 200)
  pub decoded : (ns : List ℕ) → numbers ≡ Some ns → instruction_of 4 (payload_of packet) ≡ to_load (slice_index ns 0) (crc_of 0 part) part
