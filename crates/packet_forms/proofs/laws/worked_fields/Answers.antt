use Rattle.std.proofs.Common.{refl}
use Rattle.packet_forms.specs.Numbers.{be16_at}
use Rattle.packet_forms.specs.Packets.{message_id, version_of, is_command, sequence_flags, sequence_count, length_field, function_code, checksum_of, is_checksum_right, payload_of}
use Rattle.packet_forms.proofs.laws.worked_fields.Goals as goal

pub returns : goal.returns
unfolding be16_at message_id version_of is_command sequence_flags sequence_count length_field function_code checksum_of is_checksum_right payload_of
returns c = record { id = refl; version = refl; kind = refl; flags = refl; count = refl; field = refl; code = refl; checksum = refl; payload = refl }
