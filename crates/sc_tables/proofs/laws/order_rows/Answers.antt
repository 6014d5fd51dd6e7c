use Rattle.std.proofs.Common.{refl}
use Rattle.packet_forms.specs.Numbers.{be16_at, be32_at}
use Rattle.packet_forms.specs.Packets.{length_field, version_of, sequence_flags, is_command, message_id}
use Rattle.sc_tables.specs.Heads.{packet_size, is_command_head, packet_reason, packet_of}
use Rattle.sc_tables.specs.Grammar.{is_end, read_from, read_of}
use Rattle.sc_tables.specs.Absolute.{timed_at, timed_size, timed_reason, stored_ats, comes_before, in_order, ats_of, ats_fault_of}
use Rattle.sc_tables.specs.Relative.{relative_at, relative_size, relative_reason, stored_rts, rts_of, rts_fault_of}
use Rattle.sc_tables.proofs.laws.order_rows.Goals as goal

pub returns : goal.returns
unfolding packet_size is_command_head packet_reason packet_of is_end read_from read_of timed_at timed_size timed_reason stored_ats comes_before in_order ats_of ats_fault_of relative_at relative_size relative_reason stored_rts rts_of rts_fault_of be16_at be32_at length_field version_of sequence_flags is_command message_id
returns c = record {
  times = refl;
  twice = refl;
  relative = refl;
}
