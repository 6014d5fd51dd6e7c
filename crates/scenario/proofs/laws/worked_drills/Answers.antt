use Rattle.std.proofs.Common.{refl}
use Rattle.std.specs.Fmt.{digits}
use Rattle.packet_forms.specs.Numbers.{be16_bytes, be32_bytes}
use Rattle.packet_forms.specs.Packets.{checksum_of}
use Rattle.packet_forms.specs.Built.{primary_header, with_checksum, command_of}
use Rattle.scenario.specs.Drill.{drawn, upper, drawn_behind, draws_of, counter_line, upset_line, command_drawn, upper_hex, send_line, frame_lines, drill_header}
use Rattle.scenario.proofs.laws.worked_drills.Goals as goal

pub returns : goal.returns
unfolding digits drawn upper drawn_behind draws_of counter_line upset_line command_drawn upper_hex send_line frame_lines drill_header command_of with_checksum primary_header checksum_of be16_bytes be32_bytes
returns c = record { first = refl; second = refl; header = refl; peek = refl; fill = refl; upset = refl }
