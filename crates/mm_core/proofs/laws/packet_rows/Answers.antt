use Rattle.std.proofs.Common.{refl}
use Rattle.packet_forms.specs.Numbers.{be16_bytes, be32_bytes}
use Rattle.packet_forms.specs.Built.{telemetry_of, primary_header}
use Rattle.histories.specs.Masks.{bits_of}
use Rattle.mm_core.specs.Reading.{protection_of}
use Rattle.mm_core.specs.Housekeeping.{open_regions, housekeeping_of}
use Rattle.mm_core.specs.Answers.{peek_packet, dump_packet, dump_items}
use Rattle.mm_core.proofs.laws.packet_rows.Goals as goal

pub returns : goal.returns
unfolding be16_bytes be32_bytes telemetry_of primary_header bits_of protection_of open_regions housekeeping_of peek_packet dump_packet dump_items
returns c = record {
  housekeeping = refl;
  peek = refl;
  dump = refl;
  dump_parts = refl;
  dump_counts = refl;
}
