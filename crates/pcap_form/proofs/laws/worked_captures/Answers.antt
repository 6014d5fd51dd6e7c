use Rattle.std.proofs.Common.{refl}
use Rattle.packet_forms.specs.Numbers.{be32_bytes}
use Rattle.pcap_form.specs.Captures.{record_header, stamped}
use Rattle.pcap_form.proofs.laws.worked_captures.Goals as goal

pub returns : goal.returns
unfolding record_header stamped be32_bytes
returns c = record { header = refl; packet = refl }
