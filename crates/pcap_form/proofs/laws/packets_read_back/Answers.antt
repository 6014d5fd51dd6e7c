use Rattle.pcap_form.proofs.CaptureLemmas.{first_back}
use Rattle.pcap_form.proofs.laws.packets_read_back.Goals as goal

pub returns : goal.returns
returns c = first_back
