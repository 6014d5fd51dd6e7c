use Rattle.pcap_form.proofs.CaptureLemmas.{all_back}
use Rattle.pcap_form.proofs.laws.captures_read_back.Goals as goal

pub returns : goal.returns
returns c = all_back
