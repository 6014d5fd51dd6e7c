use Rattle.packet_forms.proofs.Checks.{crc_none, crc_both}
use Rattle.packet_forms.proofs.laws.checks_go_on.Goals as goal

pub returns : goal.returns
returns c = record { none = crc_none; both = crc_both }
