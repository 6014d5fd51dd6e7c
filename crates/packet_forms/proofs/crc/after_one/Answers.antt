use Rattle.packet_forms.proofs.Checks.{one_byte}
use Rattle.packet_forms.proofs.crc.after_one.Goals as goal

pub returns : goal.returns
returns c = rw c.entry.ensures (one_byte c.args.crc c.args.byte c.ranges.byte.fits)
