use Rattle.std.proofs.Common.{◌*◌, ◌/◌, arith, length}
use Rattle.packet_forms.proofs.Checks.{rest_more}
use Rattle.packet_forms.proofs.crc.after_looked_up.Goals as goal

pub returns : goal.returns
returns c = rest_more c.args.start c.after_blocks.result c.after_each.result (length c.args.bytes.now / 8 * 8) _ c.args.bytes.now (omega arith) c.after_blocks.ensures c.after_each.ensures
