use Rattle.std.proofs.Common.{◌*◌, ◌/◌, arith, length}
use Rattle.packet_forms.proofs.Checks.{rest_more}
use Rattle.packet_forms.proofs.crc.crc16.Goals as goal

pub returns : goal.returns
returns c = rest_more c.args.start c.after_pieces.result c.after_few.result (length c.args.bytes.now / 1024 * 1024) _ c.args.bytes.now (omega arith) c.after_pieces.ensures c.after_few.ensures
