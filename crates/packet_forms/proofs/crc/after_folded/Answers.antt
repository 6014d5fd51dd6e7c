use Rattle.std.proofs.Common.{◌*◌, ◌/◌, arith, length}
use Rattle.packet_forms.proofs.Checks.{rest_more}
use Rattle.packet_forms.proofs.crc.after_folded.Goals as goal

pub returns : goal.returns
returns c = rest_more c.args.start c.after_words.result c.after_each.result (length c.args.bytes.now / 2 * 2) _ c.args.bytes.now (omega arith) c.after_words.ensures c.after_each.ensures
