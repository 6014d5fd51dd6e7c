use Rattle.std.proofs.Common.{arith}
use Rattle.packet_log.proofs.Blocks.{puts_whole, puts_none}
use Rattle.packet_log.proofs.block.Block.write.Goals as goal

pub returns-then-bytes-len-clause-puts : goal.returns-then-bytes-len-clause-puts
returns-then-bytes-len-clause-puts g c = puts_whole c.args.self.now c.append.new.self c.args.bytes.now _ c.append.ensures

pub returns-in_default-clause-puts : goal.returns-in_default-clause-puts
returns-in_default-clause-puts g c =
    puts_none _ c.args.self.now c.flush.new.self c.args.bytes.now _ _ (omega (arith, c.if-bytes-len.false, c.len.ensures, c.self.invariant.full)) c.flush.ensures.notes c.flush.ensures.told
