use Rattle.std.proofs.Common.{◌∙◌}
use Rattle.packet_log.proofs.Blocks.{puts_then, puts_part}
use Rattle.frame_wires.proofs.sending.put_frame.Goals as goal

pub returns-in_default-clause-puts : goal.returns-in_default-clause-puts
returns-in_default-clause-puts g c = puts_part _ _ _ _ _ _ _ (c.in_default.ensures.puts c.args.number (c.bytes.ensures.value ∙ c.head_of-head.ensures))

pub returns-clause-puts : goal.returns-clause-puts
returns-clause-puts g c =
    puts_then _ _ _ _ _ _ _ _ _ (c.in-Ok.ensures.puts c.args.number (c.bytes.ensures.value ∙ c.head_of-head.ensures)) (c.put_drops.ensures.puts c.args.number (c.bytes-2.ensures.value ∙ c.head_of-head.ensures))
