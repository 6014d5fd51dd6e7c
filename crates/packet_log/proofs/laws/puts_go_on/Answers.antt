use Rattle.packet_log.proofs.Blocks.{puts_then, puts_part, writes_all}
use Rattle.packet_log.proofs.laws.puts_go_on.Goals as goal

pub returns : goal.returns
returns c = record { then = puts_then; part = puts_part; told = writes_all }
