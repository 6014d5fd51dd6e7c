use Rattle.log_lines.proofs.LogLemmas.{keeps}
use Rattle.std.proofs.Common.{◌-◌, ap}
use Rattle.log_lines.proofs.log_reader.LogReader.keep.Goals as goal

pub returns-clause-kept : goal.returns-clause-kept
returns-clause-kept c = λ last h. keeps last c.args.bytes.now c.args.self.now.kept c.append.new.self _ h (ap (λ n. 641 - n) c.len-room.ensures.value) (rw (← c.front.ensures) c.append.ensures)
