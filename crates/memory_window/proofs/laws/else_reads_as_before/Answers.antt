use Rattle.memory_window.proofs.ReadLaws.{range-before, read-before}
use Rattle.memory_window.proofs.laws.else_reads_as_before.Goals as goal

pub returns : goal.returns
returns c = record { bytes = range-before; read = read-before }
