use Rattle.memory_window.proofs.ReadLaws.{range-stands, read-stands}
use Rattle.memory_window.proofs.laws.reads_are_of_bytes.Goals as goal

pub returns : goal.returns
returns c = record { bytes = range-stands; read = read-stands }
