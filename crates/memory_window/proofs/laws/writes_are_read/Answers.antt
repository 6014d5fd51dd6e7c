use Rattle.memory_window.proofs.WriteLaws.{poke-read, fill-read, bytes-read, file-read}
use Rattle.memory_window.proofs.laws.writes_are_read.Goals as goal

pub returns : goal.returns
returns c = record { poke = poke-read; fill = fill-read; bytes = bytes-read; file = file-read }
