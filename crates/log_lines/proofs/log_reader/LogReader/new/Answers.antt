use Rattle.std.proofs.Common.{refl}
use Rattle.log_lines.proofs.LogLemmas.{starts}
use Rattle.log_lines.proofs.log_reader.LogReader.new.Goals as goal

pub returns : goal.returns
returns c = starts _ refl c.new.ensures
