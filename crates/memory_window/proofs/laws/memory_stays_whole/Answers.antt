use Rattle.memory_window.proofs.WholeLaws.{start-whole, land-whole, upset-whole}
use Rattle.memory_window.proofs.laws.memory_stays_whole.Goals as goal

pub returns : goal.returns
returns c = record { start = start-whole; land = land-whole; upset = upset-whole }
