use Rattle.memory_window.proofs.Areas.{regions-cut}
use Rattle.memory_window.proofs.ram.Ram.new.Goals as goal

pub returns-clause-map : goal.returns-clause-map
returns-clause-map c = regions-cut c.args.map c.in_ok-store.store
