use Rattle.std.proofs.Common.{◌∙◌, ap}
use Rattle.bus_pipes.specs.Held.{Held}
use Rattle.bus_pipes.specs.declared.names.Out.{Out}
use Rattle.bus_pipes.proofs.Deliveries.{items-adding}
use Rattle.frame_exec.proofs.applications.Applications.tell.Goals as goal

pub returns-clause-told : goal.returns-clause-told
returns-clause-told c = ap (λ (held : Held Out). held.items) c.tell.ensures.after ∙ items-adding _ _
