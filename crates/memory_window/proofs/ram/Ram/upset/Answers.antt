use Rattle.std.proofs.Common.{sym, ap, ◌∙◌}
use Rattle.memory_window.specs.Memory.{Memory, regions_of}
use Rattle.memory_window.proofs.Areas.{regions-cut}
use Rattle.memory_window.proofs.ram.Ram.upset.Goals as goal

pub returns-clause-map : goal.returns-clause-map
returns-clause-map c = regions-cut c.self.inside.map c.change_store.new.store ∙ sym (regions-cut c.self.inside.map c.self.inside.store) ∙ ap (λ (m : Memory). regions_of m.areas) c.self.view_is
