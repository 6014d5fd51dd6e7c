use Rattle.std.proofs.Common.{sym, ap, ◌∙◌}
use Rattle.memory_window.specs.Regions.{map_fault_of}
use Rattle.memory_window.specs.Memory.{Memory, regions_of}
use Rattle.memory_window.proofs.Areas.{regions-cut}
use Rattle.memory_window.proofs.WholeLaws.{shown-whole}
use Rattle.memory_window.proofs.ram.Ram.window.Goals as goal

pub returns-clause-map : goal.returns-clause-map
returns-clause-map c = ap (λ (m : Memory). map_fault_of (regions_of m.areas)) (sym c.self.view_is) ∙ ap map_fault_of (regions-cut c.self.inside.map c.self.inside.store) ∙ c.self.invariant.0

pub returns-clause-whole : goal.returns-clause-whole
returns-clause-whole c = shown-whole c.self.inside.map c.self.inside.store c.self.inside.guarded c.args.self.now c.self.view_is c.self.invariant
