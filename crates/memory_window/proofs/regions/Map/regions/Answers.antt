use Rattle.std.proofs.Common.{sym, ap, ◌∙◌}
use Rattle.memory_window.specs.Regions.{map_fault_of}
use Rattle.memory_window.proofs.Maps.{map-facts}
use Rattle.memory_window.proofs.regions.Map.regions.Goals as goal

pub returns-clause-few : goal.returns-clause-few
returns-clause-few c = (map-facts _ (ap map_fault_of (sym c.self.view_is) ∙ c.self.invariant.3)).few

pub returns-clause-within : goal.returns-clause-within
returns-clause-within c = (map-facts _ (ap map_fault_of (sym c.self.view_is) ∙ c.self.invariant.3)).within
