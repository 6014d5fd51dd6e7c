use Rattle.std.proofs.Common.{◌≤◌, List, sym, subst}
use Rattle.memory_window.specs.declared.regions.Region.{Region}
use Rattle.memory_window.specs.Regions.{total_of}
use Rattle.memory_window.proofs.Maps.{map-facts}
use Rattle.memory_window.proofs.regions.Map.total.Goals as goal

pub total_len-requires : goal.total_len-requires
total_len-requires c = subst (λ (rs : List Region). total_of rs ≤ 4194304) (sym c.regions.ensures.regions) (map-facts c.args.self.now c.regions.ensures.valid).small

pub returns-clause-most : goal.returns-clause-most
returns-clause-most c = (map-facts c.args.self.now c.regions.ensures.valid).small
