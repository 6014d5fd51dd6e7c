use Rattle.std.proofs.Common.{◌≡◌, false, sym, ap, ◌∙◌}
use Rattle.std.specs.List.{list_any}
use Rattle.memory_window.specs.Regions.{ends_late}
use Rattle.memory_window.specs.Memory.{Memory, regions_of}
use Rattle.memory_window.proofs.Areas.{regions-cut}
use Rattle.memory_window.proofs.Soundness.{sound-of}
use Rattle.memory_window.proofs.ram.Ram.land.Goals as goal

pub change_store-requires-clause-possible : goal.change_store-requires-clause-possible
change_store-requires-clause-possible c =
    let regions-are : regions_of c.args.self.now.areas ≡ c.self.inside.map = ap (λ (m : Memory). regions_of m.areas) (sym c.self.view_is) ∙ regions-cut c.self.inside.map c.self.inside.store in
    let within : list_any ends_late (regions_of c.args.self.now.areas) ≡ false = ap (list_any ends_late) regions-are ∙ c.regions-regions.ensures.within in
    (λ k d lt. sound-of c.args.self.now _ within (c.requires.admitted k d lt), c.requires.backed)

pub returns-clause-map : goal.returns-clause-map
returns-clause-map c = regions-cut c.self.inside.map c.change_store.new.store ∙ sym (regions-cut c.self.inside.map c.self.inside.store) ∙ ap (λ (m : Memory). regions_of m.areas) c.self.view_is
