use Rattle.std.proofs.Common.{◌≡◌, false, length, sym, ap, ◌∙◌, arith}
use Rattle.std.specs.List.{list_any}
use Rattle.std.proofs.lemmas.Bool.Decides.{nat_tests}
use Rattle.std.proofs.lemmas.List.{nil_from_length}
use Rattle.table_files.specs.Files.{loads_of}
use Rattle.memory_window.specs.Regions.{ends_late}
use Rattle.memory_window.specs.Memory.{Memory, regions_of}
use Rattle.memory_window.proofs.Areas.{regions-cut}
use Rattle.memory_window.proofs.Soundness.{sound-of}
use Rattle.memory_window.proofs.BankLanding.{nothing-landed}
use Rattle.memory_window.proofs.ram.Ram.land_banks_on.Goals as goal

pub returns-then-is_empty-clause-land : goal.returns-then-is_empty-clause-land
returns-then-is_empty-clause-land g c =
    let none : length c.args.ops.now ≡ 0 = grind (arith, nat_tests) in
    sym (nothing-landed (loads_of c.args.files.now) c.args.ops.now c.args.self.now (nil_from_length c.args.ops.now none))

pub land_store-requires-clause-sound : goal.land_store-requires-clause-sound
land_store-requires-clause-sound g c =
    let regions-are : regions_of c.args.self.now.areas ≡ c.self.inside.map = ap (λ (m : Memory). regions_of m.areas) (sym c.self.view_is) ∙ regions-cut c.self.inside.map c.self.inside.store in
    let within : list_any ends_late (regions_of c.args.self.now.areas) ≡ false = ap (list_any ends_late) regions-are ∙ c.regions-regions.ensures.within in
    λ _ _ k d lt. sound-of c.args.self.now _ within (c.requires.admitted k d lt)

pub returns-clause-map : goal.returns-clause-map
returns-clause-map g c = regions-cut c.self.inside.map c.land_store.new.store ∙ sym (regions-cut c.self.inside.map c.self.inside.store) ∙ ap (λ (m : Memory). regions_of m.areas) c.self.view_is
