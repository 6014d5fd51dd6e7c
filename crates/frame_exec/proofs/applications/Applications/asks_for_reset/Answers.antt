use Rattle.std.proofs.Common.{◌++◌, [], sym, ◌∙◌, ap}
use Rattle.std.specs.Prelude.{Bool, ◌||◌}
use Rattle.std.specs.List.{list_any}
use Rattle.std.proofs.lemmas.List.Folds.{list_any-append}
use Rattle.frame_wires.specs.Sending.{is_reset}
use Rattle.frame_wires.proofs.Offers.{reset_in_six}
use Rattle.frame_exec.proofs.applications.Applications.asks_for_reset.Goals as goal

pub returns : goal.returns
returns c =
    let b = c.args.self.now in
    let told = b.activations.items in
    let given = b.hs.out.items ++ (b.cs.out.items ++ (b.sc.out.items ++ (b.mm.out.items ++ (b.md.out.items ++ (b.lc.slot.out.items ++ []))))) in
    rw (c.has_reset-told.ensures, c.has_reset.ensures, c.has_reset-2.ensures, c.has_reset-3.ensures, c.has_reset-4.ensures, c.has_reset-5.ensures, c.has_reset-6.ensures, c.items.ensures, c.items-2.ensures, c.items-3.ensures, c.items-4.ensures, c.items-5.ensures, c.items-6.ensures, c.items-7.ensures)
    (ap (λ (r : Bool). list_any is_reset told || r) (reset_in_six b.hs.out.items b.cs.out.items b.sc.out.items b.mm.out.items b.md.out.items b.lc.slot.out.items) ∙ sym (list_any-append is_reset told given))
