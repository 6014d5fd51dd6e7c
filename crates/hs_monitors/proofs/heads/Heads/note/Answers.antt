use Rattle.std.proofs.Common.{ℕ, ◌+◌, ◌%◌, set, sym, ap, subst, ◌∙◌}
use Rattle.hs_monitors.specs.Heads.{AreHeaded}
use Rattle.hs_monitors.proofs.Noting.{noted_more, noted_in}
use Rattle.hs_monitors.proofs.heads.Heads.note.Goals as goal

pub returns : goal.returns
returns c = λ named is stood.
    let old = c.args.self.now in
    let slot = c.slot_of-slot.ensures in
    subst (λ (head : ℕ). AreHeaded named (c.args.place + 1) (noted_in (set old.heads c.args.place head) (set old.stretches c.slot_of-slot.result c.with.result))) (sym c.head_of-head.ensures)
    (noted_more named c.args.place c.args.name.now old is c.requires c.slot_of-slot.result (slot.slot ∙ ap (λ (head : ℕ). head % 251) c.head_of-head.ensures) slot.within c.with.result c.with.ensures.here.0 c.with.ensures.here.1 c.with.ensures.others stood)
