use Rattle.std.proofs.Common.{◌≡◌, ◌-◌, drop, length, ap, ◌∙◌, length-drop, arith}
use Rattle.packet_log.proofs.Blocks.{notes_cut, notes_handed, tells_cut}
use Rattle.packet_log.proofs.block.Block.flush.Goals as goal

pub returns-in-Ok-clause-notes : goal.returns-in-Ok-clause-notes
returns-in-Ok-clause-notes g c ends given notes = rw (c.clear.ensures.items, c.clear-in-Ok.ensures.items) (notes_handed ends given c.args.self.now notes)

pub returns-in-Err-clause-told : goal.returns-in-Err-clause-told
returns-in-Err-clause-told g c =
    tells_cut _ _ c.args.self.now c.self.inside.bytes.items c.behind.result.now c.self.inside.ends.items c.self.inside.from c.put_part.new.taken c.self.view_is
    (c.behind.ensures ∙ ap (drop c.self.inside.from) c.deref.ensures.value) c.in-Err.ensures.content

pub returns-in-Err-clause-notes : goal.returns-in-Err-clause-notes
returns-in-Err-clause-notes g c ends given notes =
    let size : length c.behind.result.now ≡ length c.self.inside.bytes.items - c.self.inside.from =
    ap length (c.behind.ensures ∙ ap (drop c.self.inside.from) c.deref.ensures.value) ∙ length-drop c.self.inside.from c.self.inside.bytes.items in
    notes_cut ends given c.args.self.now c.self.inside.bytes.items c.self.inside.ends.items c.self.inside.from c.put_part.new.taken c.self.view_is (omega (arith, size, c.in-Err.ensures.size, c.self.invariant.within)) notes
