use Rattle.std.proofs.Common.{◌∙◌, ap}
use Rattle.packet_log.specs.Blocks.{Waiting, late_in}
use Rattle.packet_log.proofs.Blocks.{late_noted}
use Rattle.packet_log.proofs.block.Block.late_frames.Goals as goal

pub returns-clause-value : goal.returns-clause-value
returns-clause-value c ends given notes =
    c.late_among.ensures.value ∙ rw (c.deref.ensures.value) (ap (λ (block : Waiting). late_in block.ends block.taken) c.self.view_is) ∙ late_noted ends given c.args.self.now notes
