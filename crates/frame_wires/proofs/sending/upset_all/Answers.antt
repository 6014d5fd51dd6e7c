use Rattle.std.proofs.Common.{◌∙◌}
use Rattle.frame_wires.proofs.Upsets.{upset_front}
use Rattle.frame_wires.proofs.sending.upset_all.Goals as goal

pub upsets-preserved : goal.upsets-preserved
upsets-preserved c = record {
  written = upset_front c.args.ram.now c.upsets.ram c.upset.new.self c.args.upsets.now c.upsets.upset-index (record { at = 0; value = 0 }) c.upsets-test.true c.upsets.invariant.written c.upset.ensures.upset;
  regions = c.upset.ensures.map ∙ c.upsets.invariant.regions;
}
