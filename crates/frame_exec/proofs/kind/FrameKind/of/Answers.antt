use Rattle.std.proofs.Common.{ap}
use Rattle.scenario.specs.FrameLists.{Frame}
use Rattle.frame_exec.proofs.kind.FrameKind.of.Goals as goal

pub returns-then-has_only_sends-clause-kind : goal.returns-then-has_only_sends-clause-kind
returns-then-has_only_sends-clause-kind c =
    let only = c.has_only_sends.ensures.only c.if-has_only_sends.true in
    (ap (λ (f : Frame). f.upsets) only, ap (λ (f : Frame). f.held) only, ap (λ (f : Frame). f.activations) only)
