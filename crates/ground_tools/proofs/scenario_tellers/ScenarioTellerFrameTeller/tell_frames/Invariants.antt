use Rattle.ground_tools.specs.Appended.{Appends}
use Rattle.ground_tools.proofs.scenario_tellers.ScenarioTellerFrameTeller.tell_frames.Given as goal

-- what was told so far was appended
abbrev pub invariant-frames : goal.invariant-frames
invariant-frames g l = Appends l.fn.out.items l.out.items
