use Rattle.ground_tools.proofs.Appending.{appends_on}
use Rattle.ground_tools.proofs.scenario_tellers.ScenarioTellerFrameTeller.tell_frames.Goals as goal

pub frames-init : goal.frames-init
frames-init g c = c.in_ok-tell_files_once.ensures

pub frames-preserved : goal.frames-preserved
frames-preserved g c = appends_on c.args.out.now.items c.frames.out.items c.tell_frame.new.out.items c.frames.invariant c.in_ok-tell_frame.ensures
