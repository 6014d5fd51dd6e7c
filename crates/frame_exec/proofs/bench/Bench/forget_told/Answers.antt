use Rattle.std.proofs.Common.{refl}
use Rattle.frame_exec.proofs.Frames.{ready_by}
use Rattle.frame_exec.proofs.Naming.{forgets}
use Rattle.frame_exec.proofs.bench.Bench.forget_told.Goals as goal

pub returns-clause-forgets : goal.returns-clause-forgets
returns-clause-forgets c = forgets c.args.self.now c.forget_told.new.self _ _ _ c.forget_told.ensures.none c.forget_told.ensures.apps

pub returns-clause-ready : goal.returns-clause-ready
returns-clause-ready c = λ ready. ready_by c.args.self.now _ refl refl c.forget_told.ensures.apps ready
