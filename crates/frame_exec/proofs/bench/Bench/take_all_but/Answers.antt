use Rattle.std.proofs.Common.{refl}
use Rattle.frame_exec.proofs.Frames.{ready_by}
use Rattle.frame_exec.proofs.bench.Bench.take_all_but.Goals as goal

pub returns-clause-ready : goal.returns-clause-ready
returns-clause-ready c = λ ready. ready_by c.args.self.now _ refl refl c.take_all_but.ensures.apps ready

pub returns-clause-takes : goal.returns-clause-takes
returns-clause-takes c = λ held are. record {
  run = record { lines = refl; epoch = refl; number = refl; failed = refl; tables = refl };
  apps = c.take_all_but.ensures.apps;
  takes = c.take_all_but.ensures.takes held are;
  operations = c.clear.ensures;
  pipes = c.take_all_but.ensures.pipes held are;
  log = c.take_all_but.ensures.log;
  memory = refl;
}
