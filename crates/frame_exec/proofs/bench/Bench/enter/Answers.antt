use Rattle.std.proofs.Common.{List, subst}
use Rattle.scenario.specs.declared.frame.Upset.{Upset}
use Rattle.frame_exec.specs.Stages.{IsUpset}
use Rattle.frame_exec.proofs.Arriving.{ready_upset}
use Rattle.frame_exec.proofs.bench.Bench.enter.Goals as goal

pub returns-clause-enters : goal.returns-clause-enters
returns-clause-enters c = λ held are. record {
  upset = c.upset.new.self;
  writes = subst (λ (upsets : List Upset). IsUpset upsets c.args.self.now c.upset.new.self) c.upsets.ensures.value c.upset.ensures;
  takes = c.take_all_but.ensures.takes held are;
}

pub returns-clause-ready : goal.returns-clause-ready
returns-clause-ready c = c.take_all_but.ensures.ready (ready_upset _ _ _ c.upset.ensures c.requires.ready)
