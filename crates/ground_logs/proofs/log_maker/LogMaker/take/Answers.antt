use Rattle.std.proofs.Common.{arith}
use Rattle.ground_logs.proofs.MakingLemmas.{appended_none, appended_on, part_fits}
use Rattle.ground_logs.proofs.log_maker.LogMaker.take.Goals as goal

pub lines-init : goal.lines-init
lines-init g c = record {
  made = appended_none g.M.LineMaker.makes c.args.self.now c.args.out.now.items;
  taken = omega arith;
}

pub returns-then-is_some-clause-made : goal.returns-then-is_some-clause-made
returns-then-is_some-clause-made g c =
    appended_on g.M.LineMaker.makes _ _ _ c.args.piece.now c.behind.result.now _ _ _ c.lines.taken c.in_ok-step.step.taken c.behind.ensures
    c.lines.invariant.made c.in_ok-step.ensures.made

pub lines-preserved : goal.lines-preserved
lines-preserved g c = record {
  made = appended_on g.M.LineMaker.makes _ _ _ c.args.piece.now c.behind.result.now _ _ _ c.lines.taken c.in_ok-step.step.taken c.behind.ensures
      c.lines.invariant.made c.in_ok-step.ensures.made;
  taken = part_fits c.args.piece.now c.behind.result.now c.lines.taken c.in_ok-step.step.taken c.lines.invariant.taken c.behind.ensures c.in_ok-step.ensures.taken;
}
