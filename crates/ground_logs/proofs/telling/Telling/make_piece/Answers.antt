use Rattle.std.proofs.Common.{arith}
use Rattle.ground_logs.proofs.MakingLemmas.{writes_none, writes_parts, writes_whole, part_fits}
use Rattle.ground_logs.proofs.telling.Telling.make_piece.Goals as goal

pub parts-init : goal.parts-init
parts-init g c = record {
  made = writes_none g.M.LineMaker.makes c.args.lines.now _;
  taken = omega arith;
}

pub parts-preserved : goal.parts-preserved
parts-preserved g c = record {
  made = writes_parts g.M.LineMaker.makes _ _ _ c.args.piece.now c.behind.result.now _ _ _ c.parts.taken c.in_ok-part.part c.behind.ensures
      c.parts.invariant.made c.in_ok-part.ensures.made;
  taken = part_fits c.args.piece.now c.behind.result.now c.parts.taken c.in_ok-part.part c.parts.invariant.taken c.behind.ensures c.in_ok-part.ensures.taken;
}

pub returns : goal.returns
returns g c = writes_whole g.M.LineMaker.makes _ _ c.args.piece.now c.parts.taken _ _ (omega arith) c.parts.invariant.made
