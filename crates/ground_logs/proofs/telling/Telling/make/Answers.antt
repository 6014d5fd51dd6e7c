use Rattle.std.proofs.Common.{[], ◌++◌, ◌∙◌, refl, rules}
use Rattle.std.proofs.KnownBytes.{Consumes-nil}
use Rattle.ground_logs.proofs.MakingLemmas.{written_none, written_on, reads_on, reads_end, all_made}
use Rattle.ground_logs.proofs.telling.Telling.make.Goals as goal

pub pieces-init : goal.pieces-init
pieces-init g c = record {
  size = search rules;
  maker = refl;
  made = ([], Consumes-nil _, written_none g.M.LineMaker.makes _ _ c.new-lines.ensures.stands);
}

pub pieces-preserved : goal.pieces-preserved
pieces-preserved g c = record {
  size = search rules;
  maker = c.in_ok-make_piece.ensures.takes.maker ∙ c.pieces.invariant.maker;
  made = (
    c.pieces.invariant.made.0 ++ c.front.result.now,
    reads_on _ _ _ c.pieces.invariant.made.0 _ c.front.result.now c.front.ensures c.pieces.invariant.made.1 c.in_ok-count.ensures.read,
    written_on g.M.LineMaker.makes _ _ _ _ _ _ _ c.pieces.invariant.made.2 c.in_ok-make_piece.ensures,
  );
}

pub returns-then-count-eq0 : goal.returns-then-count-eq0
returns-then-count-eq0 g c =
    all_made g.M.LineMaker.makes c.end.result _ _ _ _ c.pieces.invariant.made.0 _ _
    (reads_end _ _ _ _ _ _ c.if-count-eq0.true c.pieces.invariant.made.1 c.in_ok-count.ensures.read)
    (c.in_ok-count.ensures.end c.if-count-eq0.true (search rules))
    (c.pieces.invariant.maker ∙ c.new-lines.ensures.maker) c.pieces.invariant.made.2 c.end.ensures
