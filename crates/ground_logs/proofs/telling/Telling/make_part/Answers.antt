use Rattle.ground_logs.proofs.MakingLemmas.{writes_appended}
use Rattle.ground_logs.proofs.telling.Telling.make_part.Goals as goal

pub returns-clause-made : goal.returns-clause-made
returns-clause-made g c =
    writes_appended g.M.LineMaker.makes _ _ _ c.new-made.result.items _ _ _ _ c.new-made.ensures.items c.as_slice.ensures.value
    c.in_ok-told.ensures.made c.in_ok-write_made.ensures
