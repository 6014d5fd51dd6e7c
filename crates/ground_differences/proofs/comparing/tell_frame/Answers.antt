use Rattle.ground_differences.proofs.ComparedLemmas.{good_mapped, holds_mapped, compares_frame}
use Rattle.ground_differences.proofs.comparing.tell_frame.Goals as goal

pub returns-clause-found : goal.returns-clause-found
returns-clause-found g c =
    holds_mapped c.tell_both.result c.map_err-3.result _ c.map_err-3.ensures.cases
    (compares_frame g.L.Read.remaining c.args.ones.now c.args.others.now c.read_frame.new.self c.read_frame-2.new.self c.args.frame _ _ _ _
    (good_mapped _ c.read_frame.result c.map_err.result _ _ c.map_err.ensures.cases c.in_ok-map_err.was c.read_frame.ensures)
    (good_mapped _ c.read_frame-2.result c.map_err-2.result _ _ c.map_err-2.ensures.cases c.in_ok-map_err-2.was c.read_frame-2.ensures)
    c.lines.ensures c.lines-2.ensures)
    c.tell_both.ensures.found
