use Rattle.std.proofs.Common.{◌≡◌, ◌&&◌, sym, ◌∙◌, subst}
use Rattle.ground_differences.specs.Compared.{IsFoundOf}
use Rattle.ground_differences.proofs.ComparedLemmas.{good_mapped, both_yes, both_no, found_of}
use Rattle.ground_differences.proofs.comparing.compare.Goals as goal
use Rattle.ground_differences.proofs.comparing.compare.Goals.{then-is_whole, else-is_whole}

pub returns-clause-found : goal.returns-clause-found
returns-clause-found g c = λ text text_other is is_other.
    let whole : c.if-is_whole.result ≡ (c.tell_frames.new.ones.source.is_whole && c.tell_frames.new.others.source.is_whole) = elim c.if-is_whole.branch [
      | then-is_whole w ↦ both_yes _ _ _ _ _ c.is_whole.ensures w.if-is_whole.true w.is_whole-then-is_whole.ensures w.result-is
      | else-is_whole w ↦ both_no _ _ _ _ c.is_whole.ensures w.if-is_whole.false (w.result-is ∙ w.if-is_whole.false)
    ] in
    subst (λ found. IsFoundOf text text_other c.if-is_whole.result found.first) (sym c.found.ensures)
    (found_of g.L.Read.remaining c.in_ok-ones.ones c.in_ok-others.others c.tell_frames.new.ones c.tell_frames.new.others _ _ text text_other c.if-is_whole.result
    (good_mapped _ c.begin.result c.map_err.result _ _ c.map_err.ensures.cases c.in_ok-ones.was c.begin.ensures text is)
    (good_mapped _ c.begin-2.result c.map_err-2.result _ _ c.map_err-2.ensures.cases c.in_ok-others.was c.begin-2.ensures text_other is_other)
    c.new-teller.ensures c.in_ok-tell_frames.ensures.found whole)
