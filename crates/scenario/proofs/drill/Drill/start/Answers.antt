use Rattle.std.proofs.Common.{◌≡◌, ◌++◌, List, ℕ, ap, ◌∙◌}
use Rattle.scenario.specs.Drill.{text_left, drill_header}
use Rattle.scenario.proofs.DrillLemmas.{whole_left}
use Rattle.scenario.proofs.drill.Drill.start.Goals as goal

pub returns : goal.returns
unfolding drill_header
returns c =
    let header : c.append.new.self ≡ drill_header = cc (c.append.ensures, c.new-lines.ensures, c.as_bytes.ensures.value) in
    ap (λ (lines : List ℕ). lines ++ text_left 2000 c.args.k) header ∙ whole_left c.args.k
