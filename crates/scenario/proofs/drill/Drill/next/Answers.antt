use Rattle.std.proofs.Common.{ℕ, take, refl, ap, sym, ◌∙◌, arith}
use Rattle.scenario.specs.Drill.{text_left}
use Rattle.scenario.proofs.DrillLemmas.{none_left, moved_first, all_handed}
use Rattle.scenario.proofs.drill.Drill.next.Goals as goal

pub returns-then-self-eq0-clause-end : goal.returns-then-self-eq0-clause-end
returns-then-self-eq0-clause-end c =
    let left = c.self.inside.left in
    ((λ _. sym c.self.view_is ∙ all_handed c.self.inside.lines (text_left left.frames left.x) c.self.inside.at (omega (arith, c.len.ensures.value)) ∙ ap (λ (n : ℕ). text_left n left.x) c.if-self-eq0.true ∙ none_left left.x), (λ _. refl))

pub returns-clause-moved : goal.returns-clause-moved
returns-clause-moved c =
    let left = c.self.inside.left in
    let now = c.make_lines.new.left in
    sym c.self.view_is
    ∙ all_handed c.self.inside.lines (text_left left.frames left.x) c.self.inside.at (omega (arith, c.len.ensures.value))
    ∙ c.make_lines.ensures.text
    ∙ moved_first c.make_lines.new.lines (text_left now.frames now.x) (take c.put-count-2.result c.put-count-2.new.buf) c.put-count-2.result (cc (c.put-count-2.ensures.front, c.bytes-2.ensures.value))
