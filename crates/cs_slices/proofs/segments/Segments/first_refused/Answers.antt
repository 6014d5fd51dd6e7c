use Rattle.std.proofs.Common.{◌≡◌, ◌<◌, ◌+◌, length, sym, ap, ◌∙◌, None, List, drop, not, arith}
use Rattle.std.specs.List.{position_from}
use Rattle.histories.proofs.Firsts.{fails_here, ends_well}
use Rattle.cs_slices.specs.Given.{is_given, first_refused}
use Rattle.cs_slices.proofs.Refusing.{none_refused}
use Rattle.cs_slices.specs.declared.segments.Segment.{Segment}
use Rattle.cs_slices.proofs.segments.Segments.first_refused.Goals as goal
use Rattle.cs_slices.proofs.segments.Segments.first_refused.Goals.{After-loop-i}

pub returns-then-not-is_given-clause-refused : goal.returns-then-not-is_given-clause-refused
unfolding first_refused
returns-then-not-is_given-clause-refused c =
    let same : c.entries-segment-items.result.now ≡ c.args.self.now = c.entries-segment-items.ensures.entries in
    let within : c.loop-i.i < length c.entries-segment-items.result.now = (let long = ap length same ∙ c.entries-segment-items.ensures.whole in omega arith) in
    sym (c.loop-i.invariant
    ∙ ap (λ (entries : List Segment). position_from (λ (s : Segment). not (is_given c.args.map.now s)) (c.loop-i.i + 1) (drop c.loop-i.i entries)) (sym same)
    ∙ fails_here (is_given c.args.map.now) c.entries-segment-items.result.now c.loop-i.i _ within (sym c.if-not-is_given.true ∙ c.is_given.ensures))

-- none is refused
none : (c : After-loop-i) → first_refused c.args.map.now c.args.self.now ≡ None
unfolding first_refused
none c = c.loop-i.invariant ∙ ends_well (is_given c.args.map.now) c.args.self.now c.loop-i.i (c.loop-i.i + 1) (let long = c.entries-segment-items.ensures.whole in omega arith)

pub returns-clause-refused : goal.returns-clause-refused
returns-clause-refused c = sym (none c)

pub returns-clause-given : goal.returns-clause-given
returns-clause-given c = λ _. none_refused c.args.map.now c.args.self.now (none c)
