use Rattle.std.proofs.Common.{◌≡◌, ◌<◌, ◌≤◌, ◌+◌, length, sym, ap, ◌∙◌, None, List, drop, not, arith}
use Rattle.std.specs.List.{position_from}
use Rattle.md_dwell.specs.Given.{is_given, first_refused}
use Rattle.md_dwell.specs.declared.tables.DwellEntry.{DwellEntry}
use Rattle.histories.proofs.Firsts.{fails_here, ends_well}
use Rattle.md_dwell.proofs.Gifts.{none_refused}
use Rattle.md_dwell.proofs.tables.Dwell.first_refused.Goals as goal
use Rattle.md_dwell.proofs.tables.Dwell.first_refused.Goals.{After-loop-i}

pub returns-then-not-is_given-clause-refused : goal.returns-then-not-is_given-clause-refused
unfolding first_refused
returns-then-not-is_given-clause-refused c =
    let items = c.entries-entry-items.result.now in
    let same : c.entries-entry-items.result.now ≡ c.args.self.now.entries = c.entries-entry-items.ensures.entries ∙ c.plan-plan.ensures in
    let within : c.loop-i.i < length c.entries-entry-items.result.now = (let long = ap length c.entries-entry-items.ensures.entries ∙ c.entries-entry-items.ensures.whole in omega arith) in
    sym (c.loop-i.invariant
    ∙ ap (λ (entries : List DwellEntry). position_from (λ (e : DwellEntry). not (is_given c.args.map.now e)) (c.loop-i.i + 1) (drop c.loop-i.i entries)) (sym same)
    ∙ fails_here (is_given c.args.map.now) c.entries-entry-items.result.now c.loop-i.i _ within (sym c.if-not-is_given.true ∙ c.is_given.ensures))

-- none is refused
none : (c : After-loop-i) → first_refused c.args.map.now c.args.self.now.entries ≡ None
unfolding first_refused
none c =
    let past : length c.args.self.now.entries ≤ c.loop-i.i = (let long = ap length (sym c.plan-plan.ensures) ∙ c.entries-entry-items.ensures.whole in omega arith) in
    c.loop-i.invariant ∙ ends_well (is_given c.args.map.now) c.args.self.now.entries c.loop-i.i (c.loop-i.i + 1) past

pub returns-clause-refused : goal.returns-clause-refused
returns-clause-refused c = sym (none c)

pub returns-clause-given : goal.returns-clause-given
returns-clause-given c = λ _. none_refused c.args.map.now c.args.self.now.entries (none c)
