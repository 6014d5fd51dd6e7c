use Rattle.std.proofs.Common.{rules, arith, ◌≡◌, ◌+◌, ◌≤◌, length, get_or, false, sym, ◌∙◌}
use Rattle.std.proofs.lemmas.List.Sums.{sum_by_more}
use Rattle.memory_window.specs.declared.regions.Region.{Region}
use Rattle.memory_window.specs.Regions.{blank, spans}
use Rattle.memory_window.proofs.Parts.{ends-within, home-on, guard-on, guard-here}
use Rattle.memory_window.proofs.window.Window.home.Goals as goal

pub slice_bounds-result-end : goal.slice_bounds-result-end
slice_bounds-result-end c =
    let ends : c.loop-i.from + (get_or c.args.self.regions.now c.loop-i.i blank).len ≤ length c.args.self.block.now = ends-within c.args.self.regions.now c.args.self.block.now c.loop-i.i c.loop-i.from c.loop-i-test.true c.loop-i.invariant.from c.args.self.bounded.2 in
    search rules

pub returns-then-spans-clause-guard : goal.returns-then-spans-clause-guard
returns-then-spans-clause-guard c =
    let few : length c.args.self.regions.now ≤ length c.args.self.flags.now = omega (arith, c.args.self.bounded.0, c.args.self.bounded.1) in
    c.loop-i.invariant.guard ∙ guard-here c.args.self.regions.now c.args.self.flags.now c.args.self.block.now c.args.at c.args.len c.loop-i.i c.loop-i.from c.loop-i-test.true few (sym c.spans.ensures ∙ c.if-spans.true)

pub loop-i-preserved : goal.loop-i-preserved
loop-i-preserved c =
    let few : length c.args.self.regions.now ≤ length c.args.self.flags.now = omega (arith, c.args.self.bounded.0, c.args.self.bounded.1) in
    let beyond : spans c.args.at c.args.len (get_or c.args.self.regions.now c.loop-i.i blank) ≡ false = sym c.spans.ensures ∙ c.if-spans.false in
    record {
      from = omega (arith, c.loop-i.invariant.from, sum_by_more (λ (s : Region). s.len) c.args.self.regions.now c.loop-i.i blank c.loop-i-test.true);
      area = c.loop-i.invariant.area ∙ home-on c.args.self.regions.now c.args.self.flags.now c.args.self.block.now c.args.at c.args.len c.loop-i.i c.loop-i.from c.loop-i-test.true beyond;
      guard = c.loop-i.invariant.guard ∙ guard-on c.args.self.regions.now c.args.self.flags.now c.args.self.block.now c.args.at c.args.len c.loop-i.i c.loop-i.from c.loop-i-test.true few beyond;
    }
