use Rattle.std.proofs.Common.{sym, ◌∙◌}
use Rattle.table_warnings.proofs.NameLemmas.{not_yet, named_here, nowhere}
use Rattle.table_warnings.proofs.names.has_name.Goals as goal

pub loop-other-preserved : goal.loop-other-preserved
loop-other-preserved c = not_yet c.args.known.now c.args.name.now c.loop-other.other-index c.other-item.result c.loop-other-test.true c.other-item.is (sym c.is_same.ensures ∙ c.if-is_same.false) c.loop-other.invariant

pub returns : goal.returns
returns c = nowhere c.args.known.now c.args.name.now c.loop-other.other-index c.loop-other-test.false c.loop-other.invariant

pub returns-then-is_same : goal.returns-then-is_same
returns-then-is_same c = named_here c.args.known.now c.args.name.now c.loop-other.other-index c.other-item.result c.loop-other-test.true c.other-item.is (sym c.is_same.ensures ∙ c.if-is_same.true)
