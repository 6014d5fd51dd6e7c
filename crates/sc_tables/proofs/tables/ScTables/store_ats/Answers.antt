use Rattle.std.proofs.Common.{List, ◌-◌, map, set, ap, ◌∙◌}
use Rattle.sc_tables.specs.declared.absolute.Timed.{Timed}
use Rattle.sc_tables.specs.Commands.{of_timed}
use Rattle.sc_tables.proofs.tables.ScTables.store_ats.Goals as goal

pub of-requires-clause-placed : goal.of-requires-clause-placed
of-requires-clause-placed c = c.store_in_order-count.ensures.ordered.placed

pub of-requires-clause-in_order : goal.of-requires-clause-in_order
of-requires-clause-in_order c = c.store_in_order-count.ensures.ordered.rises

pub returns : goal.returns
returns c = c.put_ats.ensures ∙ ap (λ (commands : List Timed). set c.args.self.now (c.args.n - 1) (map of_timed commands)) (c.of.ensures ∙ c.store_in_order-count.ensures.ordered.commands)
