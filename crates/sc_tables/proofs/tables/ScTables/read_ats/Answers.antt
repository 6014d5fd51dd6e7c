use Rattle.std.proofs.Common.{List, ◌-◌, map, set, sym, ap, ◌∙◌}
use Rattle.sc_tables.specs.declared.absolute.Timed.{Timed}
use Rattle.sc_tables.specs.Commands.{of_timed}
use Rattle.sc_tables.proofs.tables.ScTables.read_ats.Goals as goal

pub of-requires-clause-placed : goal.of-requires-clause-placed
of-requires-clause-placed c = c.in-Ok.ensures.ordered.placed

pub of-requires-clause-in_order : goal.of-requires-clause-in_order
of-requires-clause-in_order c = c.in-Ok.ensures.ordered.rises

pub returns-in-Ok-clause-table : goal.returns-in-Ok-clause-table
returns-in-Ok-clause-table c = c.put_ats.ensures ∙ ap (λ (commands : List Timed). set c.args.self.now (c.args.n - 1) (map of_timed commands)) (c.of.ensures ∙ c.in-Ok.ensures.ordered.commands)

pub returns-in-Ok-clause-fault : goal.returns-in-Ok-clause-fault
returns-in-Ok-clause-fault c = sym c.in-Ok.ensures.fault

pub returns-in-Err-clause-fault : goal.returns-in-Err-clause-fault
returns-in-Err-clause-fault c = sym c.in-Err.ensures.fault
