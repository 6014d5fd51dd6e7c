use Rattle.std.proofs.Common.{◌∙◌}
use Rattle.sc_tables.proofs.loading.load_ats.Goals as goal

pub of-requires-clause-placed : goal.of-requires-clause-placed
of-requires-clause-placed c = c.in-Ok.ensures.ordered.placed

pub of-requires-clause-in_order : goal.of-requires-clause-in_order
of-requires-clause-in_order c = c.in-Ok.ensures.ordered.rises

pub returns-in-Ok-clause-table : goal.returns-in-Ok-clause-table
returns-in-Ok-clause-table c = c.of.ensures ∙ c.in-Ok.ensures.ordered.commands
