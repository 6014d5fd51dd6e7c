use Rattle.std.proofs.Common.{List, ◌+◌, map, set, sym, ap, ◌∙◌}
use Rattle.sc_tables.specs.declared.relative.Relative.{Relative}
use Rattle.sc_tables.specs.Grammar.{fault_in, entries_in}
use Rattle.sc_tables.specs.Relative.{rts_of, rts_fault_of}
use Rattle.sc_tables.specs.Commands.{of_relative}
use Rattle.sc_tables.proofs.tables.ScTables.read_rts.Goals as goal

pub returns-in-Ok-clause-table : goal.returns-in-Ok-clause-table
unfolding rts_of
returns-in-Ok-clause-table c = c.put_rts.ensures ∙ ap (λ (commands : List Relative). set c.args.self.now (c.args.n + 1) (map of_relative commands)) (c.of.ensures ∙ sym (ap entries_in c.in-Ok.ensures.stored))

pub returns-in-Ok-clause-fault : goal.returns-in-Ok-clause-fault
unfolding rts_fault_of
returns-in-Ok-clause-fault c = sym (ap fault_in c.in-Ok.ensures.stored)

pub returns-in-Err-clause-fault : goal.returns-in-Err-clause-fault
unfolding rts_fault_of
returns-in-Err-clause-fault c = sym (ap fault_in c.in-Err.ensures.fault)
