use Rattle.std.proofs.Common.{ap, ◌∙◌, sym}
use Rattle.sc_tables.specs.Grammar.{fault_in, entries_in}
use Rattle.sc_tables.specs.Relative.{rts_of, rts_fault_of}
use Rattle.sc_tables.proofs.loading.load_rts.Goals as goal

pub returns-in-Err-clause-fault : goal.returns-in-Err-clause-fault
unfolding rts_fault_of
returns-in-Err-clause-fault c = ap fault_in c.in-Err.ensures.fault

pub returns-in-Ok-clause-fault : goal.returns-in-Ok-clause-fault
unfolding rts_fault_of
returns-in-Ok-clause-fault c = ap fault_in c.in-Ok.ensures.stored

pub returns-in-Ok-clause-table : goal.returns-in-Ok-clause-table
unfolding rts_of
returns-in-Ok-clause-table c = c.of.ensures ∙ sym (ap entries_in c.in-Ok.ensures.stored)
