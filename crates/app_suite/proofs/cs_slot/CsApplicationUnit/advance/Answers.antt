use Rattle.std.proofs.Common.{List, ap, sym, ◌∙◌}
use Rattle.cs_slices.specs.Tables.{pair_of}
use Rattle.cs_slices.specs.Wakeups.{Input, input_of}
use Rattle.cs_slices.specs.declared.segments.Segment.{Segment}
use Rattle.cs_slices.proofs.Histories.{tables_woken}
use Rattle.app_suite.specs.Applications.{cs_tables}
use Rattle.app_suite.proofs.cs_slot.CsApplicationUnit.advance.Goals as goal

pub returns-clause-stands : goal.returns-clause-stands
returns-clause-stands c = λ setup history belongs stands.
    let reads = c.args.reads.now in
    let input : Input = input_of reads.time c.args.commands.now reads.window in
    let tables = ap (λ (table : List Segment). pair_of table c.memory.result.now) c.eeprom.ensures ∙ ap (λ (table : List Segment). pair_of reads.tables.now.set.eeprom table) c.memory.ensures in
    (stands.0 ∙ sym (tables_woken (cs_tables setup.first) history input), c.advance.ensures.stands (cs_tables setup.first) history (tables ∙ belongs ∙ stands.0) stands.1)

pub returns-clause-items : goal.returns-clause-items
returns-clause-items c = λ setup history belongs stands.
    let tables = ap (λ (table : List Segment). pair_of table c.memory.result.now) c.eeprom.ensures ∙ ap (λ (table : List Segment). pair_of c.args.reads.now.tables.now.set.eeprom table) c.memory.ensures in
    c.advance.ensures.items (cs_tables setup.first) history (tables ∙ belongs ∙ stands.0) stands.1
