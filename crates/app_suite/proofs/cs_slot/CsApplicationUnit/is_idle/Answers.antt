use Rattle.std.proofs.Common.{refl, sym, ◌∙◌}
use Rattle.cs_slices.specs.Wakeups.{Input, input_of}
use Rattle.cs_slices.proofs.Histories.{tables_woken}
use Rattle.app_suite.specs.Applications.{cs_tables}
use Rattle.app_suite.proofs.cs_slot.CsApplicationUnit.is_idle.Goals as goal

pub returns-clause-stands : goal.returns-clause-stands
returns-clause-stands c = λ setup history idle belongs stands.
    let reads = c.args.reads.now in
    let input : Input = input_of reads.time c.args.commands.now reads.window in
    (stands.0 ∙ sym (tables_woken (cs_tables setup.first) history input), c.is_idle.ensures.stands (cs_tables setup.first) history input idle refl stands.1)
