use Rattle.std.proofs.Common.{refl, sym, ◌∙◌}
use Rattle.sc_sequences.specs.Histories.{Input, input_of}
use Rattle.sc_sequences.proofs.Loaded.{tables_woken}
use Rattle.app_suite.specs.Applications.{sc_begun}
use Rattle.app_suite.proofs.sc_slot.ScApplicationUnit.is_idle.Goals as goal

pub returns-clause-stands : goal.returns-clause-stands
returns-clause-stands c = λ setup history idle belongs stands.
    let input : Input = input_of c.args.reads.now.time c.args.commands.now in
    (stands.0 ∙ sym (tables_woken (sc_begun setup) history input), c.is_idle.ensures.stands (sc_begun setup) history input idle refl refl stands.1)
