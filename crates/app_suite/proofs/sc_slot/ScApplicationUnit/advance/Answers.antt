use Rattle.std.proofs.Common.{sym, ◌∙◌}
use Rattle.sc_sequences.specs.Histories.{Input, input_of}
use Rattle.sc_sequences.proofs.Loaded.{tables_woken}
use Rattle.app_suite.specs.Applications.{sc_begun}
use Rattle.app_suite.proofs.sc_slot.ScApplicationUnit.advance.Goals as goal

pub returns-clause-stands : goal.returns-clause-stands
returns-clause-stands c = λ setup history belongs stands.
    let input : Input = input_of c.args.reads.now.time c.args.commands.now in
    (stands.0 ∙ sym (tables_woken (sc_begun setup) history input), c.advance.ensures.stands (sc_begun setup) history (c.sc.ensures ∙ belongs ∙ stands.0) stands.1)

pub returns-clause-items : goal.returns-clause-items
returns-clause-items c = λ setup history belongs stands. c.advance.ensures.items (sc_begun setup) history (c.sc.ensures ∙ belongs ∙ stands.0) stands.1
