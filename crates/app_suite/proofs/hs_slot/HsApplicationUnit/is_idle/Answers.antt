use Rattle.std.proofs.Common.{refl, sym, ◌∙◌}
use Rattle.hs_monitors.specs.Histories.{Input}
use Rattle.app_suite.specs.Applications.{hs_setup}
use Rattle.app_suite.proofs.Health.{tables_woken}
use Rattle.app_suite.proofs.hs_slot.HsApplicationUnit.is_idle.Goals as goal

pub returns-clause-stands : goal.returns-clause-stands
returns-clause-stands c = λ setup history idle belongs stands.
    let reads = c.args.reads.now in
    let input : Input = record { time = reads.time; commands = c.args.commands.now; seen = record { events = reads.events.now; counters = reads.counters.now } } in
    (stands.0 ∙ sym (tables_woken (hs_setup setup) history input), c.is_idle.ensures.stands (hs_setup setup) history input idle refl (sym c.packets.ensures.value) stands.1)
