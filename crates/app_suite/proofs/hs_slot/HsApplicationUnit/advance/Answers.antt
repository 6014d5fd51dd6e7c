use Rattle.std.proofs.Common.{ℕ, List, ◌∷◌, [], ◌++◌, ap, sym, subst, ◌∙◌}
use Rattle.histories.specs.Entries.Entry.{Woken}
use Rattle.hs_monitors.specs.Histories.{Input}
use Rattle.hs_monitors.specs.State.{Stands}
use Rattle.hs_monitors.specs.Step.{hs_items}
use Rattle.app_suite.specs.Applications.{hs_setup}
use Rattle.app_suite.proofs.Health.{tables_woken}
use Rattle.app_suite.proofs.hs_slot.HsApplicationUnit.advance.Goals as goal

pub returns-clause-stands : goal.returns-clause-stands
returns-clause-stands c = λ setup history belongs stands.
    let reads = c.args.reads.now in
    let input : List (List ℕ) → Input = λ events. record { time = reads.time; commands = c.args.commands.now; seen = record { events = events; counters = reads.counters.now } } in (
      stands.0 ∙ sym (tables_woken (hs_setup setup) history (input reads.events.now)),
      subst (λ (events : List (List ℕ)). Stands (hs_setup setup) (history ++ Woken (input events) ∷ []) c.advance.new.self) c.packets.ensures.value
          (c.advance.ensures.stands (hs_setup setup) history (c.hs.ensures ∙ belongs ∙ stands.0) stands.1),
    )

pub returns-clause-items : goal.returns-clause-items
returns-clause-items c = λ setup history belongs stands.
    let reads = c.args.reads.now in
    let input : List (List ℕ) → Input = λ events. record { time = reads.time; commands = c.args.commands.now; seen = record { events = events; counters = reads.counters.now } } in
    c.advance.ensures.items (hs_setup setup) history (c.hs.ensures ∙ belongs ∙ stands.0) stands.1 ∙ ap (λ (events : List (List ℕ)). hs_items (hs_setup setup) history (input events)) c.packets.ensures.value
