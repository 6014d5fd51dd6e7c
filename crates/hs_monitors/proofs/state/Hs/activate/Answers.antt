use Rattle.std.proofs.Common.{[], ◌∷◌, ◌++◌, refl, sym, subst}
use Rattle.histories.specs.Entries.Entry.{Activated}
use Rattle.table_files.specs.declared.kinds.TableKind.TheVariants.{AppMon, EventMon, ExeCount}
use Rattle.hs_monitors.specs.Histories.Activation.{Apps, Events, Counts}
use Rattle.hs_monitors.specs.State.{Stands}
use Rattle.hs_monitors.specs.declared.duty.Duty.{Duty}
use Rattle.hs_monitors.proofs.Activating.{activates, apps_activated, events_activated, counts_activated}
use Rattle.hs_monitors.proofs.state.Hs.activate.Goals as goal

pub returns-in-AppMon-clause-stands : goal.returns-in-AppMon-clause-stands
returns-in-AppMon-clause-stands c = λ setup history a is stood.
    let e = c.take_apps.ensures in
    let tables = c.args.tables.now in
    apps_activated setup history tables.apps a c.args.self.now _ (activates tables c.args.kind AppMon (Apps tables.apps) a c.in-AppMon.is refl is) refl e.monitoring e.listening e.actions e.senders e.places e.kept stood

pub returns-in-EventMon-clause-stands : goal.returns-in-EventMon-clause-stands
returns-in-EventMon-clause-stands c = λ setup history a is stood.
    let tables = c.args.tables.now in
    let self = c.args.self.now in
    subst (λ (duty : Duty). Stands setup (history ++ Activated a ∷ []) (record self { duty = duty })) (sym c.take_events.ensures.same)
    (events_activated setup history tables.events a self c.take_events.new.self.senders (activates tables c.args.kind EventMon (Events tables.events) a c.in-EventMon.is refl is) c.take_events.ensures.senders stood)

pub returns-in-ExeCount-clause-stands : goal.returns-in-ExeCount-clause-stands
returns-in-ExeCount-clause-stands c = λ setup history a is stood.
    let tables = c.args.tables.now in
    counts_activated setup history tables.counts a c.args.self.now (activates tables c.args.kind ExeCount (Counts tables.counts) a c.in-ExeCount.is refl is) stood
