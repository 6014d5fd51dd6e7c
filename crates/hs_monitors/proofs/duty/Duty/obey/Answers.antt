use Rattle.std.proofs.Common.{List, [], refl, sym, subst, cond}
use Rattle.hs_tables.specs.declared.apps.AppRow.{AppRow}
use Rattle.hs_actions.specs.State.{ActionsStand}
use Rattle.hs_actions.specs.declared.state.Actions.{Actions}
use Rattle.hs_monitors.specs.Watches.{watch_at}
use Rattle.hs_monitors.specs.Attempts.{past_in}
use Rattle.hs_monitors.specs.Entries.{KeptStands}
use Rattle.hs_monitors.specs.declared.instructions.Instruction.TheVariants.{Plain, Monitor, Listen, Clear, Limit}
use Rattle.hs_monitors.proofs.Obeying.{obeyed, actions_left}
use Rattle.hs_monitors.proofs.duty.Duty.obey.Goals as goal

pub returns-in-Plain : goal.returns-in-Plain
returns-in-Plain c = λ setup history orders apps stood.
    let self = c.args.self.now in
    rw c.in-Plain.is (obeyed setup history orders Plain self self refl refl refl stood.kept refl (actions_left setup history orders self.actions stood.actions) stood)

pub returns-in-Monitor : goal.returns-in-Monitor
returns-in-Monitor c = λ setup history orders apps stood.
    let self = c.args.self.now in
    let new = c.monitor.new.self in
    let checks = watch_at history orders in
    let on = c.in-Monitor.on in
    rw c.in-Monitor.is (
    obeyed setup history orders (Monitor on) self new c.monitor.ensures.monitoring c.monitor.ensures.listening c.monitor.ensures.places
    (subst (λ (rows : List AppRow). KeptStands rows (cond on [] checks) new.kept) apps
    (c.monitor.ensures.kept checks (subst (λ (rows : List AppRow). KeptStands rows checks self.kept) (sym apps) stood.kept)))
    c.monitor.ensures.senders
    (actions_left setup history orders new.actions (subst (λ (a : Actions). ActionsStand setup.tables.acts (past_in setup history orders) a) (sym c.monitor.ensures.actions) stood.actions))
    stood)

pub returns-in-Listen : goal.returns-in-Listen
returns-in-Listen c = λ setup history orders apps stood.
    let self = c.args.self.now in
    rw c.in-Listen.is (obeyed setup history orders (Listen c.in-Listen.on) self _ refl refl refl stood.kept refl (actions_left setup history orders self.actions stood.actions) stood)

pub returns-in-Clear : goal.returns-in-Clear
returns-in-Clear c = λ setup history orders apps stood.
    let self = c.args.self.now in
    rw c.in-Clear.is (obeyed setup history orders Clear self _ refl refl refl stood.kept refl (c.clear_resets.ensures setup.tables.acts (past_in setup history orders) stood.actions) stood)

pub returns-in-Limit : goal.returns-in-Limit
returns-in-Limit c = λ setup history orders apps stood.
    let self = c.args.self.now in
    rw c.in-Limit.is (obeyed setup history orders (Limit c.in-Limit.max) self _ refl refl refl stood.kept refl (c.set_max.ensures setup.tables.acts (past_in setup history orders) stood.actions) stood)
