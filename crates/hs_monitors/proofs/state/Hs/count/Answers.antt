use Rattle.std.proofs.Common.{◌∷◌, ◌++◌, [], refl, subst, sym, ◌∙◌}
use Rattle.histories.specs.Entries.Entry.{Woken}
use Rattle.hs_monitors.specs.Histories.{apps_after}
use Rattle.hs_monitors.specs.Watches.{watch_at}
use Rattle.hs_monitors.specs.Attempts.{past_of}
use Rattle.hs_monitors.specs.Entries.{KeptStands}
use Rattle.hs_monitors.specs.State.{Stands}
use Rattle.hs_monitors.proofs.Idling.{counted_attempts, counted_kept, quiet_items, quiet_stands}
use Rattle.hs_monitors.proofs.state.Hs.count.Goals as goal

pub returns-clause-stands : goal.returns-clause-stands
unfolding Stands
returns-clause-stands c = λ setup history i quiet silent alone stood.
    let kept = c.args.self.now.duty.kept in
    let cool = c.requires.cool setup.tables.acts (past_of setup history) stood.duty.actions in
    let on = sym stood.duty.monitoring ∙ c.requires.on in
    let none = counted_attempts setup history i quiet silent alone cool on kept stood.duty.kept c.requires.soon in
    quiet_stands setup history i quiet cool none c.args.self.now _ refl refl refl refl refl refl
    (subst (KeptStands (apps_after setup (history ++ Woken i ∷ [])) (watch_at (history ++ Woken i ∷ []) [])) (sym c.count.ensures)
    (counted_kept setup history i quiet silent alone cool on kept stood.duty.kept c.requires.soon))
    stood

pub returns-clause-items : goal.returns-clause-items
unfolding Stands
returns-clause-items c = λ setup history i quiet silent alone stood.
    let kept = c.args.self.now.duty.kept in
    let cool = c.requires.cool setup.tables.acts (past_of setup history) stood.duty.actions in
    let on = sym stood.duty.monitoring ∙ c.requires.on in
    quiet_items setup history i quiet cool (counted_attempts setup history i quiet silent alone cool on kept stood.duty.kept c.requires.soon)
