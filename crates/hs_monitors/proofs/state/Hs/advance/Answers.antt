use Rattle.std.proofs.Common.{◌≡◌, ◌++◌, ◌∷◌, [], List, cond, refl, sym, ap, subst, ◌∙◌}
use Rattle.commands.specs.Counting.{counts_of}
use Rattle.hs_monitors.specs.Histories.{Input, HsEntry, Setup, input_of, apps_after, tables_after}
use Rattle.hs_monitors.specs.Orders.{ordered_at}
use Rattle.hs_monitors.specs.Watches.{watch_at}
use Rattle.hs_monitors.specs.Step.{turn_of}
use Rattle.hs_monitors.specs.Entries.{KeptStands}
use Rattle.hs_monitors.specs.State.{Stands}
use Rattle.hs_monitors.specs.declared.kept.Kept.{Kept}
use Rattle.hs_monitors.proofs.Following.{heard_woken}
use Rattle.hs_monitors.proofs.Waking.{Wakes, woken_stand, woken_items, performs_on, kept_on, kept_in_force, places_on, senders_on}
use Rattle.hs_monitors.proofs.state.Hs.advance.Goals as goal
use Rattle.hs_monitors.proofs.state.Hs.advance.Goals.{After-hear_events}

-- what was done behind the commands
waking : (c : After-hear_events) (setup : Setup) (history : List HsEntry) → c.args.tables.now ≡ tables_after setup history → Stands setup history c.args.self.now
    → Wakes setup history (input_of c.args.now c.args.input.now) c.handle_all.new.state c.hear_events.new.self c.handle_all.new.out c.hear_events.new.out
unfolding Stands
waking c setup history in_force stood =
    let input : Input = input_of c.args.now c.args.input.now in
    let tables = c.args.tables.now in
    let counters = c.args.input.now.counters.now in
    let checks = watch_at history (ordered_at input) in
    let before = c.handle_all.new.state in
    let middle = c.check_apps.new.self in
    let at = c.handle_all.ensures.stands (turn_of setup history input) (in_force, refl, refl) (c.tick.ensures setup history stood.duty) in
    let places = places_on setup history tables before.places in_force at.places in
    let kept = kept_on setup history tables checks before.kept in_force at.kept in
    let same = c.check_apps.ensures.same in
    record {
      stood = at;
      monitoring = c.hear_events.ensures.same.0 ∙ same.0;
      listening = c.hear_events.ensures.same.1 ∙ same.1;
      places = c.hear_events.ensures.same.2 ∙ same.2;
      senders = c.hear_events.ensures.same.4 ∙ same.3;
      kept =
          subst (λ (ws : Kept). KeptStands (apps_after setup history) (cond before.monitoring (checks ++ counters ∷ []) checks) ws) (sym c.hear_events.ensures.same.3)
          (kept_in_force setup history tables (cond before.monitoring (checks ++ counters ∷ []) checks) middle.kept in_force (c.check_apps.ensures.kept checks places kept));
      performs =
          performs_on setup history tables c.args.now before.monitoring before.listening middle.listening checks counters c.args.input.now.events.now before.actions middle.actions c.hear_events.new.self.actions
          c.handle_all.new.out c.check_apps.new.out c.hear_events.new.out in_force same.1 (c.check_apps.ensures.performs checks places kept) (c.hear_events.ensures.performs (senders_on setup history tables before.senders middle.senders in_force same.3 at.senders));
    }

pub returns-clause-stands : goal.returns-clause-stands
unfolding Stands
returns-clause-stands c = λ setup history in_force stood.
    let input : Input = input_of c.args.now c.args.input.now in
    record {
      counts =
          c.handle_all.ensures.counts (turn_of setup history input) (in_force, refl, refl) (c.tick.ensures setup history stood.duty) stood.counts
          ∙ ap counts_of (sym (heard_woken history input));
      duty = woken_stand setup history input c.handle_all.new.state c.hear_events.new.self c.handle_all.new.out c.hear_events.new.out (waking c setup history in_force stood);
    }

pub returns-clause-items : goal.returns-clause-items
unfolding Stands
returns-clause-items c = λ setup history in_force stood.
    let input : Input = input_of c.args.now c.args.input.now in
    woken_items setup history input c.handle_all.new.state c.hear_events.new.self c.handle_all.new.out c.hear_events.new.out (waking c setup history in_force stood) c.args.out.now c.requires.empty
    (c.handle_all.ensures.items (turn_of setup history input) (in_force, refl, refl) (c.tick.ensures setup history stood.duty) stood.counts)

pub returns-clause-counted : goal.returns-clause-counted
returns-clause-counted c = c.hear_events.ensures.counted (c.check_apps.ensures.counted c.handle_all.ensures.counted)
