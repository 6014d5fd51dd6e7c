-- The monitors before the first wakeup, as a wakeup begins, and at one more order.
use Rattle.std.proofs.Common.{◌≡◌, ℕ, true, cond, List, [], ◌∷◌, ◌++◌, refl, sym, ap, subst, ◌∙◌, append-nil}
use Rattle.std.specs.Prelude.{unwrap_or}
use Rattle.histories.specs.Words.{last_or}
use Rattle.histories.proofs.Entries.{in_force_none}
use Rattle.packet_forms.specs.declared.name.Counter.{Counter}
use Rattle.hs_tables.specs.declared.apps.AppRow.{AppRow}
use Rattle.hs_tables.specs.declared.events.EventRow.{EventRow}
use Rattle.hs_tables.specs.declared.actions.ActRow.{ActRow}
use Rattle.hs_tables.specs.declared.tables.HsTables.{HsTables}
use Rattle.hs_actions.specs.Outcomes.{Past, past_from, in_next_wakeup, with_more}
use Rattle.hs_actions.specs.State.{ActionsStand}
use Rattle.hs_actions.specs.declared.state.Actions.{Actions}
use Rattle.hs_actions.proofs.Series.{more_none}
use Rattle.hs_monitors.specs.Histories.{Input, HsEntry, Setup, setup_of, apps_in, apps_after, events_in, events_after}
use Rattle.hs_monitors.specs.Orders.{orders_of, monitor_in, listen_in, refreshes, is_on, is_listening, by_order}
use Rattle.hs_monitors.specs.Watches.{watch_at}
use Rattle.hs_monitors.specs.Monitors.{places_of}
use Rattle.hs_monitors.specs.Events.{SendersStand}
use Rattle.hs_monitors.specs.Attempts.{past_of, past_in}
use Rattle.hs_monitors.specs.Entries.{KeptStands}
use Rattle.hs_monitors.specs.State.{DutyStands}
use Rattle.hs_monitors.specs.declared.instructions.Instruction.{Instruction}
use Rattle.hs_monitors.specs.declared.heads.Heads.{Heads}
use Rattle.hs_monitors.specs.declared.kept.Kept.{Kept}
use Rattle.hs_monitors.specs.declared.duty.Duty.{Duty}
use Rattle.hs_monitors.proofs.Following.{on_more, listening_more, watch_ordered, watch_unordered, watch_none, orders_none, past_none, past_unordered, past_ordered}

-- entries that stand, on equal rows and equal checks
pub entries_as : (rows other : List AppRow) (checks more : List (List Counter)) (kept : Kept) → rows ≡ other → checks ≡ more → KeptStands rows checks kept → KeptStands other more kept
entries_as rows other checks more kept same_rows same_checks stood =
    subst (λ (cs : List (List Counter)). KeptStands other cs kept) same_checks (subst (λ (xs : List AppRow). KeptStands xs checks kept) same_rows stood)

-- names of event monitors that stand, on equal rows
pub senders_as : (rows other : List EventRow) (old new : Heads) → rows ≡ other → new ≡ old → SendersStand rows old → SendersStand other new
senders_as rows other old new same_rows same_heads stood = subst (SendersStand other) (sym same_heads) (subst (λ (xs : List EventRow). SendersStand xs old) same_rows stood)

-- both monitorings are on at the start
on_first : is_on [] ≡ true
unfolding is_on last_or
on_first = refl

listening_first : is_listening [] ≡ true
unfolding is_listening last_or
listening_first = refl

-- before the first wakeup
pub starts_stand : (tables : HsTables) (made limit : ℕ) (m : Duty) → m.monitoring ≡ true → m.listening ≡ true → m.places ≡ places_of tables.apps → KeptStands tables.apps [] m.kept → SendersStand tables.events m.senders
    → ((acts : List ActRow) → ActionsStand acts (past_from made limit) m.actions) → DutyStands (setup_of tables made limit) [] [] (past_of (setup_of tables made limit) []) m
starts_stand tables made limit m monitoring listening places kept senders actions =
    let setup = setup_of tables made limit in
    let apps : tables.apps ≡ apps_after setup [] = sym (in_force_none Input apps_in tables.apps) in
    let none : orders_of [] ++ [] ≡ [] = append-nil (orders_of []) ∙ orders_none in
    record {
      monitoring = monitoring ∙ sym (ap is_on none ∙ on_first);
      listening = listening ∙ sym (ap is_listening none ∙ listening_first);
      places = places ∙ ap places_of apps;
      kept = entries_as tables.apps (apps_after setup []) [] (watch_at [] []) m.kept apps (sym (watch_unordered [] ∙ watch_none)) kept;
      senders = senders_as tables.events (events_after setup []) m.senders m.senders (sym (in_force_none Input events_in tables.events)) refl senders;
      actions = subst (λ (p : Past). ActionsStand tables.acts p m.actions) (sym (past_none setup)) (actions tables.acts);
    }

module _ (setup : Setup) (history : List HsEntry) where
  -- a wakeup begins
  pub ticked_stand : (old new : Duty) → new.monitoring ≡ old.monitoring → new.listening ≡ old.listening → new.places ≡ old.places → new.kept ≡ old.kept → new.senders ≡ old.senders
      → ((acts : List ActRow) (past : Past) → ActionsStand acts past old.actions → ActionsStand acts (in_next_wakeup past) new.actions)
      → DutyStands setup history [] (past_of setup history) old → DutyStands setup history [] (past_in setup history []) new
  ticked_stand old new monitoring listening places kept senders actions stood = record {
    monitoring = monitoring ∙ stood.monitoring;
    listening = listening ∙ stood.listening;
    places = places ∙ stood.places;
    kept = subst (λ (ws : Kept). KeptStands (apps_after setup history) (watch_at history []) ws) (sym kept) stood.kept;
    senders = subst (SendersStand (events_after setup history)) (sym senders) stood.senders;
    actions = subst (λ (p : Past). ActionsStand setup.tables.acts p new.actions) (sym (past_unordered setup history)) (actions setup.tables.acts (past_of setup history) stood.actions);
  }

  -- one order more, by what it makes of each part
  pub obeyed : (orders : List Instruction) (o : Instruction) (old new : Duty) → new.monitoring ≡ unwrap_or (monitor_in o) old.monitoring → new.listening ≡ unwrap_or (listen_in o) old.listening → new.places ≡ old.places
      → KeptStands (apps_after setup history) (cond (refreshes o) [] (watch_at history orders)) new.kept → new.senders ≡ old.senders
      → ActionsStand setup.tables.acts (with_more (past_in setup history orders) (by_order o)) new.actions
      → DutyStands setup history orders (past_in setup history orders) old → DutyStands setup history (orders ++ o ∷ []) (past_in setup history (orders ++ o ∷ [])) new
  obeyed orders o old new monitoring listening places kept senders actions stood = record {
    monitoring = monitoring ∙ ap (unwrap_or (monitor_in o)) stood.monitoring ∙ sym (on_more (orders_of history) orders o);
    listening = listening ∙ ap (unwrap_or (listen_in o)) stood.listening ∙ sym (listening_more (orders_of history) orders o);
    places = places ∙ stood.places;
    kept = subst (λ (cs : List (List Counter)). KeptStands (apps_after setup history) cs new.kept) (sym (watch_ordered history orders o)) kept;
    senders = subst (SendersStand (events_after setup history)) (sym senders) stood.senders;
    actions = subst (λ (p : Past). ActionsStand setup.tables.acts p new.actions) (sym (past_ordered setup history orders o)) actions;
  }

  -- the actions at an order that does nothing to them
  pub actions_left : (orders : List Instruction) (a : Actions) → ActionsStand setup.tables.acts (past_in setup history orders) a → ActionsStand setup.tables.acts (with_more (past_in setup history orders) []) a
  actions_left orders a stood = subst (λ (p : Past). ActionsStand setup.tables.acts p a) (sym (more_none (past_in setup history orders))) stood
