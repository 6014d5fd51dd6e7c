-- The state once a table became active.
use Rattle.std.proofs.Common.{◌≡◌, List, [], ◌∷◌, ◌++◌, Option, Some, None, refl, sym, ap, subst, ◌∙◌}
use Rattle.histories.specs.Entries.{replaced_by}
use Rattle.histories.specs.Entries.Entry.{Activated}
use Rattle.histories.proofs.Entries.{in_force_activated}
use Rattle.commands.specs.Counting.{counts_of}
use Rattle.table_files.specs.declared.kinds.TableKind.{TableKind}
use Rattle.hs_tables.specs.declared.tables.HsTables.{HsTables}
use Rattle.hs_tables.specs.declared.apps.AppRow.{AppRow}
use Rattle.hs_tables.specs.declared.events.EventRow.{EventRow}
use Rattle.hs_tables.specs.declared.counters.CountRow.{CountRow}
use Rattle.hs_actions.specs.Outcomes.{Past}
use Rattle.hs_actions.specs.State.{ActionsStand}
use Rattle.hs_actions.specs.declared.state.Actions.{Actions}
use Rattle.hs_monitors.specs.Histories.{Activation, HsEntry, Setup, apps_in, apps_after, events_in, events_after}
use Rattle.hs_monitors.specs.Histories.Activation.{Apps, Events, Counts}
use Rattle.hs_monitors.specs.Orders.{orders_of, is_on, is_listening}
use Rattle.hs_monitors.specs.Watches.{watch_of, watch_at}
use Rattle.hs_monitors.specs.Monitors.{places_of}
use Rattle.hs_monitors.specs.Events.{SendersStand}
use Rattle.hs_monitors.specs.Attempts.{past_of}
use Rattle.hs_monitors.specs.Entries.{KeptStands}
use Rattle.hs_monitors.specs.State.{Stands, activation_of}
use Rattle.hs_monitors.specs.declared.heads.Heads.{Heads}
use Rattle.hs_monitors.specs.declared.instructions.Instruction.{Instruction}
use Rattle.hs_monitors.specs.declared.state.Hs.{Hs}
use Rattle.hs_monitors.proofs.Following.{orders_activated, heard_activated, watch_unordered, watch_apps, watch_events, watch_counts, past_activated}
use Rattle.hs_monitors.proofs.Obeying.{entries_as, senders_as}

module _ (setup : Setup) (history : List HsEntry) (a : Activation) (old new : Hs) (stood : Stands setup history old)
    (counts : new.counts ≡ old.counts) (monitoring : new.duty.monitoring ≡ old.duty.monitoring) (listening : new.duty.listening ≡ old.duty.listening) (actions : new.duty.actions ≡ old.duty.actions) where
  orders_same : orders_of history ++ [] ≡ orders_of (history ++ Activated a ∷ []) ++ []
  orders_same = ap (λ (orders : List Instruction). orders ++ []) (sym (orders_activated history a))

  -- by the places and what is kept of the application monitors
  activated_by : new.duty.places ≡ places_of (apps_after setup (history ++ Activated a ∷ [])) → KeptStands (apps_after setup (history ++ Activated a ∷ [])) (watch_at (history ++ Activated a ∷ []) []) new.duty.kept
      → SendersStand (events_after setup (history ++ Activated a ∷ [])) new.duty.senders → Stands setup (history ++ Activated a ∷ []) new
  unfolding Stands
  activated_by places kept senders = record {
    counts = counts ∙ stood.counts ∙ ap counts_of (sym (heard_activated history a));
    duty = record {
      monitoring = monitoring ∙ stood.duty.monitoring ∙ ap is_on orders_same;
      listening = listening ∙ stood.duty.listening ∙ ap is_listening orders_same;
      places = places;
      kept = kept;
      senders = senders;
      actions =
          subst (λ (x : Actions). ActionsStand setup.tables.acts (past_of setup (history ++ Activated a ∷ [])) x) (sym actions)
          (subst (λ (p : Past). ActionsStand setup.tables.acts p old.duty.actions) (sym (past_activated setup history a)) stood.duty.actions);
    };
  }

-- the event monitors where others aren't activated
events_same : (setup : Setup) (history : List HsEntry) (a : Activation) → events_in a ≡ None → events_after setup history ≡ events_after setup (history ++ Activated a ∷ [])
events_same setup history a none = sym (in_force_activated events_in setup.tables.events history a ∙ ap (λ (found : Option (List EventRow)). replaced_by found (events_after setup history)) none)

-- what a kind activates
pub activates : (tables : HsTables) (kind named : TableKind) (x a : Activation) → kind ≡ named → activation_of named tables ≡ Some x → activation_of kind tables ≡ Some a → a ≡ x
activates tables kind named x a is here given = same (sym (sym (ap (λ (k : TableKind). activation_of k tables) is ∙ here) ∙ given))
  where
    same : ◌≡◌ {A = Option Activation} (Some a) (Some x) → a ≡ x
    same e = cc

-- other application monitors
pub apps_activated : (setup : Setup) (history : List HsEntry) (rows : List AppRow) (a : Activation) (old new : Hs) → a ≡ Apps rows → new.counts ≡ old.counts → new.duty.monitoring ≡ old.duty.monitoring
    → new.duty.listening ≡ old.duty.listening → new.duty.actions ≡ old.duty.actions → new.duty.senders ≡ old.duty.senders → new.duty.places ≡ places_of rows → KeptStands rows [] new.duty.kept
    → Stands setup history old → Stands setup (history ++ Activated a ∷ []) new
unfolding Stands
apps_activated setup history rows a old new is counts monitoring listening actions senders places kept stood =
    let apps : rows ≡ apps_after setup (history ++ Activated a ∷ []) = sym (in_force_activated apps_in setup.tables.apps history a ∙ ap (λ (x : Activation). replaced_by (apps_in x) (apps_after setup history)) is) in
    let anew : [] ≡ watch_at (history ++ Activated a ∷ []) [] = sym (watch_unordered (history ++ Activated a ∷ []) ∙ ap (λ (x : Activation). watch_of (history ++ Activated x ∷ [])) is ∙ watch_apps history rows) in
    activated_by setup history a old new stood counts monitoring listening actions (places ∙ ap places_of apps) (entries_as rows (apps_after setup (history ++ Activated a ∷ [])) [] (watch_at (history ++ Activated a ∷ []) []) new.duty.kept apps anew kept)
    (senders_as (events_after setup history) (events_after setup (history ++ Activated a ∷ [])) old.duty.senders new.duty.senders (events_same setup history a (ap events_in is)) senders stood.duty.senders)

-- tables but those of the application monitors
kept_activated : (setup : Setup) (history : List HsEntry) (a : Activation) (old new : Hs) → apps_in a ≡ None → watch_of (history ++ Activated a ∷ []) ≡ watch_of history → new.counts ≡ old.counts → new.duty.monitoring ≡ old.duty.monitoring
    → new.duty.listening ≡ old.duty.listening → new.duty.actions ≡ old.duty.actions → new.duty.places ≡ old.duty.places → new.duty.kept ≡ old.duty.kept → SendersStand (events_after setup (history ++ Activated a ∷ [])) new.duty.senders
    → Stands setup history old → Stands setup (history ++ Activated a ∷ []) new
unfolding Stands
kept_activated setup history a old new none same counts monitoring listening actions places kept senders stood =
    let apps : apps_after setup history ≡ apps_after setup (history ++ Activated a ∷ []) = sym (in_force_activated apps_in setup.tables.apps history a ∙ ap (λ (found : Option (List AppRow)). replaced_by found (apps_after setup history)) none) in
    let checks : watch_at history [] ≡ watch_at (history ++ Activated a ∷ []) [] = watch_unordered history ∙ sym (watch_unordered (history ++ Activated a ∷ []) ∙ same) in
    activated_by setup history a old new stood counts monitoring listening actions (places ∙ stood.duty.places ∙ ap places_of apps)
    (subst (KeptStands (apps_after setup (history ++ Activated a ∷ [])) (watch_at (history ++ Activated a ∷ []) [])) (sym kept)
    (entries_as (apps_after setup history) (apps_after setup (history ++ Activated a ∷ [])) (watch_at history []) (watch_at (history ++ Activated a ∷ []) []) old.duty.kept apps checks stood.duty.kept))
    senders

pub events_activated : (setup : Setup) (history : List HsEntry) (rows : List EventRow) (a : Activation) (old : Hs) (senders : Heads) → a ≡ Events rows → SendersStand rows senders → Stands setup history old
    → Stands setup (history ++ Activated a ∷ []) (record old { duty = record old.duty { senders = senders } })
events_activated setup history rows a old senders is named stood =
    let new : Hs = record old { duty = record old.duty { senders = senders } } in
    let events : rows ≡ events_after setup (history ++ Activated (Events rows) ∷ []) = sym (in_force_activated events_in setup.tables.events history (Events rows)) in
    subst (λ (x : Activation). Stands setup (history ++ Activated x ∷ []) new) (sym is)
    (kept_activated setup history (Events rows) old new refl (watch_events history rows) refl refl refl refl refl refl (senders_as rows (events_after setup (history ++ Activated (Events rows) ∷ [])) senders senders events refl named) stood)

pub counts_activated : (setup : Setup) (history : List HsEntry) (rows : List CountRow) (a : Activation) (hs : Hs) → a ≡ Counts rows → Stands setup history hs → Stands setup (history ++ Activated a ∷ []) hs
unfolding Stands
counts_activated setup history rows a hs is stood =
    subst (λ (x : Activation). Stands setup (history ++ Activated x ∷ []) hs) (sym is)
    (kept_activated setup history (Counts rows) hs hs refl (watch_counts history rows) refl refl refl refl refl refl
    (senders_as (events_after setup history) (events_after setup (history ++ Activated (Counts rows) ∷ [])) hs.duty.senders hs.duty.senders (events_same setup history (Counts rows) refl) refl stood.duty.senders) stood)
