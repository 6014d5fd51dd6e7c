-- A history at one more order of the next wakeup, and at one more entry.
use Rattle.std.proofs.Common.{◌≡◌, ℕ, ◌+◌, Bool, true, false, cond, ◌||◌, List, [], ◌∷◌, ◌++◌, length, Option, Some, None, refl, sym, ap, ◌∙◌, append-nil, append_assoc, length-append}
use Rattle.std.specs.Prelude.{filter_map, unwrap_or}
use Rattle.std.specs.List.{cons_option}
use Rattle.std.proofs.lemmas.List.Elements.{filter_map-append}
use Rattle.histories.specs.Words.{along, from_last, last_or}
use Rattle.histories.specs.Entries.{wakeups}
use Rattle.histories.specs.Entries.Entry.{Woken, Activated}
use Rattle.histories.proofs.Along.{along_more, along_none, joined_more, joined_none}
use Rattle.histories.proofs.Lasts.{any_push, from_last_more, last_or_more}
use Rattle.histories.proofs.Fronts.{flat_map_more}
use Rattle.histories.proofs.Entries.{wakeups_woken, wakeups_activated, wakeups_none}
use Rattle.hs_tables.specs.declared.apps.AppRow.{AppRow}
use Rattle.hs_tables.specs.declared.events.EventRow.{EventRow}
use Rattle.hs_tables.specs.declared.counters.CountRow.{CountRow}
use Rattle.commands.proofs.Heard.{heard_more, heard_none, heard_idle}
use Rattle.hs_actions.specs.Happenings.{Happening}
use Rattle.hs_actions.specs.Outcomes.{Past, in_next_wakeup, with_more}
use Rattle.hs_actions.proofs.Series.{more_none, more_both}
use Rattle.hs_monitors.specs.Verdicts.{hs_protocol}
use Rattle.hs_monitors.specs.Histories.{Input, Activation, HsEntry, Setup, packets_in}
use Rattle.hs_monitors.specs.Histories.Activation.{Apps, Events, Counts}
use Rattle.hs_monitors.specs.Orders.{heard_at, ordered_at, orders_at, orders_of, monitor_in, listen_in, refreshes, is_on, is_listening, refreshed_by, by_order, by_orders}
use Rattle.hs_monitors.specs.Watches.{Mark, mark_of, watch_of, watch_at}
use Rattle.hs_monitors.specs.Attempts.{by_monitors, happened_at, happened_of, past_of, past_in}
use Rattle.hs_monitors.specs.Step.{hs_heard}
use Rattle.hs_monitors.specs.declared.instructions.Instruction.{Instruction}

-- the last switching at one more order
last_switch : (f : Instruction → Option Bool) (orders : List Instruction) (o : Instruction) → last_or true (filter_map f (orders ++ o ∷ [])) ≡ unwrap_or (f o) (last_or true (filter_map f orders))
last_switch f orders o = ap (last_or true) (filter_map-append f orders (o ∷ [])) ∙ by_option (f o)
  where
    by_option : (found : Option Bool) → last_or true (filter_map f orders ++ cons_option found []) ≡ unwrap_or found (last_or true (filter_map f orders))
    by_option None = ap (last_or true) (append-nil (filter_map f orders))
    by_option (Some on) = last_or_more true (filter_map f orders) on

pub on_more : (before orders : List Instruction) (o : Instruction) → is_on (before ++ (orders ++ o ∷ [])) ≡ unwrap_or (monitor_in o) (is_on (before ++ orders))
unfolding is_on
on_more before orders o = ap is_on (sym (append_assoc before orders (o ∷ []))) ∙ last_switch monitor_in (before ++ orders) o

pub listening_more : (before orders : List Instruction) (o : Instruction) → is_listening (before ++ (orders ++ o ∷ [])) ≡ unwrap_or (listen_in o) (is_listening (before ++ orders))
unfolding is_listening
listening_more before orders o = ap is_listening (sym (append_assoc before orders (o ∷ []))) ∙ last_switch listen_in (before ++ orders) o

-- the watch at one more order
refreshed_more : (orders : List Instruction) (o : Instruction) → refreshed_by (orders ++ o ∷ []) ≡ (refreshed_by orders || refreshes o)
unfolding refreshed_by
refreshed_more orders o = any_push refreshes orders o

pub watch_ordered : (history : List HsEntry) (orders : List Instruction) (o : Instruction) → watch_at history (orders ++ o ∷ []) ≡ cond (refreshes o) [] (watch_at history orders)
unfolding watch_at
watch_ordered history orders o = ap (λ (t : Bool). cond t [] (watch_of history)) (refreshed_more orders o) ∙ by_case (refreshed_by orders) (refreshes o)
  where
    by_case : (a b : Bool) → cond (a || b) [] (watch_of history) ≡ cond b [] (cond a [] (watch_of history))
    by_case true true = refl
    by_case true false = refl
    by_case false true = refl
    by_case false false = refl

pub watch_unordered : (history : List HsEntry) → watch_at history [] ≡ watch_of history
unfolding watch_at refreshed_by
watch_unordered history = refl

-- what happens to the actions, at no order and at one more
pub by_none : by_orders [] ≡ []
unfolding by_orders
by_none = refl

by_orders_more : (orders : List Instruction) (o : Instruction) → by_orders (orders ++ o ∷ []) ≡ by_orders orders ++ by_order o
unfolding by_orders
by_orders_more orders o = flat_map_more by_order orders o

pub past_unordered : (setup : Setup) (history : List HsEntry) → past_in setup history [] ≡ in_next_wakeup (past_of setup history)
past_unordered setup history = ap (with_more (in_next_wakeup (past_of setup history))) by_none ∙ more_none (in_next_wakeup (past_of setup history))

pub past_ordered : (setup : Setup) (history : List HsEntry) (orders : List Instruction) (o : Instruction) → past_in setup history (orders ++ o ∷ []) ≡ with_more (past_in setup history orders) (by_order o)
past_ordered setup history orders o =
    ap (with_more (in_next_wakeup (past_of setup history))) (by_orders_more orders o)
    ∙ sym (more_both (in_next_wakeup (past_of setup history)) (by_orders orders) (by_order o))

-- what was ordered, at no entry and at one more
pub orders_none : orders_of [] ≡ []
unfolding orders_of
orders_none = refl

pub orders_more : (history : List HsEntry) (entry : HsEntry) → orders_of (history ++ entry ∷ []) ≡ orders_of history ++ orders_at entry
unfolding orders_of
orders_more history entry = flat_map_more orders_at history entry

pub orders_woken : (history : List HsEntry) (input : Input) → orders_of (history ++ Woken input ∷ []) ++ [] ≡ orders_of history ++ ordered_at input
orders_woken history input = append-nil (orders_of (history ++ Woken input ∷ [])) ∙ orders_more history (Woken input)

pub orders_activated : (history : List HsEntry) (a : Activation) → orders_of (history ++ Activated a ∷ []) ≡ orders_of history
orders_activated history a = orders_more history (Activated a) ∙ append-nil (orders_of history)

-- the verdicts
pub heard_before_all : hs_heard [] ≡ []
unfolding hs_heard
heard_before_all = heard_none hs_protocol (λ (earlier : List HsEntry) (e : HsEntry). tt) packets_in

pub heard_woken : (history : List HsEntry) (input : Input) → hs_heard (history ++ Woken input ∷ []) ≡ hs_heard history ++ heard_at input
unfolding hs_heard
heard_woken history input = heard_more hs_protocol (λ (earlier : List HsEntry) (e : HsEntry). tt) packets_in history (Woken input)

pub heard_activated : (history : List HsEntry) (a : Activation) → hs_heard (history ++ Activated a ∷ []) ≡ hs_heard history
unfolding hs_heard
heard_activated history a = heard_idle hs_protocol (λ (earlier : List HsEntry) (e : HsEntry). tt) packets_in history (Activated a) refl

-- the watch
pub watch_none : watch_of [] ≡ []
unfolding watch_of from_last
watch_none = ap (λ (marks : List Mark). filter_map (λ (m : Mark). m.check) (from_last (λ (m : Mark). m.anew) marks)) (along_none mark_of)

watch_marked : (history : List HsEntry) (entry : HsEntry) (m : Mark) → mark_of history entry ≡ m → watch_of (history ++ entry ∷ []) ≡ cond m.anew (cons_option m.check []) (watch_of history ++ cons_option m.check [])
unfolding watch_of
watch_marked history entry m is =
    let before = along mark_of history in
    ap (λ (marks : List Mark). filter_map (λ (x : Mark). x.check) (from_last (λ (x : Mark). x.anew) marks)) (along_more mark_of history entry)
    ∙ ap (λ (x : Mark). filter_map (λ (y : Mark). y.check) (from_last (λ (y : Mark). y.anew) (before ++ x ∷ []))) is
    ∙ ap (filter_map (λ (x : Mark). x.check)) (from_last_more (λ (x : Mark). x.anew) before m)
    ∙ by_case m.anew
  where
    by_case : (b : Bool) → filter_map (λ (x : Mark). x.check) (cond b (m ∷ []) (from_last (λ (x : Mark). x.anew) (along mark_of history) ++ m ∷ []))
        ≡ cond b (cons_option m.check []) (filter_map (λ (x : Mark). x.check) (from_last (λ (x : Mark). x.anew) (along mark_of history)) ++ cons_option m.check [])
    by_case true = refl
    by_case false = filter_map-append (λ (x : Mark). x.check) (from_last (λ (x : Mark). x.anew) (along mark_of history)) (m ∷ [])

pub watch_woken : (history : List HsEntry) (input : Input) → watch_of (history ++ Woken input ∷ []) ≡ cond (is_on (orders_of history ++ ordered_at input)) (watch_at history (ordered_at input) ++ input.seen.counters ∷ []) (watch_at history (ordered_at input))
unfolding watch_at
watch_woken history input = watch_marked history (Woken input) (mark_of history (Woken input)) refl ∙ by_case (refreshed_by (ordered_at input)) (is_on (orders_of history ++ ordered_at input))
  where
    by_case : (anew on : Bool) → cond anew (cons_option (cond on (Some input.seen.counters) None) []) (watch_of history ++ cons_option (cond on (Some input.seen.counters) None) [])
        ≡ cond on (cond anew [] (watch_of history) ++ input.seen.counters ∷ []) (cond anew [] (watch_of history))
    by_case true true = refl
    by_case true false = refl
    by_case false true = refl
    by_case false false = append-nil (watch_of history)

pub watch_apps : (history : List HsEntry) (rows : List AppRow) → watch_of (history ++ Activated (Apps rows) ∷ []) ≡ []
watch_apps history rows = watch_marked history (Activated (Apps rows)) (record { anew = true; check = None }) refl

pub watch_events : (history : List HsEntry) (rows : List EventRow) → watch_of (history ++ Activated (Events rows) ∷ []) ≡ watch_of history
watch_events history rows = watch_marked history (Activated (Events rows)) (record { anew = false; check = None }) refl ∙ append-nil (watch_of history)

pub watch_counts : (history : List HsEntry) (rows : List CountRow) → watch_of (history ++ Activated (Counts rows) ∷ []) ≡ watch_of history
watch_counts history rows = watch_marked history (Activated (Counts rows)) (record { anew = false; check = None }) refl ∙ append-nil (watch_of history)

-- what happened
pub happened_more : (setup : Setup) (history : List HsEntry) (entry : HsEntry) → happened_of setup (history ++ entry ∷ []) ≡ happened_of setup history ++ happened_at setup history entry
unfolding happened_of
happened_more setup history entry = joined_more (happened_at setup) history entry

pub happened_none : (setup : Setup) → happened_of setup [] ≡ []
unfolding happened_of
happened_none setup = joined_none (happened_at setup)

past_by : Setup → ℕ → List Happening → Past
past_by setup count happened = record { begins = record { made = setup.made; max = setup.max }; wakeups = count; happened = happened }

pub past_none : (setup : Setup) → past_of setup [] ≡ record { begins = record { made = setup.made; max = setup.max }; wakeups = 0; happened = [] }
unfolding past_by
past_none setup = ap (λ (n : ℕ). past_by setup n (happened_of setup [])) (ap length (wakeups_none Input Activation)) ∙ ap (past_by setup 0) (happened_none setup)

pub past_woken : (setup : Setup) (history : List HsEntry) (input : Input) → past_of setup (history ++ Woken input ∷ []) ≡ with_more (past_in setup history (ordered_at input)) (by_monitors setup history input)
unfolding past_by
past_woken setup history input =
    ap (λ (n : ℕ). past_by setup n (happened_of setup (history ++ Woken input ∷ []))) (ap length (wakeups_woken history input) ∙ length-append (wakeups history) (input ∷ []))
    ∙ ap (past_by setup (length (wakeups history) + 1))
    (happened_more setup history (Woken input) ∙ sym (append_assoc (happened_of setup history) (by_orders (ordered_at input)) (by_monitors setup history input)))

pub past_activated : (setup : Setup) (history : List HsEntry) (a : Activation) → past_of setup (history ++ Activated a ∷ []) ≡ past_of setup history
unfolding past_by
past_activated setup history a =
    ap (λ (n : ℕ). past_by setup n (happened_of setup (history ++ Activated a ∷ []))) (ap length (wakeups_activated history a))
    ∙ ap (past_by setup (length (wakeups history))) (happened_more setup history (Activated a) ∙ append-nil (happened_of setup history))
