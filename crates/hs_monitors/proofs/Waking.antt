-- The monitors after a wakeup, and what is sent in it.
use Rattle.std.proofs.Common.{◌≡◌, ℕ, Bool, true, false, cond, List, [], ◌∷◌, ◌++◌, length, refl, sym, ap, subst, ◌∙◌}
use Rattle.std.specs.List.{flat_map}
use Rattle.histories.specs.Entries.{wakeups, in_force}
use Rattle.histories.specs.Entries.Entry.{Woken}
use Rattle.histories.proofs.Entries.{in_force_woken}
use Rattle.packet_forms.specs.declared.name.Counter.{Counter}
use Rattle.bus_pipes.specs.Held.{Held, adding}
use Rattle.bus_pipes.specs.declared.names.Out.{Out}
use Rattle.bus_pipes.proofs.Deliveries.{items-adding}
use Rattle.commands.specs.Answering.{command_items}
use Rattle.hs_tables.specs.declared.apps.AppRow.{AppRow}
use Rattle.hs_tables.specs.declared.events.EventRow.{EventRow}
use Rattle.hs_tables.specs.declared.tables.HsTables.{HsTables}
use Rattle.hs_actions.specs.Happenings.{Happening}
use Rattle.hs_actions.specs.Outcomes.{Past, with_more}
use Rattle.hs_actions.specs.Messages.{hs_name}
use Rattle.hs_actions.specs.Answers.{items_of}
use Rattle.hs_actions.specs.State.{ActionsStand}
use Rattle.hs_actions.specs.Performs.{Performs}
use Rattle.hs_actions.specs.declared.state.Actions.{Actions}
use Rattle.hs_actions.proofs.Series.{performs_both}
use Rattle.hs_monitors.specs.Histories.{Input, HsEntry, Setup, apps_in, apps_after, events_in, events_after, tables_after}
use Rattle.hs_monitors.specs.Orders.{heard_at, ordered_at, orders_of, is_on, is_listening}
use Rattle.hs_monitors.specs.Watches.{watch_of, watch_at}
use Rattle.hs_monitors.specs.Monitors.{places_of, app_attempt}
use Rattle.hs_monitors.specs.Events.{SendersStand, event_attempts}
use Rattle.hs_monitors.specs.Attempts.{by_monitors, past_of, past_in}
use Rattle.hs_monitors.specs.Step.{turn_of, hs_answers, hs_items}
use Rattle.hs_monitors.specs.Entries.{KeptStands}
use Rattle.hs_monitors.specs.State.{DutyStands}
use Rattle.hs_monitors.specs.declared.heads.Heads.{Heads}
use Rattle.hs_monitors.specs.declared.kept.Kept.{Kept}
use Rattle.hs_monitors.specs.declared.duty.Duty.{Duty}
use Rattle.hs_monitors.proofs.Following.{orders_woken, watch_woken, watch_unordered, past_woken}
use Rattle.hs_monitors.proofs.Obeying.{entries_as, senders_as}

-- the application monitors in force behind a wakeup
pub apps_woken : (setup : Setup) (history : List HsEntry) (input : Input) → apps_after setup (history ++ Woken input ∷ []) ≡ apps_after setup history
apps_woken setup history input = in_force_woken apps_in setup.tables.apps history input

pub events_woken : (setup : Setup) (history : List HsEntry) (input : Input) → events_after setup (history ++ Woken input ∷ []) ≡ events_after setup history
events_woken setup history input = in_force_woken events_in setup.tables.events history input

-- what both monitors attempt in wakeup k, by what is on and by the watch
abbrev pub attempted : Bool → Bool → List (List Counter) → List Counter → List AppRow → List EventRow → List (List ℕ) → ℕ → List Happening
attempted on listening checks counters apps events packets k =
    cond on (flat_map (app_attempt k (checks ++ counters ∷ [])) apps) [] ++ cond listening (flat_map (event_attempts k events) packets) []

by_watch : (history : List HsEntry) (input : Input) (k : ℕ) (apps : List AppRow) (b : Bool) → is_on (orders_of history ++ ordered_at input) ≡ b
    → cond b (flat_map (app_attempt k (watch_at history (ordered_at input) ++ input.seen.counters ∷ [])) apps) [] ≡ cond b (flat_map (app_attempt k (watch_of (history ++ Woken input ∷ []))) apps) []
by_watch history input k apps true is =
    let checks = watch_at history (ordered_at input) in
    sym (ap (λ (cs : List (List Counter)). flat_map (app_attempt k cs) apps) (watch_woken history input ∙ ap (λ (b : Bool). cond b (checks ++ input.seen.counters ∷ []) checks) is))
by_watch history input k apps false is = refl

attempted_is : (setup : Setup) (history : List HsEntry) (input : Input) (on listening : Bool) → on ≡ is_on (orders_of history ++ ordered_at input) → listening ≡ is_listening (orders_of history ++ ordered_at input)
    → attempted on listening (watch_at history (ordered_at input)) input.seen.counters (apps_after setup history) (tables_after setup history).events input.seen.events (length (wakeups history)) ≡ by_monitors setup history input
unfolding by_monitors
attempted_is setup history input on listening on_is listening_is =
    let k = length (wakeups history) in
    let checks = watch_at history (ordered_at input) in
    let apps = apps_after setup history in
    let heard = λ (b : Bool). cond b (flat_map (event_attempts k (tables_after setup history).events) input.seen.events) [] in
    ap (λ (b : Bool). cond b (flat_map (app_attempt k (checks ++ input.seen.counters ∷ [])) apps) [] ++ heard listening) on_is
    ∙ ap (λ (b : Bool). cond (is_on (orders_of history ++ ordered_at input)) (flat_map (app_attempt k (checks ++ input.seen.counters ∷ [])) apps) [] ++ heard b) listening_is
    ∙ ap (λ (xs : List Happening). xs ++ heard (is_listening (orders_of history ++ ordered_at input))) (by_watch history input k apps (is_on (orders_of history ++ ordered_at input)) refl)

-- What a wakeup does behind its commands: the application monitors may be one check further, and what both monitors attempted was performed.
pub record Wakes (setup : Setup) (history : List HsEntry) (input : Input) (before after : Duty) (mid end : Held Out) : Type 0 where
  pub stood : DutyStands setup history (ordered_at input) (past_in setup history (ordered_at input)) before
  pub monitoring : after.monitoring ≡ before.monitoring
  pub listening : after.listening ≡ before.listening
  pub places : after.places ≡ before.places
  pub kept : KeptStands (apps_after setup history) (cond before.monitoring (watch_at history (ordered_at input) ++ input.seen.counters ∷ []) (watch_at history (ordered_at input))) after.kept
  pub senders : after.senders ≡ before.senders
  pub performs : Performs setup.tables.acts input.time (attempted before.monitoring before.listening (watch_at history (ordered_at input)) input.seen.counters (apps_after setup history) (tables_after setup history).events input.seen.events) before.actions after.actions mid end

module _ (setup : Setup) (history : List HsEntry) (input : Input) (before after : Duty) (mid end : Held Out) (wakes : Wakes setup history input before after mid end) where
  is_by : attempted before.monitoring before.listening (watch_at history (ordered_at input)) input.seen.counters (apps_after setup history) (tables_after setup history).events input.seen.events (length (wakeups history)) ≡ by_monitors setup history input
  is_by = attempted_is setup history input before.monitoring before.listening wakes.stood.monitoring wakes.stood.listening

  -- the monitors behind a wakeup
  pub woken_stand : DutyStands setup (history ++ Woken input ∷ []) [] (past_of setup (history ++ Woken input ∷ [])) after
  woken_stand =
      let checks = watch_at history (ordered_at input) in
      record {
        monitoring = wakes.monitoring ∙ wakes.stood.monitoring ∙ sym (ap is_on (orders_woken history input));
        listening = wakes.listening ∙ wakes.stood.listening ∙ sym (ap is_listening (orders_woken history input));
        places = wakes.places ∙ wakes.stood.places ∙ sym (ap places_of (apps_woken setup history input));
        kept =
            entries_as (apps_after setup history) (apps_after setup (history ++ Woken input ∷ [])) (cond before.monitoring (checks ++ input.seen.counters ∷ []) checks) (watch_at (history ++ Woken input ∷ []) []) after.kept
            (sym (apps_woken setup history input))
            (ap (λ (b : Bool). cond b (checks ++ input.seen.counters ∷ []) checks) wakes.stood.monitoring ∙ sym (watch_unordered (history ++ Woken input ∷ []) ∙ watch_woken history input)) wakes.kept;
        senders = senders_as (events_after setup history) (events_after setup (history ++ Woken input ∷ [])) before.senders after.senders (sym (events_woken setup history input)) wakes.senders wakes.stood.senders;
        actions =
            subst (λ (p : Past). ActionsStand setup.tables.acts p after.actions)
            (ap (with_more (past_in setup history (ordered_at input))) is_by ∙ sym (past_woken setup history input))
            (wakes.performs.stands (past_in setup history (ordered_at input)) (length (wakeups history)) refl wakes.stood.actions);
      }

  -- and what was sent in it
  pub woken_items : (start : Held Out) → start.items ≡ [] → mid ≡ adding start (command_items hs_answers hs_name (turn_of setup history input) (heard_at input)) → end.items ≡ hs_items setup history input
  unfolding hs_items
  woken_items start empty answered =
      let answers = command_items hs_answers hs_name (turn_of setup history input) (heard_at input) in
      let more = items_of input.time setup.tables.acts (past_in setup history (ordered_at input)) (by_monitors setup history input) in
      ap (λ (held : Held Out). held.items) (wakes.performs.items (past_in setup history (ordered_at input)) (length (wakeups history)) refl wakes.stood.actions)
      ∙ items-adding mid _
      ∙ ap (λ (h : List Happening). mid.items ++ items_of input.time setup.tables.acts (past_in setup history (ordered_at input)) h) is_by
      ∙ ap (λ (items : List Out). items ++ more) (ap (λ (held : Held Out). held.items) answered ∙ items-adding start answers ∙ ap (λ (items : List Out). items ++ answers) empty)

-- what both perform, on the tables in force
pub performs_on : (setup : Setup) (history : List HsEntry) (tables : HsTables) (time : ℕ) (on listening : Bool) (still : Bool) (checks : List (List Counter)) (counters : List Counter) (packets : List (List ℕ)) (old middle new : Actions) (before between after : Held Out)
    → tables ≡ tables_after setup history → still ≡ listening
    → Performs tables.acts time (λ (k : ℕ). cond on (flat_map (app_attempt k (checks ++ counters ∷ [])) tables.apps) []) old middle before between
    → Performs tables.acts time (λ (k : ℕ). cond still (flat_map (event_attempts k tables.events) packets) []) middle new between after
    → Performs setup.tables.acts time (attempted on listening checks counters (apps_after setup history) (tables_after setup history).events packets) old new before after
performs_on setup history tables time on listening still checks counters packets old middle new before between after in_force same first second =
    subst (λ (t : HsTables). Performs t.acts time (attempted on listening checks counters t.apps t.events packets) old new before after) in_force
    (performs_both tables.acts time (λ (k : ℕ). cond on (flat_map (app_attempt k (checks ++ counters ∷ [])) tables.apps) []) (λ (k : ℕ). cond listening (flat_map (event_attempts k tables.events) packets) []) old middle new before between after first
    (subst (λ (b : Bool). Performs tables.acts time (λ (k : ℕ). cond b (flat_map (event_attempts k tables.events) packets) []) middle new between after) same second))

-- what is kept, on them
pub kept_on : (setup : Setup) (history : List HsEntry) (tables : HsTables) (checks : List (List Counter)) (kept : Kept) → tables ≡ tables_after setup history
    → KeptStands (apps_after setup history) checks kept → KeptStands tables.apps checks kept
kept_on setup history tables checks kept in_force stood = subst (λ (t : HsTables). KeptStands t.apps checks kept) (sym in_force) stood

pub kept_in_force : (setup : Setup) (history : List HsEntry) (tables : HsTables) (checks : List (List Counter)) (kept : Kept) → tables ≡ tables_after setup history
    → KeptStands tables.apps checks kept → KeptStands (apps_after setup history) checks kept
kept_in_force setup history tables checks kept in_force stood = subst (λ (t : HsTables). KeptStands t.apps checks kept) in_force stood

pub places_on : (setup : Setup) (history : List HsEntry) (tables : HsTables) (places : ℕ) → tables ≡ tables_after setup history → places ≡ places_of (apps_after setup history) → places ≡ places_of tables.apps
places_on setup history tables places in_force is = is ∙ sym (ap (λ (t : HsTables). places_of t.apps) in_force)

pub senders_on : (setup : Setup) (history : List HsEntry) (tables : HsTables) (old new : Heads) → tables ≡ tables_after setup history → new ≡ old → SendersStand (events_after setup history) old → SendersStand tables.events new
senders_on setup history tables old new in_force same stood = senders_as (events_after setup history) tables.events old new (ap (λ (t : HsTables). t.events) (sym in_force)) same stood
