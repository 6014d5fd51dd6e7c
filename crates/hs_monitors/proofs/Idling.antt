-- A wakeup in which there is nothing to do.
use Rattle.std.proofs.Common.{◌≡◌, ◌+◌, ◌<◌, ◌≤◌, ℕ, Bool, true, false, not, ◌&&◌, cond, List, [], ◌∷◌, ◌++◌, length, take, inl, inr, ◌⊎◌, refl, sym, ap, subst, ◌∙◌, arith, append-nil}
use Rattle.std.specs.Prelude.{◌==◌, nat_lt}
use Rattle.std.specs.List.{flat_map}
use Rattle.std.proofs.lemmas.Bool.{and_parts, ltb-false}
use Rattle.histories.specs.Entries.{wakeups}
use Rattle.histories.specs.Entries.Entry.{Woken}
use Rattle.packet_forms.specs.declared.name.Counter.{Counter}
use Rattle.commands.specs.Verdicts.{orders_in, verdicts_on}
use Rattle.bus_pipes.specs.declared.names.Out.{Out}
use Rattle.commands.specs.Answering.{command_items}
use Rattle.commands.specs.Counting.{counts_of}
use Rattle.commands.specs.declared.verdicts.Verdict.{Verdict}
use Rattle.commands.proofs.Heard.{no_packets, no_answers, verdicts_none, orders_none, heard_idle}
use Rattle.hs_tables.specs.Apps.{entry_of}
use Rattle.hs_tables.specs.declared.apps.AppRow.{AppRow}
use Rattle.hs_actions.specs.Happenings.{Happening}
use Rattle.hs_actions.specs.Messages.{hs_name}
use Rattle.hs_actions.specs.Answers.{items_of}
use Rattle.hs_actions.specs.Outcomes.{Past, in_next_wakeup, with_more}
use Rattle.hs_actions.specs.State.{ActionsStand, is_cooling}
use Rattle.hs_actions.proofs.Series.{more_none, items_none}
use Rattle.hs_actions.proofs.Cooling.{stands_idle}
use Rattle.hs_monitors.specs.Verdicts.{hs_protocol}
use Rattle.hs_monitors.specs.Histories.{Input, HsEntry, Setup, apps_after, events_after, tables_after, packets_in}
use Rattle.hs_monitors.specs.Orders.{heard_at, ordered_at, orders_of, is_on, is_listening}
use Rattle.hs_monitors.specs.Watches.{watch_of, watch_at}
use Rattle.hs_monitors.specs.Monitors.{row_at, is_entry, places_of, attempt_where, app_attempt}
use Rattle.hs_monitors.specs.Events.{event_attempts}
use Rattle.hs_monitors.specs.Attempts.{by_monitors, past_of, past_in}
use Rattle.hs_monitors.specs.Step.{hs_heard, turn_of, hs_answers, hs_items}
use Rattle.hs_monitors.specs.Entries.{KeptStands, kept_with}
use Rattle.hs_monitors.specs.State.{Stands, are_idle, is_idle_on}
use Rattle.hs_monitors.specs.declared.instructions.Instruction.{Instruction}
use Rattle.hs_monitors.specs.declared.kept.Kept.{Kept}
use Rattle.hs_monitors.specs.declared.state.Hs.{Hs}
use Rattle.hs_monitors.proofs.Lists.{off_by_not}
use Rattle.hs_monitors.proofs.Places.{given_front, none_used, no_entry, entry_none}
use Rattle.hs_monitors.proofs.Following.{orders_woken, watch_woken, watch_unordered, past_unordered, past_woken}
use Rattle.hs_monitors.proofs.Obeying.{entries_as, senders_as}
use Rattle.hs_monitors.proofs.Passing.{none_acts, kept_passes}
use Rattle.hs_monitors.proofs.Waking.{apps_woken, events_woken}

-- the monitors are idle by what is kept
pub idle_by : (setup : Setup) (history : List HsEntry) (on watch cooling : Bool) (places : ℕ) → on ≡ is_on (orders_of history ++ []) → places ≡ places_of (apps_after setup history) → watch ≡ (on && nat_lt 0 places)
    → cooling ≡ is_cooling setup.tables.acts (past_of setup history) → (not watch && not cooling) ≡ are_idle setup history
unfolding are_idle
idle_by setup history on watch cooling places on_is places_is watch_is cooling_is =
    rw (watch_is, cooling_is, on_is, places_is, append-nil (orders_of history)) refl

-- an entry that isn't used attempts nothing
unused_attempt : (k : ℕ) (checks : List (List Counter)) (row : AppRow) → is_entry row ≡ false → app_attempt k checks row ≡ []
unfolding app_attempt
unused_attempt k checks row unused = ap (attempt_where k checks) (entry_none (entry_of row) unused)

-- where no place is used none attempts anything
pub unused_attempts : (k : ℕ) (checks : List (List Counter)) (rows : List AppRow) (i : ℕ) → places_of rows ≤ i → flat_map (app_attempt k checks) (take i rows) ≡ flat_map (app_attempt k checks) rows
unused_attempts k checks rows i past = given_front (app_attempt k checks) (unused_attempt k checks) rows i past

off_or_none : (on : Bool) (places : ℕ) → not (on && nat_lt 0 places) ≡ true → (on ≡ false) ⊎ (places ≡ 0)
off_or_none false places is = inl refl
off_or_none true places is = inr (by_test (nat_lt 0 places) refl is)
  where
    by_test : (t : Bool) → nat_lt 0 places ≡ t → not t ≡ true → places ≡ 0
    by_test true some none = cc
    by_test false none is_none = let few = ltb-false 0 places none in omega (arith, few)

-- a wakeup without commands
module _ (history : List HsEntry) (input : Input) (quiet : input.commands ≡ []) where
  unheard : heard_at input ≡ []
  unheard = ap (verdicts_on hs_protocol tt) quiet ∙ verdicts_none hs_protocol tt

  pub unordered : ordered_at input ≡ []
  unordered = ap (λ (heard : List (Verdict Instruction)). orders_in heard) unheard ∙ orders_none Instruction

  pub on_same : is_on (orders_of history ++ ordered_at input) ≡ is_on (orders_of history)
  on_same = ap (λ (orders : List Instruction). is_on (orders_of history ++ orders)) unordered ∙ ap is_on (append-nil (orders_of history))

-- what the application monitors attempt in a wakeup
abbrev pub apps_attempt : Setup → List HsEntry → Input → Bool → List Happening
apps_attempt setup history input on = cond on (flat_map (app_attempt (length (wakeups history)) (watch_of (history ++ Woken input ∷ []))) (apps_after setup history)) []

-- no event is heard, and the application monitors attempt nothing
pub none_attempted : (setup : Setup) (history : List HsEntry) (input : Input) → input.seen.events ≡ [] → apps_attempt setup history input (is_on (orders_of history ++ ordered_at input)) ≡ [] → by_monitors setup history input ≡ []
unfolding by_monitors
none_attempted setup history input silent none =
    let k = length (wakeups history) in
    ap (λ (xs : List Happening). xs ++ cond (is_listening (orders_of history ++ ordered_at input)) (flat_map (event_attempts k (tables_after setup history).events) input.seen.events) []) none
    ∙ ap (λ (packets : List (List ℕ)). cond (is_listening (orders_of history ++ ordered_at input)) (flat_map (event_attempts k (tables_after setup history).events) packets) []) silent
    ∙ events_quiet (is_listening (orders_of history ++ ordered_at input))
  where
    events_quiet : (listening : Bool) → cond {A = List Happening} listening [] [] ≡ []
    events_quiet true = refl
    events_quiet false = refl

-- a wakeup without commands in which nothing is attempted, before which no cooldown runs
module _ (setup : Setup) (history : List HsEntry) (input : Input) (quiet : input.commands ≡ []) (cool : is_cooling setup.tables.acts (past_of setup history) ≡ false) (none : by_monitors setup history input ≡ []) where
  pub quiet_items : hs_items setup history input ≡ []
  unfolding hs_items
  quiet_items =
      let past = past_in setup history (ordered_at input) in
      ap (λ (xs : List Out). xs ++ items_of input.time setup.tables.acts past (by_monitors setup history input))
      (ap (command_items hs_answers hs_name (turn_of setup history input)) (unheard history input quiet) ∙ no_answers hs_answers hs_name (turn_of setup history input))
      ∙ ap (items_of input.time setup.tables.acts past) none
      ∙ items_none input.time setup.tables.acts past

  past_next : past_of setup (history ++ Woken input ∷ []) ≡ in_next_wakeup (past_of setup history)
  past_next =
      past_woken setup history input ∙ ap (with_more (past_in setup history (ordered_at input))) none ∙ more_none (past_in setup history (ordered_at input))
      ∙ ap (past_in setup history) (unordered history input quiet) ∙ past_unordered setup history

  orders_next : orders_of history ++ [] ≡ orders_of (history ++ Woken input ∷ []) ++ []
  orders_next = sym (orders_woken history input ∙ ap (λ (orders : List Instruction). orders_of history ++ orders) (unordered history input quiet))

  -- what is kept of the entries may be another, and all else stays
  pub quiet_stands : (hs next : Hs) → next.counts ≡ hs.counts → next.duty.monitoring ≡ hs.duty.monitoring → next.duty.listening ≡ hs.duty.listening → next.duty.places ≡ hs.duty.places → next.duty.senders ≡ hs.duty.senders → next.duty.actions ≡ hs.duty.actions
      → KeptStands (apps_after setup (history ++ Woken input ∷ [])) (watch_at (history ++ Woken input ∷ []) []) next.duty.kept → Stands setup history hs → Stands setup (history ++ Woken input ∷ []) next
  unfolding Stands hs_heard
  quiet_stands hs next counts monitoring listening places senders actions kept stood = record {
    counts = counts ∙ stood.counts ∙ ap counts_of (sym (heard_idle hs_protocol (λ (earlier : List HsEntry) (e : HsEntry). tt) packets_in history (Woken input) quiet));
    duty = record {
      monitoring = monitoring ∙ stood.duty.monitoring ∙ ap is_on orders_next;
      listening = listening ∙ stood.duty.listening ∙ ap is_listening orders_next;
      places = places ∙ stood.duty.places ∙ ap places_of (sym (apps_woken setup history input));
      kept = kept;
      senders = senders_as (events_after setup history) (events_after setup (history ++ Woken input ∷ [])) hs.duty.senders next.duty.senders (sym (events_woken setup history input)) senders stood.duty.senders;
      actions =
          subst (ActionsStand setup.tables.acts (past_of setup (history ++ Woken input ∷ []))) (sym actions)
          (subst (λ (p : Past). ActionsStand setup.tables.acts p hs.duty.actions) (sym past_next)
          (stands_idle setup.tables.acts (past_of setup history) hs.duty.actions cool stood.duty.actions));
    };
  }

-- a wakeup without packets, where the monitors have nothing to do
module _ (setup : Setup) (history : List HsEntry) (input : Input) (quiet : input.commands ≡ []) (silent : input.seen.events ≡ []) (idle : are_idle setup history ≡ true) where
  halves : (not (is_on (orders_of history) && nat_lt 0 (places_of (apps_after setup history))) ≡ true) × (not (is_cooling setup.tables.acts (past_of setup history)) ≡ true)
  unfolding are_idle
  halves = and_parts (not (is_on (orders_of history) && nat_lt 0 (places_of (apps_after setup history)))) (not (is_cooling setup.tables.acts (past_of setup history))) idle

  cool : is_cooling setup.tables.acts (past_of setup history) ≡ false
  cool = off_by_not (is_cooling setup.tables.acts (past_of setup history)) halves.1

  nothing_attempted : by_monitors setup history input ≡ []
  nothing_attempted = none_attempted setup history input silent (apps_quiet (is_on (orders_of history ++ ordered_at input)) (on_same history input quiet))
    where
      nothing : (on : Bool) → flat_map (app_attempt (length (wakeups history)) (watch_of (history ++ Woken input ∷ []))) (apps_after setup history) ≡ [] → apps_attempt setup history input on ≡ []
      nothing true is = is
      nothing false is = refl

      apps_quiet : (on : Bool) → on ≡ is_on (orders_of history) → apps_attempt setup history input on ≡ []
      apps_quiet on is = elim (off_or_none (is_on (orders_of history)) (places_of (apps_after setup history)) halves.0) [
        | inl off ↦ ap (apps_attempt setup history input) (is ∙ off)
        | inr none ↦ nothing on (sym (unused_attempts (length (wakeups history)) (watch_of (history ++ Woken input ∷ [])) (apps_after setup history) 0 (omega (arith, none))))
      ]

  pub idle_items : hs_items setup history input ≡ []
  idle_items = quiet_items setup history input quiet cool nothing_attempted

  -- what is kept of the entries, of which none is checked
  kept_next : (kept : Kept) → KeptStands (apps_after setup history) (watch_at history []) kept → KeptStands (apps_after setup (history ++ Woken input ∷ [])) (watch_at (history ++ Woken input ∷ []) []) kept
  kept_next kept stood = elim (off_or_none (is_on (orders_of history)) (places_of (apps_after setup history)) halves.0) [
    | inl off ↦
        let same : watch_at history [] ≡ watch_at (history ++ Woken input ∷ []) [] =
        sym (
        watch_unordered (history ++ Woken input ∷ []) ∙ watch_woken history input
        ∙ ap (λ (b : Bool). cond b (watch_at history (ordered_at input) ++ input.seen.counters ∷ []) (watch_at history (ordered_at input))) (on_same history input quiet ∙ off)
        ∙ ap (watch_at history) (unordered history input quiet)) in
        entries_as (apps_after setup history) (apps_after setup (history ++ Woken input ∷ [])) (watch_at history []) (watch_at (history ++ Woken input ∷ []) []) kept (sym (apps_woken setup history input)) same stood
    | inr none ↦
        entries_as (apps_after setup history) (apps_after setup (history ++ Woken input ∷ [])) (watch_at (history ++ Woken input ∷ []) []) (watch_at (history ++ Woken input ∷ []) []) kept (sym (apps_woken setup history input)) refl
        (record {
          whole = stood.whole;
          heads = stood.heads;
          each = λ k e within some. absurd (no_entry (entry_of (row_at (apps_after setup history) k)) e (none_used (apps_after setup history) k none) some);
          least = stood.least;
          within = stood.within;
        })
  ]

  pub idle_stands : (hs : Hs) → Stands setup history hs → Stands setup (history ++ Woken input ∷ []) hs
  unfolding Stands
  idle_stands hs stood = quiet_stands setup history input quiet cool nothing_attempted hs hs refl refl refl refl refl refl (kept_next hs.duty.kept stood.duty.kept) stood

-- a wakeup without packets and counters, where application monitoring is on, no cooldown runs and no countdown can end
module _ (setup : Setup) (history : List HsEntry) (input : Input) (quiet : input.commands ≡ []) (silent : input.seen.events ≡ []) (alone : input.seen.counters ≡ []) (cool : is_cooling setup.tables.acts (past_of setup history) ≡ false)
    (on : is_on (orders_of history ++ []) ≡ true) (kept : Kept) (stood : KeptStands (apps_after setup history) (watch_at history []) kept) (soon : kept.passed + 1 < kept.least) where
  on_now : is_on (orders_of history ++ ordered_at input) ≡ true
  on_now = ap (λ (orders : List Instruction). is_on (orders_of history ++ orders)) (unordered history input quiet) ∙ on

  watch_next : watch_of (history ++ Woken input ∷ []) ≡ watch_at history [] ++ input.seen.counters ∷ []
  watch_next =
      watch_woken history input
      ∙ ap (λ (b : Bool). cond b (watch_at history (ordered_at input) ++ input.seen.counters ∷ []) (watch_at history (ordered_at input))) on_now
      ∙ ap (λ (orders : List Instruction). watch_at history orders ++ input.seen.counters ∷ []) (unordered history input quiet)

  pub counted_attempts : by_monitors setup history input ≡ []
  counted_attempts =
      let k = length (wakeups history) in
      none_attempted setup history input silent
      (ap (apps_attempt setup history input) on_now
      ∙ ap (λ (checks : List (List Counter)). flat_map (app_attempt k checks) (apps_after setup history)) watch_next
      ∙ none_acts (apps_after setup history) (watch_at history []) input.seen.counters kept stood soon k)

  pub counted_kept : KeptStands (apps_after setup (history ++ Woken input ∷ [])) (watch_at (history ++ Woken input ∷ []) []) (kept_with kept.heads kept.watched (kept.passed + 1) kept.least)
  counted_kept =
      entries_as (apps_after setup history) (apps_after setup (history ++ Woken input ∷ [])) (watch_at history [] ++ input.seen.counters ∷ []) (watch_at (history ++ Woken input ∷ []) []) (kept_with kept.heads kept.watched (kept.passed + 1) kept.least)
      (sym (apps_woken setup history input)) (sym (watch_unordered (history ++ Woken input ∷ []) ∙ watch_next))
      (kept_passes (apps_after setup history) (watch_at history []) input.seen.counters (ap (λ (counters : List Counter). length counters == 0) alone) kept stood soon)

-- by the test of the whole
pub quiet_parts : (setup : Setup) (history : List HsEntry) (commands events : List (List ℕ)) → is_idle_on setup history commands events ≡ true → (commands ≡ []) × (events ≡ []) × (are_idle setup history ≡ true)
unfolding is_idle_on
quiet_parts setup history commands events is =
    let outer = and_parts ((length commands == 0) && (length events == 0)) (are_idle setup history) is in
    let inner = and_parts (length commands == 0) (length events == 0) outer.0 in
    (no_packets commands inner.0, no_packets events inner.1, outer.1)

pub idle_whole : (setup : Setup) (history : List HsEntry) (commands events : List (List ℕ)) (idle : Bool) → true ≡ ((length commands == 0) && (length events == 0)) → idle ≡ are_idle setup history → idle ≡ is_idle_on setup history commands events
unfolding is_idle_on
idle_whole setup history commands events idle none is = is ∙ ap (λ (b : Bool). b && are_idle setup history) none

pub not_idle : (setup : Setup) (history : List HsEntry) (commands events : List (List ℕ)) → false ≡ ((length commands == 0) && (length events == 0)) → false ≡ is_idle_on setup history commands events
unfolding is_idle_on
not_idle setup history commands events some = ap (λ (b : Bool). b && are_idle setup history) some
