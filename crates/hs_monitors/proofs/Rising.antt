-- The sendings of a message action in a history rise, so what the last one leaves of the cooldown is the most that any leaves.
use Rattle.std.proofs.Common.{◌≡◌, ℕ, ◌+◌, ◌-◌, ◌<◌, ◌≤◌, max, Bool, true, false, ◌&&◌, cond, List, [], ◌∷◌, ◌++◌, length, map, inl, inr, ◌⊎◌, Option, Some, None, refl, sym, ap, subst, ◌∙◌, arith, append-nil, append_assoc, length-append}
use Rattle.std.specs.List.{All, flat_map, fold}
use Rattle.std.proofs.Math.Seq.{take-append_seam}
use Rattle.std.proofs.lemmas.List.{map_push}
use Rattle.std.proofs.lemmas.List.Elements.{All-nil, All-cons, All-head, All-tail, All-append, All-push, All-weaker, All-take, All-contains, Contains-push}
use Rattle.histories.specs.Words.{last_or, decided}
use Rattle.histories.specs.Entries.{wakeups}
use Rattle.histories.specs.Entries.Entry.{Woken, Activated}
use Rattle.histories.proofs.Lasts.{last_cases, last_or_more}
use Rattle.histories.proofs.Entries.{wakeups_woken, wakeups_activated}
use Rattle.packet_forms.specs.declared.name.Counter.{Counter}
use Rattle.hs_tables.specs.Apps as apps
use Rattle.hs_tables.specs.Events as events
use Rattle.hs_tables.specs.declared.apps.AppRow.{AppRow}
use Rattle.hs_tables.specs.declared.apps.AppEntry.{AppEntry}
use Rattle.hs_tables.specs.declared.events.EventRow.{EventRow}
use Rattle.hs_tables.specs.declared.events.EventEntry.{EventEntry}
use Rattle.hs_tables.specs.declared.actions.ActRow.{ActRow}
use Rattle.hs_actions.specs.Happenings.{Happening, is_message_in}
use Rattle.hs_actions.specs.Happenings.Happening.{Clears, Limits, Attempts}
use Rattle.hs_actions.specs.Outcomes.{Beginning, outcomes, sendings, sending_in, goes}
use Rattle.hs_actions.specs.State.{left_by, left_of}
use Rattle.hs_actions.proofs.Parts.{sendings_same, sendings_one, outcomes_more}
use Rattle.hs_actions.proofs.Cooldowns.{left_none, left_more}
use Rattle.hs_monitors.specs.Histories.{Input, Activation, HsEntry, Setup, tables_after}
use Rattle.hs_monitors.specs.Orders.{ordered_at, orders_of, is_on, is_listening, by_order, by_orders}
use Rattle.hs_monitors.specs.Watches.{watch_of}
use Rattle.hs_monitors.specs.Acting.{changes, acts_now}
use Rattle.hs_monitors.specs.Monitors as monitors
use Rattle.hs_monitors.specs.Events as heard
use Rattle.hs_monitors.specs.Attempts.{by_apps, by_events, by_monitors, happened_of, past_of}
use Rattle.hs_monitors.specs.Cooldowns.{sendings_of, last_leaves}
use Rattle.hs_monitors.specs.declared.instructions.Instruction.{Instruction}
use Rattle.hs_monitors.specs.declared.instructions.Instruction.TheVariants.{Plain, Monitor, Listen, Clear, Limit}
use Rattle.hs_monitors.proofs.Lists.{last_ind}
use Rattle.hs_monitors.proofs.Following.{happened_none, happened_more}

-- no sending is later than the last, and all are in the wakeups that have begun
record Rises (count : ℕ) (sent : List ℕ) : Type 0 where
  each : All (λ (j : ℕ). j ≤ last_or 0 sent) sent
  early : All (λ (j : ℕ). j < count) sent

rises_none : (count : ℕ) → Rises count []
rises_none count = record { each = All-nil (λ (j : ℕ). j ≤ last_or 0 []); early = All-nil (λ (j : ℕ). j < count) }

rises_later : (count : ℕ) (sent : List ℕ) → Rises count sent → Rises (count + 1) sent
rises_later count sent rising = record { each = rising.each; early = All-weaker (λ (j : ℕ). j < count) (λ (j : ℕ). j < count + 1) (λ j below. omega arith) sent rising.early }

rises_more : (k : ℕ) (sent : List ℕ) → Rises (k + 1) sent → Rises (k + 1) (sent ++ k ∷ [])
rises_more k sent rising = record {
  each =
      subst (λ (last : ℕ). All (λ (j : ℕ). j ≤ last) (sent ++ k ∷ [])) (sym (last_or_more 0 sent k))
      (All-push (λ (j : ℕ). j ≤ k) sent k (All-weaker (λ (j : ℕ). j < k + 1) (λ (j : ℕ). j ≤ k) (λ j below. omega arith) sent rising.early) (omega arith));
  early = All-push (λ (j : ℕ). j < k + 1) sent k rising.early (omega arith);
}

-- what happens in wakeup k
abbrev IsIn : ℕ → Happening → Type 0
IsIn k Clears = Unit {0}
IsIn k (Limits n) = Unit {0}
IsIn k (Attempts a) = a.wakeup ≡ k

sent_in : (k place : ℕ) (h : Happening) (went : Bool) → IsIn k h → (sending_in place (h, went) ≡ None) ⊎ (sending_in place (h, went) ≡ Some k)
sent_in k place Clears went is = inl refl
sent_in k place (Limits n) went is = inl refl
sent_in k place (Attempts a) went is = by_test (is_message_in place a.action && went)
  where
    by_test : (b : Bool) → (cond {A = Option ℕ} b (Some a.wakeup) None ≡ None) ⊎ (cond {A = Option ℕ} b (Some a.wakeup) None ≡ Some k)
    by_test true = inr (ap (λ (j : ℕ). Some j) is)
    by_test false = inl refl

module _ (acts : List ActRow) (begins : Beginning) (place k : ℕ) where
  one_rises : (happened : List Happening) (h : Happening) → IsIn k h → Rises (k + 1) (sendings place (outcomes acts begins happened)) → Rises (k + 1) (sendings place (outcomes acts begins (happened ++ h ∷ [])))
  one_rises happened h is rising =
      let went = goes acts begins (outcomes acts begins happened) h in
      let grown = outcomes_more acts begins happened h went refl in
      let earlier = outcomes acts begins happened in
      subst (λ (o : List (Happening × Bool)). Rises (k + 1) (sendings place o)) (sym grown)
      (elim (sent_in k place h went is) [
        | inl none ↦ subst (λ (sent : List ℕ). Rises (k + 1) sent) (sym (sendings_same place earlier (h, went) none)) rising
        | inr some ↦ subst (λ (sent : List ℕ). Rises (k + 1) sent) (sym (sendings_one place earlier (h, went) k some)) (rises_more k (sendings place earlier) rising)
      ])

  more_rise : (more happened : List Happening) → All (IsIn k) more → Rises (k + 1) (sendings place (outcomes acts begins happened)) → Rises (k + 1) (sendings place (outcomes acts begins (happened ++ more)))
  more_rise [] happened all rising = subst (λ (hs : List Happening). Rises (k + 1) (sendings place (outcomes acts begins hs))) (sym (append-nil happened)) rising
  more_rise (h ∷ more) happened all rising =
      subst (λ (hs : List Happening). Rises (k + 1) (sendings place (outcomes acts begins hs))) (append_assoc happened (h ∷ []) more)
      (more_rise more (happened ++ h ∷ []) (All-tail (IsIn k) h more all) (one_rises happened h (All-head (IsIn k) h more all) rising))

-- all that happens in a wakeup is in it
all_given : {A : Type 0} (k : ℕ) (f : A → List Happening) → ((x : A) → All (IsIn k) (f x)) → (xs : List A) → All (IsIn k) (flat_map f xs)
all_given k f each [] = All-nil (IsIn k)
all_given k f each (x ∷ xs) = All-append (IsIn k) (f x) (flat_map f xs) (each x) (all_given k f each xs)

order_in : (k : ℕ) (o : Instruction) → All (IsIn k) (by_order o)
order_in k Plain = All-nil (IsIn k)
order_in k (Monitor on) = All-nil (IsIn k)
order_in k (Listen on) = All-nil (IsIn k)
order_in k Clear = All-cons (IsIn k) Clears [] tt (All-nil (IsIn k))
order_in k (Limit limit) = All-cons (IsIn k) (Limits limit) [] tt (All-nil (IsIn k))

orders_in_wakeup : (k : ℕ) (orders : List Instruction) → All (IsIn k) (by_orders orders)
unfolding by_orders
orders_in_wakeup k orders = all_given k by_order (order_in k) orders

if_in : (k : ℕ) (b : Bool) (more : List Happening) → All (IsIn k) more → All (IsIn k) (cond b more [])
if_in k true more all = all
if_in k false more all = All-nil (IsIn k)

app_in : (k : ℕ) (watch : List (List Counter)) (found : Option AppEntry) → All (IsIn k) (monitors.attempt_where k watch found)
app_in k watch None = All-nil (IsIn k)
app_in k watch (Some e) = if_in k (acts_now e.cycles (changes e.name watch)) _ (All-cons (IsIn k) _ [] refl (All-nil (IsIn k)))

app_row_in : (k : ℕ) (watch : List (List Counter)) (row : AppRow) → All (IsIn k) (monitors.app_attempt k watch row)
unfolding monitors.app_attempt
app_row_in k watch row = app_in k watch (apps.entry_of row)

event_in : (k : ℕ) (p : List ℕ) (found : Option EventEntry) → All (IsIn k) (heard.attempt_where k p found)
event_in k p None = All-nil (IsIn k)
event_in k p (Some e) = if_in k (heard.is_matched p e) _ (All-cons (IsIn k) _ [] refl (All-nil (IsIn k)))

event_row_in : (k : ℕ) (p : List ℕ) (row : EventRow) → All (IsIn k) (heard.event_attempt k p row)
unfolding heard.event_attempt
event_row_in k p row = event_in k p (events.entry_of row)

packet_in_wakeup : (k : ℕ) (rows : List EventRow) (p : List ℕ) → All (IsIn k) (heard.event_attempts k rows p)
unfolding heard.event_attempts
packet_in_wakeup k rows p = if_in k (heard.is_event p) (flat_map (heard.event_attempt k p) rows) (all_given k (heard.event_attempt k p) (event_row_in k p) rows)

monitors_in_wakeup : (setup : Setup) (history : List HsEntry) (input : Input) → All (IsIn (length (wakeups history))) (by_monitors setup history input)
unfolding by_monitors
monitors_in_wakeup setup history input =
    let k = length (wakeups history) in
    let watch = watch_of (history ++ Woken input ∷ []) in
    let rows = (tables_after setup history).apps in
    let event_rows = (tables_after setup history).events in
    All-append (IsIn k) (by_apps setup history input) (by_events setup history input)
    (if_in k (is_on (orders_of history ++ ordered_at input)) (flat_map (monitors.app_attempt k watch) rows) (all_given k (monitors.app_attempt k watch) (app_row_in k watch) rows))
    (if_in k (is_listening (orders_of history ++ ordered_at input)) (flat_map (heard.event_attempts k event_rows) input.seen.events) (all_given k (heard.event_attempts k event_rows) (packet_in_wakeup k event_rows) input.seen.events))

-- so the sendings of every history rise
sent_none : (acts : List ActRow) (begins : Beginning) (place : ℕ) → sendings place (outcomes acts begins []) ≡ []
unfolding sendings outcomes decided
sent_none acts begins place = refl

rises_first : (setup : Setup) (place : ℕ) → Rises (length (wakeups {W = Input} {A = Activation} [])) (sendings_of setup [] place)
unfolding sendings_of
rises_first setup place =
    let begins = (past_of setup []).begins in
    let none : sendings place (outcomes setup.tables.acts begins (happened_of setup [])) ≡ [] = ap (λ (hs : List Happening). sendings place (outcomes setup.tables.acts begins hs)) (happened_none setup) ∙ sent_none setup.tables.acts begins place in
    subst (λ (sent : List ℕ). Rises (length (wakeups {W = Input} {A = Activation} [])) sent) (sym none) (rises_none (length (wakeups {W = Input} {A = Activation} [])))

rises_next : (setup : Setup) (place : ℕ) (history : List HsEntry) (entry : HsEntry) → Rises (length (wakeups history)) (sendings_of setup history place) → Rises (length (wakeups (history ++ entry ∷ []))) (sendings_of setup (history ++ entry ∷ []) place)
unfolding sendings_of
rises_next setup place history (Woken input) rising =
    let k = length (wakeups history) in
    let acts = setup.tables.acts in
    let begins = (past_of setup history).begins in
    let more = by_orders (ordered_at input) ++ by_monitors setup history input in
    let counted : k + 1 ≡ length (wakeups (history ++ Woken input ∷ [])) = sym (ap length (wakeups_woken history input) ∙ length-append (wakeups history) (input ∷ [])) in
    let all = All-append (IsIn k) (by_orders (ordered_at input)) (by_monitors setup history input) (orders_in_wakeup k (ordered_at input)) (monitors_in_wakeup setup history input) in
    subst (λ (n : ℕ). Rises n (sendings place (outcomes acts begins (happened_of setup (history ++ Woken input ∷ []))))) counted
    (subst (λ (hs : List Happening). Rises (k + 1) (sendings place (outcomes acts begins hs))) (sym (happened_more setup history (Woken input)))
    (more_rise acts begins place k more (happened_of setup history) all (rises_later k (sendings place (outcomes acts begins (happened_of setup history))) rising)))
rises_next setup place history (Activated a) rising =
    let acts = setup.tables.acts in
    let begins = (past_of setup history).begins in
    let counted : length (wakeups history) ≡ length (wakeups (history ++ Activated a ∷ [])) = sym (ap length (wakeups_activated history a)) in
    subst (λ (n : ℕ). Rises n (sendings place (outcomes acts begins (happened_of setup (history ++ Activated a ∷ []))))) counted
    (subst (λ (hs : List Happening). Rises (length (wakeups history)) (sendings place (outcomes acts begins hs))) (sym (happened_more setup history (Activated a) ∙ append-nil (happened_of setup history))) rising)

history_rises : (setup : Setup) (place : ℕ) (history : List HsEntry) → Rises (length (wakeups history)) (sendings_of setup history place)
history_rises setup place history =
    last_ind (λ (h : List HsEntry). Rises (length (wakeups h)) (sendings_of setup h place)) (rises_first setup place) (rises_next setup place) history

-- what the last leaves is the most
below_all : (cooldown count bound most : ℕ) (sent : List ℕ) → most ≤ bound → All (λ (i : ℕ). left_by cooldown count i ≤ bound) sent → fold (λ (m i : ℕ). max m (left_by cooldown count i)) most sent ≤ bound
below_all cooldown count bound most [] few all = few
below_all cooldown count bound most (i ∷ sent) few all =
    let here = All-head (λ (j : ℕ). left_by cooldown count j ≤ bound) i sent all in
    below_all cooldown count bound (max most (left_by cooldown count i)) sent (omega (arith, few, here)) (All-tail (λ (j : ℕ). left_by cooldown count j ≤ bound) i sent all)

left_most : (cooldown count j : ℕ) (sent : List ℕ) → All (λ (i : ℕ). i ≤ j) sent → left_of cooldown count sent ≤ left_by cooldown count j
unfolding left_of
left_most cooldown count j sent all =
    below_all cooldown count (left_by cooldown count j) 0 sent (omega arith) (All-weaker (λ (i : ℕ). i ≤ j) (λ (i : ℕ). left_by cooldown count i ≤ left_by cooldown count j) (λ i few. omega (arith, few)) sent all)

last_of_pushed : (cooldown count : ℕ) (sent : List ℕ) (j : ℕ) → last_leaves cooldown count (sent ++ j ∷ []) ≡ cooldown - (count - 1 - j)
unfolding last_leaves
last_of_pushed cooldown count sent j =
    ap (last_or 0) (map_push (λ (i : ℕ). cooldown - (count - 1 - i)) sent j) ∙ last_or_more 0 (map (λ (i : ℕ). cooldown - (count - 1 - i)) sent) (cooldown - (count - 1 - j))

last_of_none : (cooldown count : ℕ) → last_leaves cooldown count [] ≡ 0
unfolding last_leaves last_or
last_of_none cooldown count = refl

most_is_last : (cooldown count : ℕ) (sent : List ℕ) → Rises count sent → left_of cooldown count sent ≡ last_leaves cooldown count sent
most_is_last cooldown count sent rising = elim (last_cases sent) [
  | inl none ↦ ap (left_of cooldown count) none ∙ left_none cooldown count ∙ sym (ap (last_leaves cooldown count) none ∙ last_of_none cooldown count)
  | inr found ↦ pushed found.0 found.1 (subst (λ (s : List ℕ). Rises count s) found.2 rising) found.2
]
  where
    pushed : (ys : List ℕ) (j : ℕ) → Rises count (ys ++ j ∷ []) → sent ≡ ys ++ j ∷ [] → left_of cooldown count sent ≡ last_leaves cooldown count sent
    pushed ys j rising_to whole =
        let each : All (λ (i : ℕ). i ≤ j) (ys ++ j ∷ []) = subst (λ (last : ℕ). All (λ (i : ℕ). i ≤ last) (ys ++ j ∷ [])) (last_or_more 0 ys j) rising_to.each in
        let front : All (λ (i : ℕ). i ≤ j) ys = subst (λ (s : List ℕ). All (λ (i : ℕ). i ≤ j) s) (take-append_seam ys (j ∷ [])) (All-take (λ (i : ℕ). i ≤ j) (length ys) (ys ++ j ∷ []) each) in
        let early : j < count = All-contains (λ (i : ℕ). i < count) (ys ++ j ∷ []) j rising_to.early (Contains-push ys j) in
        let most = left_most cooldown count j ys front in
        let greatest : max (left_of cooldown count ys) (left_by cooldown count j) ≡ left_by cooldown count j = omega (arith, most) in
        let same : left_by cooldown count j ≡ cooldown - (count - 1 - j) = omega (arith, early) in
        ap (left_of cooldown count) whole ∙ left_more cooldown count ys j ∙ greatest ∙ same ∙ sym (ap (last_leaves cooldown count) whole ∙ last_of_pushed cooldown count ys j)

pub counts_from_last : (setup : Setup) (place cooldown : ℕ) (history : List HsEntry) → left_of cooldown (length (wakeups history)) (sendings_of setup history place) ≡ last_leaves cooldown (length (wakeups history)) (sendings_of setup history place)
counts_from_last setup place cooldown history = most_is_last cooldown (length (wakeups history)) (sendings_of setup history place) (history_rises setup place history)
