-- What was ordered at one more order, and a history at one more wakeup.
use Rattle.std.proofs.Common.{◌≡◌, ℕ, Bool, true, false, cond, ◌||◌, List, [], ◌∷◌, ◌++◌, length, Option, Some, None, refl, sym, ap, subst, ◌∙◌, append_assoc, append-nil}
use Rattle.std.specs.Prelude.{filter_map}
use Rattle.std.proofs.lemmas.List.{length-map}
use Rattle.std.proofs.lemmas.List.Sums.{fold_push}
use Rattle.std.proofs.lemmas.List.Elements.{filter_map-append}
use Rattle.histories.specs.Words.{last_or}
use Rattle.histories.specs.Entries.{wakeups}
use Rattle.histories.specs.Entries.Entry.{Woken}
use Rattle.histories.specs.Masks.{bits_of}
use Rattle.histories.proofs.Lasts.{any_push, last_or_more}
use Rattle.bus_pipes.specs.Held.{Held, adding}
use Rattle.bus_pipes.specs.declared.names.Counts.{Counts}
use Rattle.bus_pipes.specs.declared.names.Out.{Out}
use Rattle.bus_pipes.proofs.Deliveries.{adding_more, items-adding}
use Rattle.memory_window.specs.Memory.{Memory}
use Rattle.md_dwell.specs.declared.instructions.Instruction.{Instruction}
use Rattle.md_dwell.specs.Tables.{DwellTable}
use Rattle.md_dwell.specs.Rounds.{dwell_at}
use Rattle.md_dwell.specs.Orders.{Input, ordered_at, jammed, switch_of, switched_by, switched, starts, entries_after, is_on_after, starts_in}
use Rattle.md_dwell.specs.Histories.{MdEntry, table_of, table_after, orders_since, started_at, started_by, images_of}
use Rattle.md_dwell.specs.Housekeeping.{entries_now, is_on, enabled_bits, housekeeping_of}
use Rattle.md_dwell.specs.Answers.{dwell_items}
use Rattle.md_dwell.specs.Step.{table_items}
use Rattle.md_dwell.specs.Streams.{StreamStands}
use Rattle.md_dwell.specs.State.{TableStands, DutyStands}
use Rattle.md_dwell.specs.declared.tables.DwellEntry.{DwellEntry}
use Rattle.md_dwell.specs.declared.streams.Stream.{Stream}
use Rattle.md_dwell.specs.declared.duty.Duty.{Duty}
use Rattle.md_dwell.proofs.Following.{table_begun, table_woken, orders_begun, orders_woken, started_begun, started_woken, started_unordered, images_begun, images_woken}

-- at one more packet
pub entries_more : (n : ℕ) (entries : List DwellEntry) (orders : List Instruction) (h : Instruction) → entries_after n entries (orders ++ h ∷ []) ≡ jammed n (entries_after n entries orders) h
unfolding entries_after
entries_more n entries orders h = fold_push (jammed n) entries orders h

pub on_more : (n : ℕ) (enabled : Bool) (orders : List Instruction) (h : Instruction) → is_on_after n enabled (orders ++ h ∷ []) ≡ switched n (is_on_after n enabled orders) h
unfolding is_on_after
on_more n enabled orders h =
    ap (last_or enabled) (filter_map-append (switch_of n) orders (h ∷ []))
    ∙ by_case (switch_of n h) (filter_map (switch_of n) orders)
  where
    by_case : (o : Option Bool) (before : List Bool) → last_or enabled (before ++ filter_map (λ (x : Option Bool). x) (o ∷ [])) ≡ switched_by o (last_or enabled before)
    by_case None before = ap (last_or enabled) (append-nil before)
    by_case (Some to) before = last_or_more enabled before to

pub starts_more : (n : ℕ) (orders : List Instruction) (h : Instruction) → starts_in n (orders ++ h ∷ []) ≡ (starts_in n orders || starts n h)
unfolding starts_in
starts_more n orders h = any_push (starts n) orders h

pub started_more : (n : ℕ) (history : List MdEntry) (orders : List Instruction) (h : Instruction) → started_by n history (orders ++ h ∷ []) ≡ cond (starts n h) (length (wakeups history)) (started_by n history orders)
started_more n history orders h = rw (starts_more n orders h) (by_case (starts_in n orders) (starts n h))
  where
    by_case : (a b : Bool) → cond (a || b) (length (wakeups history)) (started_at n history) ≡ cond b (length (wakeups history)) (cond a (length (wakeups history)) (started_at n history))
    by_case true true = refl
    by_case true false = refl
    by_case false true = refl
    by_case false false = refl

pub images_count : (history : List MdEntry) → length (images_of history) ≡ length (wakeups history)
unfolding images_of
images_count history = length-map (wakeups history) (λ (i : Input). i.seen)

-- the stream of a table at one more packet
pub table_more : (tables : List DwellTable) (history : List MdEntry) (orders : List Instruction) (h : Instruction) (n : ℕ) (s : Stream)
    → StreamStands (jammed n (entries_now tables history orders n) h) (switched n (is_on tables history orders n) h) (cond (starts n h) (length (images_of history)) (started_by n history orders)) (images_of history) s
    → TableStands tables history (orders ++ h ∷ []) n s
table_more tables history orders h n s stood =
    let behind : orders_since n history ++ (orders ++ h ∷ []) ≡ (orders_since n history ++ orders) ++ h ∷ [] = sym (append_assoc (orders_since n history) orders (h ∷ [])) in
    rw (behind, entries_more n (table_after tables history n).entries (orders_since n history ++ orders) h, on_more n (table_after tables history n).enabled (orders_since n history ++ orders) h, started_more n history orders h)
    (subst (λ (k : ℕ). StreamStands (jammed n (entries_now tables history orders n) h) (switched n (is_on tables history orders n) h) (cond (starts n h) k (started_by n history orders)) (images_of history) s)
    (images_count history) stood)

-- by what an order made of the stream
pub table_turn : (tables : List DwellTable) (history : List MdEntry) (orders : List Instruction) (h : Instruction) (n : ℕ) (old new : Stream) → TableStands tables history orders n old
    → ((entries : List DwellEntry) (on : Bool) (since : ℕ) (images : List Memory) → StreamStands entries on since images old → StreamStands (jammed n entries h) (switched n on h) (cond (starts n h) (length images) since) images new)
    → TableStands tables history (orders ++ h ∷ []) n new
table_turn tables history orders h n old new stood obeyed = table_more tables history orders h n new (obeyed _ _ _ _ stood)

-- what was ordered since, in a wakeup and behind it
orders_whole : (n : ℕ) (history : List MdEntry) (input : Input) → orders_since n (history ++ Woken input ∷ []) ++ [] ≡ orders_since n history ++ ordered_at input
orders_whole n history input = append-nil (orders_since n (history ++ Woken input ∷ [])) ∙ orders_woken n history input

-- the stream of a table after one more wakeup
pub table_wakeup : (tables : List DwellTable) (history : List MdEntry) (input : Input) (n : ℕ) (s : Stream)
    → StreamStands (entries_now tables history (ordered_at input) n) (is_on tables history (ordered_at input) n) (started_by n history (ordered_at input)) (images_of history ++ input.seen ∷ []) s
    → TableStands tables (history ++ Woken input ∷ []) [] n s
table_wakeup tables history input n s stood =
    rw (table_woken tables history input n, orders_whole n history input, started_unordered n (history ++ Woken input ∷ []), started_woken n history input, images_woken history input) stood

-- and what it gives
pub table_gives : (tables : List DwellTable) (history : List MdEntry) (input : Input) (time n : ℕ)
    → dwell_items time n (dwell_at (is_on tables history (ordered_at input) n) (entries_now tables history (ordered_at input) n) (started_by n history (ordered_at input)) (images_of history ++ input.seen ∷ [])) ≡ table_items tables (history ++ Woken input ∷ []) time n
unfolding table_items
table_gives tables history input time n =
    rw (table_woken tables history input n, orders_whole n history input, started_woken n history input, images_woken history input) refl

-- before any wakeup
entries_unordered : (n : ℕ) (entries : List DwellEntry) → entries_after n entries [] ≡ entries
unfolding entries_after
entries_unordered n entries = refl

on_unordered : (n : ℕ) (enabled : Bool) → is_on_after n enabled [] ≡ enabled
unfolding is_on_after last_or
on_unordered n enabled = refl

pub unordered : (n : ℕ) (t : DwellTable) (since : ℕ) (images : List Memory) (s : Stream) → StreamStands t.entries t.enabled since images s → StreamStands (entries_after n t.entries []) (is_on_after n t.enabled []) since images s
unordered n t since images s stood = rw (entries_unordered n t.entries, on_unordered n t.enabled) stood

pub table_start : (tables : List DwellTable) (n : ℕ) (t : DwellTable) (s : Stream) → t ≡ table_of tables n → StreamStands t.entries t.enabled 0 [] s → TableStands tables [] [] n s
table_start tables n t s is stood =
    rw (table_begun tables n, orders_begun n, started_unordered n [], started_begun n, images_begun, ← is) (unordered n t 0 [] s stood)

-- the items of the packets, and then those of the four tables
pub items_whole : (start after first second third fourth : Held Out) (items one two three four : List Out) → start.items ≡ [] → after ≡ adding start items
    → first ≡ adding after one → second ≡ adding first two → third ≡ adding second three → fourth ≡ adding third four
    → fourth.items ≡ items ++ (one ++ two ++ three ++ four)
items_whole start after first second third fourth items one two three four empty is is_first is_second is_third is_fourth =
    rw (
      is_fourth,
      is_third,
      is_second,
      is_first,
      is,
      adding_more start items one,
      adding_more start (items ++ one) two,
      adding_more start (items ++ one ++ two) three,
      adding_more start (items ++ one ++ two ++ three) four,
      items-adding start (items ++ one ++ two ++ three ++ four),
      empty,
    )
    (simp append_assoc)

-- the housekeeping packet by the flags that are kept
pub housekeeping_shown : (tables : List DwellTable) (history : List MdEntry) (orders : List Instruction) (time now : ℕ) (counts : Counts) (s : Duty) (bits : ℕ) (p : List ℕ) → DutyStands tables history orders s → time ≡ now
    → bits ≡ bits_of (s.first.enabled ∷ s.second.enabled ∷ s.third.enabled ∷ s.fourth.enabled ∷ []) → p ≡ housekeeping_of now counts bits → p ≡ housekeeping_of time counts (enabled_bits tables history orders)
unfolding enabled_bits
housekeeping_shown tables history orders time now counts s bits p stood timed are is =
    rw timed (is ∙ ap (housekeeping_of now counts) (are ∙ rw (stood.first.enabled, stood.second.enabled, stood.third.enabled, stood.fourth.enabled) refl))
