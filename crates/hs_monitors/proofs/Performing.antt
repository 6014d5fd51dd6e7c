-- What an entry attempts, by whether it acts or matches.
use Rattle.std.proofs.Common.{◌≡◌, ◌≢◌, ℕ, ◌<◌, Bool, true, false, cond, not, ◌&&◌, arith, List, [], ◌∷◌, ◌++◌, length, Option, Some, None, refl, sym, ap, ◌∙◌}
use Rattle.std.specs.Prelude.{◌==◌, option_map}
use Rattle.std.specs.List.{flat_map, list_any}
use Rattle.std.proofs.lemmas.Bool.{eqb-true, eqb-false, and_parts, or_parts}
use Rattle.packet_forms.specs.Packets.{message_id}
use Rattle.packet_forms.specs.MessageIds.{event_id}
use Rattle.packet_forms.specs.declared.name.Counter.{Counter}
use Rattle.hs_tables.specs.Apps as apps
use Rattle.hs_tables.specs.Events as events
use Rattle.hs_tables.specs.declared.apps.AppRow.{AppRow}
use Rattle.hs_tables.specs.declared.apps.AppEntry.{AppEntry}
use Rattle.hs_tables.specs.declared.events.EventRow.{EventRow}
use Rattle.hs_tables.specs.declared.events.EventEntry.{EventEntry}
use Rattle.hs_actions.specs.Happenings.{Happening, attempt_by}
use Rattle.hs_actions.specs.Happenings.Happening.{Attempts}
use Rattle.hs_actions.specs.declared.action.Source.TheVariants.{AppMonitor, EventMonitor}
use Rattle.hs_monitors.specs.Acting.{changes, acts_now}
use Rattle.hs_monitors.specs.Monitors as monitors
use Rattle.hs_monitors.specs.Events.{is_event, is_matched, event_attempt, event_attempts}
use Rattle.hs_monitors.specs.Events as heard

-- an application monitor that doesn't act, and one that does
pub app_quiet : (e : AppEntry) (watch : List (List Counter)) (acts : Bool) (k : ℕ) → acts ≡ acts_now e.cycles (changes e.name watch) → acts ≡ false → monitors.attempt_of k watch e ≡ []
app_quiet e watch acts k is not = ap (λ (b : Bool). cond b (Attempts (attempt_by AppMonitor e.name e.action k) ∷ []) []) (sym is ∙ not)

pub app_acts : (e : AppEntry) (watch : List (List Counter)) (acts : Bool) (k : ℕ) → acts ≡ acts_now e.cycles (changes e.name watch) → acts ≡ true → Attempts (attempt_by AppMonitor e.name e.action k) ∷ [] ≡ monitors.attempt_of k watch e
app_acts e watch acts k is does = sym (ap (λ (b : Bool). cond b (Attempts (attempt_by AppMonitor e.name e.action k) ∷ []) []) (sym is ∙ does))

-- of a row, by the entry that it is
pub row_none : (row : AppRow) (found : Option AppEntry) (watch : List (List Counter)) (k : ℕ) → found ≡ apps.entry_of row → found ≡ None → monitors.app_attempt k watch row ≡ []
unfolding monitors.app_attempt
row_none row found watch k is none = ap (monitors.attempt_where k watch) (sym is ∙ none)

pub row_some : (row : AppRow) (found : Option AppEntry) (e : AppEntry) (watch : List (List Counter)) (k : ℕ) → found ≡ apps.entry_of row → found ≡ Some e → monitors.attempt_of k watch e ≡ monitors.app_attempt k watch row
unfolding monitors.app_attempt
row_some row found e watch k is some = sym (ap (monitors.attempt_where k watch) (sym is ∙ some))

-- where no entry acts that the row is
pub row_quiet : (row : AppRow) (watch : List (List Counter)) (k : ℕ) → ((e : AppEntry) → apps.entry_of row ≡ Some e → false ≡ acts_now e.cycles (changes e.name watch)) → monitors.app_attempt k watch row ≡ []
unfolding monitors.app_attempt
row_quiet row watch k quiet = by_entry (apps.entry_of row) refl
  where
    by_entry : (found : Option AppEntry) → apps.entry_of row ≡ found → monitors.attempt_where k watch found ≡ []
    by_entry None is = refl
    by_entry (Some e) is = app_quiet e watch false k (quiet e is) refl

-- a used entry has a cycle count
cycles_of : (cycles action : ℕ) (name : Option (List ℕ)) (e : AppEntry)
    → cond (not (cycles == 0) && not (action == 0)) (option_map (λ (n : List ℕ). let entry : AppEntry = record { name = n; cycles = cycles; action = action } in entry) name) None ≡ Some e → 0 < e.cycles
cycles_of cycles action name e is = by_tests (cycles == 0) refl (action == 0) name is
  where
    same : (n : List ℕ) → ◌≡◌ {A = Option AppEntry} (Some (record { name = n; cycles = cycles; action = action })) (Some e) → cycles ≡ e.cycles
    same n it = ap (λ (o : Option AppEntry). elim o [ None ↦ cycles | Some x ↦ x.cycles ]) it

    by_tests : (a : Bool) → (cycles == 0) ≡ a → (b : Bool) (found : Option (List ℕ))
        → cond (not a && not b) (option_map (λ (n : List ℕ). let entry : AppEntry = record { name = n; cycles = cycles; action = action } in entry) found) None ≡ Some e → 0 < e.cycles
    by_tests true zero_cycles b found it = cc
    by_tests false some true found it = cc
    by_tests false some false None it = cc
    by_tests false some false (Some n) it = let apart : cycles ≢ 0 = eqb-false cycles 0 some in let equal = same n it in omega arith

pub entry_cycles : (row : AppRow) (e : AppEntry) → apps.entry_of row ≡ Some e → 0 < e.cycles
entry_cycles row e is = cycles_of row.cycles row.action row.name e is

-- the attempts of event monitors
pub event_none : (row : EventRow) (found : Option EventEntry) (p : List ℕ) (k : ℕ) → found ≡ events.entry_of row → found ≡ None → event_attempt k p row ≡ []
unfolding event_attempt
event_none row found p k is none = ap (heard.attempt_where k p) (sym is ∙ none)

pub event_other : (row : EventRow) (found : Option EventEntry) (e : EventEntry) (p : List ℕ) (matched : Bool) (k : ℕ) → found ≡ events.entry_of row → found ≡ Some e → matched ≡ is_matched p e → matched ≡ false → event_attempt k p row ≡ []
unfolding event_attempt
event_other row found e p matched k is some same not =
    ap (heard.attempt_where k p) (sym is ∙ some) ∙ ap (λ (b : Bool). cond b (Attempts (attempt_by EventMonitor e.name e.action k) ∷ []) []) (sym same ∙ not)

pub event_matched : (row : EventRow) (found : Option EventEntry) (e : EventEntry) (p : List ℕ) (matched : Bool) (k : ℕ) → found ≡ events.entry_of row → found ≡ Some e → matched ≡ is_matched p e → matched ≡ true
    → Attempts (attempt_by EventMonitor e.name e.action k) ∷ [] ≡ event_attempt k p row
unfolding event_attempt
event_matched row found e p matched k is some same does =
    sym (ap (heard.attempt_where k p) (sym is ∙ some) ∙ ap (λ (b : Bool). cond b (Attempts (attempt_by EventMonitor e.name e.action k) ∷ []) []) (sym same ∙ does))

-- a packet that is no event message
pub packet_ignored : (k : ℕ) (rows : List EventRow) (p : List ℕ) → is_event p ≡ false → event_attempts k rows p ≡ []
unfolding event_attempts
packet_ignored k rows p other = rw other refl

-- an event message has 44 bytes
pub event_long : (p : List ℕ) → is_event p ≡ true → length p ≡ 44
unfolding is_event
event_long p message = eqb-true (length p) 44 (and_parts (message_id p == event_id) (length p == 44) message).1

-- and is compared with all entries
pub packet_heard : (k : ℕ) (rows : List EventRow) (p : List ℕ) → is_event p ≡ true → flat_map (event_attempt k p) rows ≡ event_attempts k rows p
unfolding event_attempts
packet_heard k rows p message = rw message refl

-- an entry that isn't used attempts nothing
unused_attempt : (k : ℕ) (p : List ℕ) (row : EventRow) → events.is_used row ≡ false → event_attempt k p row ≡ []
unfolding event_attempt
unused_attempt k p row unused = rw unused refl

-- no packet is heard where no entry is used
unused_attempts : (k : ℕ) (p : List ℕ) (rows : List EventRow) → list_any events.is_used rows ≡ false → flat_map (event_attempt k p) rows ≡ []
unused_attempts k p [] none = refl
unused_attempts k p (row ∷ rows) none =
    let parts = or_parts (events.is_used row) (list_any events.is_used rows) none in
    ap (λ (h : List Happening). h ++ flat_map (event_attempt k p) rows) (unused_attempt k p row parts.0) ∙ unused_attempts k p rows parts.1

nothing_attempted : (k : ℕ) (rows : List EventRow) (p : List ℕ) → list_any events.is_used rows ≡ false → event_attempts k rows p ≡ []
unfolding event_attempts
nothing_attempted k rows p none = by_test (is_event p)
  where
    by_test : (t : Bool) → cond t (flat_map (event_attempt k p) rows) [] ≡ []
    by_test true = unused_attempts k p rows none
    by_test false = refl

pub nothing_heard : (k : ℕ) (rows : List EventRow) (packets : List (List ℕ)) → list_any events.is_used rows ≡ false → flat_map (event_attempts k rows) packets ≡ []
nothing_heard k rows [] none = refl
nothing_heard k rows (p ∷ packets) none = ap (λ (h : List Happening). h ++ flat_map (event_attempts k rows) packets) (nothing_attempted k rows p none) ∙ nothing_heard k rows packets none
