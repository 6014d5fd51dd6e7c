-- A history at one more entry.
use Rattle.std.proofs.Common.{◌≡◌, Bool, true, false, cond, eqb, List, [], ◌∷◌, ◌++◌, map, Some, None, refl, sym, ap, ◌∙◌, append_assoc, append-nil}
use Rattle.std.specs.List.{fold, flat_map}
use Rattle.std.proofs.lemmas.List.{map_push}
use Rattle.histories.specs.Words.{decided}
use Rattle.histories.specs.Entries.{in_force, replaced_by}
use Rattle.histories.specs.Entries.Entry.{Woken, Activated}
use Rattle.histories.proofs.Along.{decided_more, decided_none}
use Rattle.histories.proofs.Fronts.{flat_map_more}
use Rattle.histories.proofs.Entries.{in_force_woken, in_force_activated, in_force_none}
use Rattle.bus_pipes.specs.Held.{Held, adding}
use Rattle.bus_pipes.proofs.Deliveries.{items-adding}
use Rattle.bus_pipes.specs.declared.names.Out.{Out}
use Rattle.commands.specs.Counting.{counts_of}
use Rattle.commands.proofs.Heard.{heard_more, heard_idle, heard_none}
use Rattle.cs_slices.specs.Tables.{TablePair, with_table}
use Rattle.cs_slices.specs.Verdicts.{cs_protocol}
use Rattle.cs_slices.specs.Happenings.{Happening, reading}
use Rattle.cs_slices.specs.Happenings.Happening.{Ordered, Renewed}
use Rattle.cs_slices.specs.Slices.{next_slice}
use Rattle.cs_slices.specs.Wakeups.{Input, heard_at, ordered_at}
use Rattle.cs_slices.specs.Histories.{Activation, CsEntry, table_in, tables_after, packets_in, before_slice, happens_at, happens_behind, happened_of}
use Rattle.cs_slices.specs.Step.{cs_heard}
use Rattle.cs_slices.specs.State.{DutyStands, StandsFor}
use Rattle.cs_slices.specs.declared.duty.Duty.{Duty}
use Rattle.cs_slices.specs.declared.state.Cs.{Cs}
use Rattle.cs_slices.specs.declared.segments.Segment.{Segment}
use Rattle.cs_slices.specs.declared.instructions.Instruction.{Instruction}

-- the elements of decisions are those that were decided on
firsts : {A B : Type 0} (f : List (A × B) → A → B) (done : List (A × B)) (xs : List A)
    → map (λ (d : A × B). d.0) (fold (λ (earlier : List (A × B)) (x : A). earlier ++ (x, f earlier x) ∷ []) done xs) ≡ map (λ (d : A × B). d.0) done ++ xs
firsts {A} {B} f done [] = sym (append-nil (map (λ (d : A × B). d.0) done))
firsts {A} {B} f done (x ∷ xs) =
    firsts f (done ++ (x, f done x) ∷ []) xs
    ∙ ap (λ (front : List A). front ++ xs) (map_push (λ (d : A × B). d.0) done (x, f done x))
    ∙ append_assoc (map (λ (d : A × B). d.0) done) (x ∷ []) xs

entries_of_decided : {A B : Type 0} (f : List (A × B) → A → B) (xs : List A) → map (λ (d : A × B). d.0) (decided f xs) ≡ xs
unfolding decided
entries_of_decided f xs = firsts f [] xs

-- the tables in force
pub tables_begun : (tables : TablePair) → tables_after tables [] ≡ tables
tables_begun tables = rw (in_force_none Input (table_in 1) tables.eeprom, in_force_none Input (table_in 2) tables.memory) refl

pub tables_woken : (tables : TablePair) (history : List CsEntry) (input : Input) → tables_after tables (history ++ Woken input ∷ []) ≡ tables_after tables history
tables_woken tables history input = rw (in_force_woken (table_in 1) tables.eeprom history input, in_force_woken (table_in 2) tables.memory history input) refl

by_number : (b : Bool) (table before : List Segment) → replaced_by (cond b (Some table) None) before ≡ cond b table before
by_number true table before = refl
by_number false table before = refl

pub tables_activated : (tables : TablePair) (history : List CsEntry) (a : Activation) → tables_after tables (history ++ Activated a ∷ []) ≡ with_table a.number a.table (tables_after tables history)
tables_activated tables history a =
    let eeprom = in_force (table_in 1) tables.eeprom history in
    let memory = in_force (table_in 2) tables.memory history in
    rw (in_force_activated (table_in 1) tables.eeprom history a, in_force_activated (table_in 2) tables.memory history a, by_number (eqb a.number 1) a.table (in_force (table_in 1) tables.eeprom history), by_number (eqb a.number 2) a.table (in_force (table_in 2) tables.memory history)) refl

-- what happened
pub happened_none : (tables : TablePair) → happened_of tables [] ≡ []
unfolding happened_of
happened_none tables = ap (flat_map (λ (d : CsEntry × List Happening). d.1)) (decided_none (happens_behind tables))

pub happened_more : (tables : TablePair) (history : List CsEntry) (e : CsEntry) → happened_of tables (history ++ e ∷ []) ≡ happened_of tables history ++ happens_at (tables_after tables history) (happened_of tables history) e
unfolding happened_of
happened_more tables history e =
    let done : List (CsEntry × List Happening) = decided (happens_behind tables) history in
    let happened : List Happening = flat_map (λ (d : CsEntry × List Happening). d.1) done in
    ap (flat_map (λ (d : CsEntry × List Happening). d.1)) (decided_more (happens_behind tables) history e)
    ∙ flat_map_more (λ (d : CsEntry × List Happening). d.1) done (e, happens_behind tables done e)
    ∙ ap (λ (before : List CsEntry). happened ++ happens_at (tables_after tables before) happened e) (entries_of_decided (happens_behind tables) history)

-- the verdicts on a history's packets
pub heard_before_all : (tables : TablePair) → cs_heard tables [] ≡ []
unfolding cs_heard
heard_before_all tables = heard_none cs_protocol (λ (earlier : List CsEntry) (entry : CsEntry). tables_after tables earlier) packets_in

pub heard_woken : (tables : TablePair) (history : List CsEntry) (input : Input) → cs_heard tables (history ++ Woken input ∷ []) ≡ cs_heard tables history ++ heard_at (tables_after tables history) input
unfolding cs_heard
heard_woken tables history input = heard_more cs_protocol (λ (earlier : List CsEntry) (entry : CsEntry). tables_after tables earlier) packets_in history (Woken input)

pub heard_activated : (tables : TablePair) (history : List CsEntry) (a : Activation) → cs_heard tables (history ++ Activated a ∷ []) ≡ cs_heard tables history
unfolding cs_heard
heard_activated tables history a = heard_idle cs_protocol (λ (earlier : List CsEntry) (entry : CsEntry). tables_after tables earlier) packets_in history (Activated a) refl

-- the state after a wakeup
pub stands_more : (tables : TablePair) (history : List CsEntry) (input : Input) (cs : Cs)
    → cs.counts ≡ counts_of (cs_heard tables history ++ heard_at (tables_after tables history) input)
    → DutyStands (tables_after tables history) (before_slice (tables_after tables history) (happened_of tables history) input ++ reading (next_slice (tables_after tables history) (before_slice (tables_after tables history) (happened_of tables history) input) input.seen)) cs.duty
    → StandsFor tables (history ++ Woken input ∷ []) cs
stands_more tables history input cs counted stood =
    let now = tables_after tables history in
    let orders = ordered_at now input in
    record {
      counts = counted ∙ ap counts_of (sym (heard_woken tables history input));
      duty = rw (tables_woken tables history input, happened_more tables history (Woken input), ← append_assoc (happened_of tables history) (map Ordered (ordered_at (tables_after tables history) input)) (reading (next_slice (tables_after tables history) (before_slice (tables_after tables history) (happened_of tables history) input) input.seen))) stood;
    }

-- and after an activation
pub stands_activated : (tables : TablePair) (history : List CsEntry) (a : Activation) (old new : Cs) → StandsFor tables history old → new.counts ≡ old.counts
    → DutyStands (with_table a.number a.table (tables_after tables history)) (happened_of tables history ++ Renewed a.number ∷ []) new.duty → StandsFor tables (history ++ Activated a ∷ []) new
stands_activated tables history a old new stood counts duty = record {
  counts = counts ∙ stood.counts ∙ ap counts_of (sym (heard_activated tables history a));
  duty = rw (tables_activated tables history a, happened_more tables history (Activated a)) duty;
}

-- the items of a wakeup
pub items_all : (start middle end : Held Out) (xs ys : List Out) → start.items ≡ [] → middle ≡ adding start xs → end ≡ adding middle ys → end.items ≡ xs ++ ys
items_all start middle end xs ys empty first second =
    ap (λ (held : Held Out). held.items) second ∙ items-adding middle ys
    ∙ ap (λ (items : List Out). items ++ ys) (ap (λ (held : Held Out). held.items) first ∙ items-adding start xs ∙ ap (λ (items : List Out). items ++ xs) empty)

-- the course of the passes before the first order of a wakeup, and after one more
pub stands_unordered : (tables : TablePair) (happened : List Happening) (duty : Duty) → DutyStands tables happened duty → DutyStands tables (happened ++ map Ordered []) duty
stands_unordered tables happened duty stood = rw (append-nil happened) stood

pub stands_ordered : (tables : TablePair) (happened : List Happening) (orders : List Instruction) (order : Instruction) (duty : Duty)
    → DutyStands tables ((happened ++ map Ordered orders) ++ Ordered order ∷ []) duty → DutyStands tables (happened ++ map Ordered (orders ++ order ∷ [])) duty
stands_ordered tables happened orders order duty stood = rw (map_push Ordered orders order, ← append_assoc happened (map Ordered orders) (Ordered order ∷ [])) stood
