-- A history at one more entry.
use Rattle.std.proofs.Common.{◌≡◌, ℕ, List, [], ◌∷◌, ◌++◌, refl, sym, subst}
use Rattle.std.proofs.lemmas.List.Sums.{fold_push}
use Rattle.histories.specs.Entries.Entry.{Woken}
use Rattle.commands.proofs.Heard.{heard_more, heard_none}
use Rattle.sc_tables.specs.Commands.{TimedCommand}
use Rattle.sc_sequences.specs.Sequences.{Sequence}
use Rattle.sc_sequences.specs.Orders.{obeyed, after_orders}
use Rattle.sc_sequences.specs.Verdicts.{sc_protocol}
use Rattle.sc_sequences.specs.Turns.{Sequences}
use Rattle.sc_sequences.specs.Histories.{Input, ScEntry, Beginning, at_start, after_entry, sequences_of, heard_at, ordered, packets_in, basis_in}
use Rattle.sc_sequences.specs.Step.{sc_heard}
use Rattle.sc_sequences.specs.State.{CursorsStand, DutyStands}
use Rattle.sc_sequences.specs.declared.cursors.Cursor.{Cursor}
use Rattle.sc_sequences.specs.declared.duty.Duty.{Duty}
use Rattle.sc_sequences.specs.declared.instructions.Instruction.{Instruction}

-- the sequences behind no entry, and behind one more
pub sequences_none : (begin : Beginning) → sequences_of begin [] ≡ at_start begin
unfolding sequences_of
sequences_none begin = refl

pub sequences_more : (begin : Beginning) (history : List ScEntry) (entry : ScEntry) → sequences_of begin (history ++ entry ∷ []) ≡ after_entry (sequences_of begin history) entry
unfolding sequences_of
sequences_more begin history entry = fold_push after_entry (at_start begin) history entry

-- what was heard
pub heard_woken : (begin : Beginning) (history : List ScEntry) (input : Input) → sc_heard begin (history ++ Woken input ∷ []) ≡ sc_heard begin history ++ heard_at (sequences_of begin history) input
unfolding sc_heard
heard_woken begin history input = heard_more sc_protocol (basis_in begin) packets_in history (Woken input)

pub heard_before_all : (begin : Beginning) → sc_heard begin [] ≡ []
unfolding sc_heard
heard_before_all begin = heard_none sc_protocol (basis_in begin) packets_in

-- nothing ordered
pub unordered : (now : ℕ) (s : Sequences) → ordered now [] s ≡ s
unfolding after_orders
unordered now s = refl

-- one order more
pub orders_more : (now : ℕ) (all : List Sequence) (orders : List Instruction) (o : Instruction) → after_orders now all (orders ++ o ∷ []) ≡ obeyed now (after_orders now all orders) o
unfolding after_orders
orders_more now all orders o = fold_push (obeyed now) all orders o

-- the cursors behind one order more, on the tables in force
pub more_stand : (tables in_force : List (List TimedCommand)) (now time : ℕ) (all : List Sequence) (orders : List Instruction) (o : Instruction) (old new : List Cursor) → tables ≡ in_force → time ≡ now → CursorsStand in_force (after_orders time all orders) old
    → ((q : List Sequence) → CursorsStand tables q old → CursorsStand tables (obeyed now q o) new) → CursorsStand in_force (after_orders time all (orders ++ o ∷ [])) new
more_stand tables in_force now time all orders o old new same timed stood obeys =
    subst (λ (q : List Sequence). CursorsStand in_force q new) (sym (orders_more time all orders o))
    (subst (λ (t : ℕ). CursorsStand in_force (obeyed t (after_orders time all orders) o) new) (sym timed)
    (subst (λ (t : List (List TimedCommand)). CursorsStand t (obeyed now (after_orders time all orders) o) new) same
    (obeys (after_orders time all orders) (subst (λ (t : List (List TimedCommand)). CursorsStand t (after_orders time all orders) old) (sym same) stood))))

-- the duty on equal tables
pub on_tables : (tables in_force : List (List TimedCommand)) (s : Sequences) (duty : Duty) → tables ≡ in_force → DutyStands tables s duty → DutyStands in_force s duty
on_tables tables in_force s duty same stood = subst (λ (t : List (List TimedCommand)). DutyStands t s duty) same stood
