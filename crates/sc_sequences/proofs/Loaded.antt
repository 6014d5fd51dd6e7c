-- Which commands are loaded: orders and turns leave them, and an activation changes one list.
use Rattle.std.proofs.Common.{◌≡◌, ℕ, zero, suc, Bool, true, false, cond, List, [], ◌∷◌, ◌++◌, length, map, set, Option, Some, None, inl, inr, refl, sym, ap, ◌∙◌}
use Rattle.std.proofs.lemmas.Bool.{cases_lt}
use Rattle.std.proofs.lemmas.List.{map-set, set-get_or, get_or-map, set_past}
use Rattle.histories.specs.Entries.Entry.{Woken, Activated}
use Rattle.sc_tables.specs.Commands.{TimedCommand}
use Rattle.sc_sequences.specs.Sequences.{Sequence, waiting, at_place, with_at, is_loaded, going_on, stopped, from_time, started_with, started_at, running_ats, ats_place, rts_place, other_ats, tables_of}
use Rattle.sc_sequences.specs.Orders.{where_placed, allowed, switched, jumped, obeyed, after_orders}
use Rattle.sc_sequences.specs.Turns.{Sequences, Done, next_place, leaving, turn, turns}
use Rattle.sc_sequences.specs.Histories.{Input, Activation, ScEntry, Beginning, first_started, at_start, sequences_of, tables_after, ordered, ordered_at}
use Rattle.sc_sequences.specs.declared.instructions.Instruction.{Instruction}
use Rattle.sc_sequences.specs.declared.instructions.Instruction.TheVariants.{Plain, StartAts, StopAts, StartRts, StopRts, DisableRts, EnableRts, SwitchAts, JumpAts}
use Rattle.sc_sequences.proofs.Takes.{turn_taken, turn_idle}
use Rattle.sc_sequences.proofs.Waking.{sequences_none, sequences_more}

-- a change in one place changes one list
set_loaded : (all : List Sequence) (place : ℕ) (new : Sequence) → tables_of (set all place new) ≡ set (tables_of all) place new.loaded
set_loaded all place new = map-set (λ (s : Sequence). s.loaded) all place new

-- and none where it keeps what is loaded
same_loaded : (all : List Sequence) (place : ℕ) (new : Sequence) → new.loaded ≡ (at_place all place).loaded → tables_of (set all place new) ≡ tables_of all
same_loaded all place new same = elim (cases_lt place (length all)) [
  | inl within ↦
      set_loaded all place new
      ∙ ap (set (tables_of all) place) (same ∙ sym (get_or-map (λ (s : Sequence). s.loaded) all place (waiting []) [] within))
      ∙ set-get_or (tables_of all) place []
  | inr past ↦ ap tables_of (set_past all place new past)
]

starts : (place now : ℕ) (all : List Sequence) → tables_of (started_at place now all) ≡ tables_of all
starts place now all = same_loaded all place (going_on place now (started_with place now (at_place all place).loaded) (at_place all place)) refl

stops : (place : ℕ) (all : List Sequence) → tables_of (with_at place stopped all) ≡ tables_of all
stops place all = same_loaded all place (stopped (at_place all place)) refl

allows : (on : Bool) (place : ℕ) (all : List Sequence) → tables_of (with_at place (allowed on) all) ≡ tables_of all
allows on place all = same_loaded all place (allowed on (at_place all place)) refl

jumps : (now time place : ℕ) (all : List Sequence) → tables_of (jumped now time place all) ≡ tables_of all
jumps now time place all = same_loaded all place (going_on place now (from_time time (at_place all place).left) (at_place all place)) refl

switches : (now place : ℕ) (all : List Sequence) → tables_of (switched now place all) ≡ tables_of all
switches now place all = starts (other_ats place) now (with_at place stopped all) ∙ stops place all

placed : (o : Option ℕ) (change : ℕ → List Sequence → List Sequence) (all : List Sequence) → ((place : ℕ) → tables_of (change place all) ≡ tables_of all) → tables_of (where_placed o change all) ≡ tables_of all
placed None change all each = refl
placed (Some place) change all each = each place

order_keeps : (now : ℕ) (all : List Sequence) (o : Instruction) → tables_of (obeyed now all o) ≡ tables_of all
order_keeps now all Plain = refl
order_keeps now all (StartAts number) = placed (ats_place number) (λ place. started_at place now) all (λ place. starts place now all)
order_keeps now all StopAts = stops 1 (with_at 0 stopped all) ∙ stops 0 all
order_keeps now all (StartRts number) = placed (rts_place number) (λ place. started_at place now) all (λ place. starts place now all)
order_keeps now all (StopRts number) = placed (rts_place number) (λ place. with_at place stopped) all (λ place. stops place all)
order_keeps now all (DisableRts number) = placed (rts_place number) (λ place. with_at place (allowed false)) all (λ place. allows false place all)
order_keeps now all (EnableRts number) = placed (rts_place number) (λ place. with_at place (allowed true)) all (λ place. allows true place all)
order_keeps now all SwitchAts = placed (running_ats all) (λ place. switched now place) all (λ place. switches now place all)
order_keeps now all (JumpAts time) = placed (running_ats all) (λ place. jumped now time place) all (λ place. jumps now time place all)

orders_keep : (now : ℕ) (all : List Sequence) (orders : List Instruction) → tables_of (after_orders now all orders) ≡ tables_of all
unfolding after_orders
orders_keep now all [] = refl
orders_keep now all (o ∷ orders) = orders_keep now (obeyed now all o) orders ∙ order_keeps now all o

leaving_keeps : (now place : ℕ) (s : Sequences) (left : List TimedCommand) → tables_of (leaving now s place left).after.all ≡ tables_of s.all
leaving_keeps now place s [] = refl
leaving_keeps now place s (c ∷ rest) = same_loaded s.all place _ refl

turn_keeps : (now : ℕ) (s : Sequences) (o : Option ℕ) → next_place now s.all ≡ o → tables_of (turn now s).after.all ≡ tables_of s.all
turn_keeps now s None idle = ap (λ (done : Done). tables_of done.after.all) (turn_idle now s idle)
turn_keeps now s (Some place) next = ap (λ (done : Done). tables_of done.after.all) (turn_taken now place s next) ∙ leaving_keeps now place s (at_place s.all place).left

turns_keep : (n now : ℕ) (s : Sequences) → tables_of (turns n now s).after.all ≡ tables_of s.all
unfolding turns
turns_keep zero now s = refl
turns_keep (suc n) now s = turn_keeps now (turns n now s).after (next_place now (turns n now s).after.all) refl ∙ turns_keep n now s

-- the tables in force behind no entry, a wakeup more, and an activation more
all_waiting : (tables : List (List TimedCommand)) → tables_of (map waiting tables) ≡ tables
all_waiting [] = refl
all_waiting (commands ∷ tables) = ap (λ (more : List (List TimedCommand)). commands ∷ more) (all_waiting tables)

first_keeps : (time : ℕ) (s : Sequence) → (first_started time s).loaded ≡ s.loaded
first_keeps time s = by_test (is_loaded s)
  where
    by_test : (b : Bool) → (let new : Sequence = cond b (record (going_on 2 time s.loaded s) { enabled = true }) s in new).loaded ≡ s.loaded
    by_test true = refl
    by_test false = refl

pub tables_begun : (begin : Beginning) → tables_after begin [] ≡ begin.tables
unfolding at_start
tables_begun begin =
    ap (λ (s : Sequences). tables_of s.all) (sequences_none begin)
    ∙ same_loaded (map waiting begin.tables) 2 (first_started begin.time (at_place (map waiting begin.tables) 2)) (first_keeps begin.time (at_place (map waiting begin.tables) 2))
    ∙ all_waiting begin.tables

pub tables_woken : (begin : Beginning) (history : List ScEntry) (input : Input) → tables_after begin (history ++ Woken input ∷ []) ≡ tables_after begin history
tables_woken begin history input =
    let s = sequences_of begin history in
    ap (λ (m : Sequences). tables_of m.all) (sequences_more begin history (Woken input))
    ∙ turns_keep 8 input.time (ordered input.time (ordered_at s input) s)
    ∙ orders_keep input.time s.all (ordered_at s input)

pub tables_activated : (begin : Beginning) (history : List ScEntry) (a : Activation) → tables_after begin (history ++ Activated a ∷ []) ≡ set (tables_after begin history) a.place a.commands
tables_activated begin history a = ap (λ (m : Sequences). tables_of m.all) (sequences_more begin history (Activated a)) ∙ set_loaded (sequences_of begin history).all a.place _
