-- A state behind the activation of a sequence that doesn't run.
use Rattle.std.proofs.Common.{◌≡◌, ℕ, ◌+◌, ◌<◌, true, false, List, [], ◌∷◌, ◌++◌, length, drop, set, Option, Some, None, inl, inr, refl, sym, ap, subst, ◌∙◌, arith}
use Rattle.std.specs.Prelude.{option_map}
use Rattle.std.proofs.lemmas.Bool.{cases_eq}
use Rattle.std.proofs.lemmas.List.{length-set, get_or-set_same, get_or-set_other, get_or-map}
use Rattle.histories.specs.Entries.Entry.{Activated}
use Rattle.commands.specs.Counting.{counts_of}
use Rattle.commands.proofs.Heard.{heard_idle}
use Rattle.table_files.specs.declared.kinds.TableKind.{TableKind}
use Rattle.sc_tables.specs.Commands.{TimedCommand, commands_in}
use Rattle.sc_sequences.specs.Sequences.{Sequence, waiting, has_some, is_running, at_place, first_time, tables_of}
use Rattle.sc_sequences.specs.Verdicts.{sc_protocol}
use Rattle.sc_sequences.specs.Turns.{Sequences}
use Rattle.sc_sequences.specs.Histories.{ScEntry, Beginning, Activation, activation_at, with_loaded, basis_in, packets_in, sequences_of, tables_after}
use Rattle.sc_sequences.specs.Step.{sc_heard}
use Rattle.sc_sequences.specs.Cursors.{cursor_in}
use Rattle.sc_sequences.specs.State.{CursorStands, CursorsStand, DutyStands, Stands, IsReady, sequence_place, runs_in, activation_of}
use Rattle.sc_sequences.specs.declared.cursors.Cursor.{Cursor}
use Rattle.sc_sequences.specs.declared.state.Sc.{Sc}
use Rattle.sc_sequences.proofs.Waking.{sequences_more}
use Rattle.sc_sequences.proofs.Loaded.{tables_activated}

-- what is loaded in a place
loaded_at : (all : List Sequence) (k : ℕ) → k < length all → commands_in (tables_of all) k ≡ (at_place all k).loaded
loaded_at all k inside = get_or-map (λ (s : Sequence). s.loaded) all k (waiting []) [] inside

-- the cursor of a sequence that doesn't run stands for it with other commands
none_timed : (base time : ℕ) (left : List TimedCommand) → has_some left ≡ false → first_time base left ≡ Some time → ⊥
none_timed base time [] none some = cc
none_timed base time (c ∷ left) none some = cc

reloads : (commands : List TimedCommand) (old : List TimedCommand) (s : Sequence) (c : Cursor) → is_running s ≡ false → CursorStands old s c → CursorStands commands (with_loaded commands s) c
reloads commands old s c rests stood = record {
  loaded = refl;
  next = stood.next;
  left = λ time some. absurd (none_timed s.base time s.left rests (sym stood.next ∙ some));
  enabled = stood.enabled;
}

-- all cursors, on the tables with those commands
module _ (all : List Sequence) (cursors : List Cursor) (place : ℕ) (commands : List TimedCommand) (rests : is_running (at_place all place) ≡ false) (stood : CursorsStand (tables_of all) all cursors) where
  abbrev pub new : List Sequence
  new = set all place (with_loaded commands (at_place all place))

  reloaded : (k : ℕ) → k < 66 → CursorStands (commands_in (tables_of new) k) (at_place new k) (cursor_in cursors k)
  reloaded k below = elim (cases_eq k place) [
    | inl same ↦ subst (λ (j : ℕ). CursorStands (commands_in (tables_of new) j) (at_place new j) (cursor_in cursors j)) (sym same) (here (let is = same in omega arith))
    | inr other ↦
        let same : at_place new k ≡ at_place all k = get_or-set_other all place k (with_loaded commands (at_place all place)) (waiting []) other in
        subst (λ (s : Sequence). CursorStands (commands_in (tables_of new) k) s (cursor_in cursors k)) (sym same)
        (subst (λ (cs : List TimedCommand). CursorStands cs (at_place all k) (cursor_in cursors k)) (sym (loaded_at new k (long k below) ∙ ap (λ (s : Sequence). s.loaded) same ∙ (stood.each k below).loaded)) (stood.each k below))
  ]
    where
      long : (k : ℕ) → k < 66 → k < length new
      long k below = let l = length-set all place (with_loaded commands (at_place all place)) in let w = stood.whole in omega arith

      here : place < 66 → CursorStands (commands_in (tables_of new) place) (at_place new place) (cursor_in cursors place)
      here inside =
          let within : place < length all = (let w = stood.whole in omega arith) in
          let same : at_place new place ≡ with_loaded commands (at_place all place) = get_or-set_same all place (with_loaded commands (at_place all place)) (waiting []) within in
          subst (λ (s : Sequence). CursorStands (commands_in (tables_of new) place) s (cursor_in cursors place)) (sym same)
          (subst (λ (cs : List TimedCommand). CursorStands cs (with_loaded commands (at_place all place)) (cursor_in cursors place)) (sym (loaded_at new place (long place inside) ∙ ap (λ (s : Sequence). s.loaded) same))
          (reloads commands (commands_in (tables_of all) place) (at_place all place) (cursor_in cursors place) rests (stood.each place inside)))

  pub all_reloaded : CursorsStand (tables_of new) new cursors
  all_reloaded = record { whole = length-set all place (with_loaded commands (at_place all place)) ∙ stood.whole; places = stood.places; each = reloaded }

pub activated_stands : (begin : Beginning) (history : List ScEntry) (a : Activation) (sc : Sc) → is_running (at_place (sequences_of begin history).all a.place) ≡ false → Stands begin history sc → Stands begin (history ++ Activated a ∷ []) sc
unfolding Stands sc_heard
activated_stands begin history a sc rests stood =
    let s = sequences_of begin history in
    record {
      counts = stood.counts ∙ ap counts_of (sym (heard_idle sc_protocol (basis_in begin) packets_in history (Activated a) refl));
      duty =
          subst (λ (m : Sequences). DutyStands (tables_of m.all) m sc.duty) (sym (sequences_more begin history (Activated a)))
          (record { cursors = all_reloaded s.all sc.duty.cursors a.place a.commands rests stood.duty.cursors; sent = stood.duty.sent; wrong = stood.duty.wrong });
    }

-- an activation by the kind of the sequence
pub kind_activated : (begin : Beginning) (history : List ScEntry) (kind : TableKind) (tables : List (List TimedCommand)) (a : Activation) (sc : Sc) → activation_of kind tables ≡ Some a
    → runs_in (sequences_of begin history).all (sequence_place kind) ≡ false → Stands begin history sc → Stands begin (history ++ Activated a ∷ []) sc
kind_activated begin history kind tables a sc is rests stood = by_place (sequence_place kind) is rests
  where
    same : (x : Activation) → ◌≡◌ {A = Option Activation} (Some x) (Some a) → x ≡ a
    same x e = cc

    by_place : (o : Option ℕ) → option_map (λ (place : ℕ). activation_at place (commands_in tables place)) o ≡ Some a → runs_in (sequences_of begin history).all o ≡ false → Stands begin (history ++ Activated a ∷ []) sc
    by_place None is rests = cc
    by_place (Some place) is rests =
        let x = activation_at place (commands_in tables place) in
        subst (λ (y : Activation). Stands begin (history ++ Activated y ∷ []) sc) (same x is) (activated_stands begin history x sc rests stood)

-- it can take a wakeup on the tables with those commands
pub activated_ready : (tables : List (List TimedCommand)) (place : ℕ) (commands : List TimedCommand) (sc : Sc)
    → ((begin : Beginning) (history : List ScEntry) → Stands begin history sc → is_running (at_place (sequences_of begin history).all place) ≡ false) → IsReady tables sc → IsReady (set tables place commands) sc
activated_ready tables place commands sc rests ready =
    let a = activation_at place commands in
    record {
      begin = ready.begin;
      history = ready.history ++ Activated a ∷ [];
      in_force = ap (λ (t : List (List TimedCommand)). set t place commands) ready.in_force ∙ sym (tables_activated ready.begin ready.history a);
      stands = activated_stands ready.begin ready.history a sc (rests ready.begin ready.history ready.stands) ready.stands;
    }

-- what is left of a sequence that runs stands in the table in force
timed : (base : ℕ) (left : List TimedCommand) → has_some left ≡ true → (t : ℕ) × (first_time base left ≡ Some t)
timed base [] none = cc
timed base (c ∷ left) some = (base + c.tag, refl)

pub left_in_table : (begin : Beginning) (history : List ScEntry) (sc : Sc) (k : ℕ) → k < 66 → is_running (at_place (sequences_of begin history).all k) ≡ true → Stands begin history sc
    → (at : ℕ) × (drop at (commands_in (tables_after begin history) k) ≡ (at_place (sequences_of begin history).all k).left)
unfolding Stands
left_in_table begin history sc k below runs stood =
    let s = at_place (sequences_of begin history).all k in
    let stands = stood.duty.cursors.each k below in
    let time = timed s.base s.left runs in
    ((cursor_in sc.duty.cursors k).at, stands.left time.0 (stands.next ∙ time.1))
