-- In every history the commands of absolute sequences are in order of time, where those of its tables are.
use Rattle.std.proofs.Common.{◌≡◌, ℕ, ◌<◌, List, [], ◌∷◌, map, set, inl, inr, sym, ap, subst, ◌∙◌, arith}
use Rattle.std.specs.List.{fold}
use Rattle.histories.specs.Entries.Entry.{Woken, Activated}
use Rattle.sc_tables.specs.Commands.{commands_in}
use Rattle.sc_sequences.specs.Sequences.{Sequence, waiting, at_place}
use Rattle.sc_sequences.specs.Turns.{Sequences}
use Rattle.sc_sequences.specs.Histories.{ScEntry, Beginning, first_started, with_loaded, at_start, after_entry, sequences_of, ordered, ordered_at}
use Rattle.sc_sequences.specs.Laws.{RiseFrom, AreTimed, IsEntryTimed, AreEntriesTimed, AreTablesTimed}
use Rattle.sc_sequences.proofs.Firsts.{changed_or_not}
use Rattle.sc_sequences.proofs.Beginning.{waiting_at}
use Rattle.sc_sequences.proofs.Departing.{leaves}
use Rattle.sc_sequences.proofs.Resting.{orders_follow}

begun_timed : (begin : Beginning) → AreTablesTimed begin.tables → AreTimed (at_start begin).all
unfolding at_start
begun_timed begin timed = record {
  loaded = λ k two. subst (λ (s : Sequence). RiseFrom 0 s.loaded) (sym (unchanged k two)) (timed.rise k two);
  left = λ k two. subst (λ (s : Sequence). RiseFrom 0 s.left) (sym (unchanged k two)) tt;
  base = λ k two. ap (λ (s : Sequence). s.base) (unchanged k two);
}
  where
    unchanged : (k : ℕ) → k < 2 → at_place (set (map waiting begin.tables) 2 (first_started begin.time (at_place (map waiting begin.tables) 2))) k ≡ waiting (commands_in begin.tables k)
    unchanged k two = elim (changed_or_not (map waiting begin.tables) 2 (first_started begin.time (at_place (map waiting begin.tables) 2)) k) [
      | inl same ↦ same ∙ waiting_at begin.tables k
      | inr changed ↦ let here = changed.0 in absurd (omega arith)
    ]

entry_timed : (s : Sequences) (entry : ScEntry) → AreTimed s.all → IsEntryTimed entry → AreTimed (after_entry s entry).all
entry_timed s (Woken input) timed entered = (leaves 8 input.time (ordered input.time (ordered_at s input) s) (orders_follow input.time s.all (ordered_at s input) timed).timed).timed
entry_timed s (Activated a) timed entered = record { loaded = λ k two. by_loaded k two; left = λ k two. by_left k two; base = λ k two. by_base k two }
  where
    by_loaded : (k : ℕ) → k < 2 → RiseFrom 0 (at_place (set s.all a.place (with_loaded a.commands (at_place s.all a.place))) k).loaded
    by_loaded k two = elim (changed_or_not s.all a.place (with_loaded a.commands (at_place s.all a.place)) k) [
      | inl same ↦ subst (λ (q : Sequence). RiseFrom 0 q.loaded) (sym same) (timed.loaded k two)
      | inr changed ↦ let here = changed.0 in subst (λ (q : Sequence). RiseFrom 0 q.loaded) (sym changed.1) (entered (omega arith))
    ]

    by_left : (k : ℕ) → k < 2 → RiseFrom 0 (at_place (set s.all a.place (with_loaded a.commands (at_place s.all a.place))) k).left
    by_left k two = elim (changed_or_not s.all a.place (with_loaded a.commands (at_place s.all a.place)) k) [
      | inl same ↦ subst (λ (q : Sequence). RiseFrom 0 q.left) (sym same) (timed.left k two)
      | inr changed ↦ let here = changed.0 in subst (λ (q : Sequence). RiseFrom 0 q.left) (sym changed.1) (timed.left a.place (omega arith))
    ]

    by_base : (k : ℕ) → k < 2 → (at_place (set s.all a.place (with_loaded a.commands (at_place s.all a.place))) k).base ≡ 0
    by_base k two = elim (changed_or_not s.all a.place (with_loaded a.commands (at_place s.all a.place)) k) [
      | inl same ↦ ap (λ (q : Sequence). q.base) same ∙ timed.base k two
      | inr changed ↦ let here = changed.0 in ap (λ (q : Sequence). q.base) changed.1 ∙ timed.base a.place (omega arith)
    ]

entries_timed : (s : Sequences) (history : List ScEntry) → AreTimed s.all → AreEntriesTimed history → AreTimed (fold after_entry s history).all
entries_timed s [] timed entered = timed
entries_timed s (entry ∷ history) timed entered = entries_timed (after_entry s entry) history (entry_timed s entry timed entered.0) entered.1

pub reached_timed : (begin : Beginning) (history : List ScEntry) → AreTablesTimed begin.tables → AreEntriesTimed history → AreTimed (sequences_of begin history).all
unfolding sequences_of
reached_timed begin history timed entered = entries_timed (at_start begin) history (begun_timed begin timed) entered
