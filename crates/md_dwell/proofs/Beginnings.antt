-- A stream that starts in the next wakeup.
use Rattle.std.proofs.Common.{◌≡◌, ℕ, ◌+◌, ◌*◌, ◌<◌, Bool, true, false, cond, List, [], ◌∷◌, ◌++◌, length, take, eqb, refl, sym, ap, ◌∙◌, arith, inl, inr, eq-eqb}
use Rattle.std.proofs.lemmas.Bool.{cases_lt, and_parts, ltb-true}
use Rattle.histories.specs.Entries.{wakeups}
use Rattle.histories.specs.Entries.Entry.{Activated}
use Rattle.histories.proofs.Entries.{wakeups_activated, wakeups_none}
use Rattle.memory_window.specs.Memory.{Memory}
use Rattle.md_dwell.specs.Tables.{DwellTable}
use Rattle.md_dwell.specs.Lists.{list_of, delays, delays_to_last}
use Rattle.md_dwell.specs.Rounds.{gathered}
use Rattle.md_dwell.specs.Orders.{Input}
use Rattle.md_dwell.specs.Histories.{Activation, MdEntry, activation_of, started_at, images_of}
use Rattle.md_dwell.specs.Housekeeping.{entries_now, is_on}
use Rattle.md_dwell.specs.Streams.{StreamStands, IsAtBeginning}
use Rattle.md_dwell.specs.State.{TableStands, Begins, AllBegin, Stands}
use Rattle.md_dwell.specs.declared.tables.DwellEntry.{DwellEntry}
use Rattle.md_dwell.specs.declared.streams.Stream.{Stream}
use Rattle.md_dwell.specs.declared.state.Md.{Md}
use Rattle.md_dwell.proofs.Lists.{delays_none}
use Rattle.md_dwell.proofs.Rounds.{gathered_none}
use Rattle.md_dwell.proofs.Following.{started_begun, started_activated, started_unordered}
use Rattle.md_dwell.proofs.Turns.{images_count}

-- no round is over
first_round : (list : List DwellEntry) (since r : ℕ) (images : List Memory) → ((e : ℕ) → e < r → since + e * delays list + delays_to_last list < length images) → since ≡ length images → r ≡ 0
first_round list since r images over now = elim (cases_lt 0 r) [
  | inl later ↦ let early = over 0 later in absurd (omega arith)
  | inr none ↦ omega arith
]

-- and no entry was read
first_entry : (list : List DwellEntry) (from n : ℕ) (images : List Memory) → ((k : ℕ) → k < n → from + delays (take k list) < length images) → from ≡ length images → n ≡ 0
first_entry list from n images before now = elim (cases_lt 0 n) [
  | inl later ↦ let early = before 0 later in absurd (omega arith)
  | inr none ↦ omega arith
]

at_beginning : (entries : List DwellEntry) (on : Bool) (since : ℕ) (images : List Memory) (s : Stream) → StreamStands entries on since images s → since ≡ length images → on ≡ true → 0 < delays (list_of entries) → IsAtBeginning s
at_beginning entries on since images s stood now active some_delay =
    let run = stood.runs active some_delay in
    let list = list_of entries in
    let held = run.in_round in
    let round : run.round ≡ 0 = first_round list since run.round images held.over now in
    let begins = ap (λ (k : ℕ). k * delays list) round in
    let next : s.next ≡ 0 = first_entry list (since + run.round * delays list) s.next images held.read.before (omega arith) in
    let none : delays (take s.next list) ≡ 0 = ap (λ (k : ℕ). delays (take k list)) next ∙ delays_none in
    record {
      next = next;
      wait = omega (arith, held.read.distance);
      bytes = held.read.bytes_so_far ∙ ap (gathered list images (since + run.round * delays list)) next ∙ gathered_none list images (since + run.round * delays list);
    }

table_begins : (tables : List DwellTable) (history : List MdEntry) (n : ℕ) (s : Stream) → TableStands tables history [] n s → Begins tables history n s
table_begins tables history n s stood = λ now dwelling.
    let parts = and_parts _ _ dwelling in
    at_beginning (entries_now tables history [] n) (is_on tables history [] n) _ (images_of history) s stood (started_unordered n history ∙ now ∙ sym (images_count history)) parts.0 (ltb-true _ _ parts.1)

pub all_begin : (tables : List DwellTable) (history : List MdEntry) (md : Md) → Stands tables history md → AllBegin tables history md
unfolding Stands
all_begin tables history md stood = record {
  first = table_begins tables history 1 md.duty.first stood.duty.first;
  second = table_begins tables history 2 md.duty.second stood.duty.second;
  third = table_begins tables history 3 md.duty.third stood.duty.third;
  fourth = table_begins tables history 4 md.duty.fourth stood.duty.fourth;
}

-- before all wakeups a stream starts in the next one
pub before_all : (n : ℕ) → started_at n [] ≡ length (wakeups {W = Input} {A = Activation} [])
before_all n = started_begun n ∙ sym (ap length (wakeups_none Input Activation))

-- as it does behind an activation of the table, and then behind any other
same_number : (n : ℕ) → eqb n n ≡ true
same_number n = eq-eqb n n refl

pub activated_begins : (history : List MdEntry) (n : ℕ) (table : DwellTable) → started_at n (history ++ Activated (activation_of n table) ∷ []) ≡ length (wakeups (history ++ Activated (activation_of n table) ∷ []))
activated_begins history n table =
    started_activated n history (activation_of n table) true (same_number n) ∙ ap length (sym (wakeups_activated history (activation_of n table)))

pub activated_keeps : (history : List MdEntry) (n : ℕ) (a : Activation) → started_at n history ≡ length (wakeups history) → started_at n (history ++ Activated a ∷ []) ≡ length (wakeups (history ++ Activated a ∷ []))
activated_keeps history n a now = started_activated n history a (eqb a.number n) refl ∙ by_case (eqb a.number n) ∙ ap length (sym (wakeups_activated history a))
  where
    by_case : (b : Bool) → cond b (length (wakeups history)) (started_at n history) ≡ length (wakeups history)
    by_case true = refl
    by_case false = now
