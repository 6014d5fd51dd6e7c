-- Whether any place takes part, place by place; and a wakeup in which none does.
use Rattle.std.proofs.Common.{◌≡◌, ℕ, zero, suc, ◌+◌, ◌%◌, ◌<◌, ◌≤◌, Bool, true, false, not, ◌&&◌, ◌||◌, List, [], ◌∷◌, ◌++◌, length, map, drop, get_or, refl, sym, ap, ◌∙◌, arith, append-nil}
use Rattle.std.specs.Prelude.{None, find, ◌==◌}
use Rattle.std.specs.List.{list_any, range_with_len}
use Rattle.histories.specs.Entries.Entry.{Woken}
use Rattle.std.proofs.lemmas.List.{drop_more, drop_all}
use Rattle.std.proofs.lemmas.List.FromFn.{length-range_with_len, get_or-range_with_len}
use Rattle.commands.specs.Verdicts.{orders_in, verdicts_on}
use Rattle.commands.specs.declared.verdicts.Verdict.{Verdict}
use Rattle.commands.proofs.Heard.{no_packets, no_answers, verdicts_none}
use Rattle.memory_window.specs.Memory.{Memory}
use Rattle.cs_slices.specs.Messages.{cs_name}
use Rattle.cs_slices.specs.Verdicts.{cs_protocol}
use Rattle.cs_slices.specs.Tables.{TablePair}
use Rattle.cs_slices.specs.Happenings.{Happening, slices_among}
use Rattle.cs_slices.specs.Happenings.Happening.{Ordered}
use Rattle.cs_slices.specs.Orders.{takes_part, some_take_part}
use Rattle.cs_slices.specs.Slices.{current_place, ring_from, next_slice}
use Rattle.cs_slices.specs.Wakeups.{Input, heard_at, ordered_at}
use Rattle.cs_slices.specs.Histories.{CsEntry, tables_after, before_slice, happened_of, slice_at}
use Rattle.cs_slices.specs.Step.{cs_heard, cs_answers, turn_of, cs_items}
use Rattle.cs_slices.specs.State.{Stands, is_idle_on}
use Rattle.cs_slices.specs.declared.instructions.Instruction.{Instruction}
use Rattle.cs_slices.specs.declared.state.Cs.{Cs}
use Rattle.cs_slices.proofs.Histories.{stands_more}

zero_more : (k : ℕ) → 0 + k ≡ k
zero_more k = omega arith

-- from a place on

from_place : (p : ℕ → Bool) (k : ℕ) → k < 32 → list_any p (drop k (range_with_len 0 32)) ≡ (p k || list_any p (drop (k + 1) (range_with_len 0 32)))
from_place p k within =
    let long = length-range_with_len 0 32 in
    ap (list_any p) (drop_more (range_with_len 0 32) k 0 (omega (arith, long)))
    ∙ ap (λ (n : ℕ). p n || list_any p (drop (k + 1) (range_with_len 0 32))) (get_or-range_with_len 0 32 k 0 within ∙ zero_more k)

module _ (tables : TablePair) (happened : List Happening) where
  pub taking_step : (any next part : Bool) (k : ℕ) → k < 32 → part ≡ takes_part tables happened k → next ≡ (any || part) → some_take_part tables happened ≡ (any || list_any (takes_part tables happened) (drop k (range_with_len 0 32)))
      → some_take_part tables happened ≡ (next || list_any (takes_part tables happened) (drop (k + 1) (range_with_len 0 32)))
  taking_step any next part k within is so so_far =
      so_far ∙ ap (λ (b : Bool). any || b) (from_place (takes_part tables happened) k within)
      ∙ ap (λ (b : Bool). any || (b || list_any (takes_part tables happened) (drop (k + 1) (range_with_len 0 32)))) (sym is)
      ∙ regroup any part (list_any (takes_part tables happened) (drop (k + 1) (range_with_len 0 32)))
      ∙ ap (λ (b : Bool). b || list_any (takes_part tables happened) (drop (k + 1) (range_with_len 0 32))) (sym so)
    where
      regroup : (a b c : Bool) → (a || (b || c)) ≡ ((a || b) || c)
      regroup true b c = refl
      regroup false b c = refl

  pub taking_all : (any : Bool) (k : ℕ) → 32 ≤ k → some_take_part tables happened ≡ (any || list_any (takes_part tables happened) (drop k (range_with_len 0 32))) → any ≡ some_take_part tables happened
  taking_all any k past so_far =
      let long = length-range_with_len 0 32 in
      sym (so_far ∙ ap (λ (ks : List ℕ). any || list_any (takes_part tables happened) ks) (drop_all k (range_with_len 0 32) (omega (arith, long))) ∙ nothing any)
    where
      nothing : (a : Bool) → (a || false) ≡ a
      nothing true = refl
      nothing false = refl

  pub taking_none : some_take_part tables happened ≡ (false || list_any (takes_part tables happened) (drop 0 (range_with_len 0 32)))
  unfolding some_take_part
  taking_none = refl

neither : (a b : Bool) → (a || b) ≡ false → (a ≡ false) × (b ≡ false)
neither true b both = cc
neither false b both = (refl, both)

-- none of the 32
each_not : (p : ℕ → Bool) (xs : List ℕ) → list_any p xs ≡ false → (i d : ℕ) → i < length xs → p (get_or xs i d) ≡ false
each_not p [] none i d within = absurd (omega arith)
each_not p (x ∷ xs) none zero d within = (neither (p x) (list_any p xs) none).0
each_not p (x ∷ xs) none (suc i) d within = each_not p xs (neither (p x) (list_any p xs) none).1 i d (omega arith)

place_not : (tables : TablePair) (happened : List Happening) → some_take_part tables happened ≡ false → (k : ℕ) → k < 32 → takes_part tables happened k ≡ false
unfolding some_take_part
place_not tables happened none k within =
    let long = length-range_with_len 0 32 in
    ap (takes_part tables happened) (sym (get_or-range_with_len 0 32 k 0 within ∙ zero_more k)) ∙ each_not (takes_part tables happened) (range_with_len 0 32) none k 0 (omega (arith, long))

none_found : (p : ℕ → Bool) (f : ℕ → ℕ) → ((k : ℕ) → p (f k) ≡ false) → (ks : List ℕ) → find p (map f ks) ≡ None
none_found p f none [] = refl
none_found p f none (k ∷ ks) = rw (none k) (none_found p f none ks)

small_place : (place k : ℕ) → (place + k) % 32 < 32
small_place place k = omega arith

no_slice : (tables : TablePair) (happened : List Happening) (image : Memory) → some_take_part tables happened ≡ false → next_slice tables happened image ≡ None
unfolding next_slice ring_from
no_slice tables happened image none =
    rw (none_found (takes_part tables happened) (λ (k : ℕ). (current_place (slices_among happened) + k) % 32) (λ k. place_not tables happened none ((current_place (slices_among happened) + k) % 32) (small_place (current_place (slices_among happened)) k)) (range_with_len 0 32)) refl

-- no packets
none_heard : (tables : TablePair) (input : Input) → input.commands ≡ [] → heard_at tables input ≡ []
none_heard tables input none = ap (verdicts_on cs_protocol tables) none ∙ verdicts_none cs_protocol tables

none_ordered : (tables : TablePair) (input : Input) → input.commands ≡ [] → ordered_at tables input ≡ []
unfolding orders_in
none_ordered tables input none = ap (λ (heard : List (Verdict Instruction)). orders_in heard) (none_heard tables input none)

nothing_before : (tables : TablePair) (happened : List Happening) (input : Input) → input.commands ≡ [] → before_slice tables happened input ≡ happened
nothing_before tables happened input none = ap (λ (orders : List Instruction). happened ++ map Ordered orders) (none_ordered tables input none) ∙ append-nil happened

sleeps : (tables : TablePair) (happened : List Happening) (input : Input) → input.commands ≡ [] → some_take_part tables happened ≡ false → next_slice tables (before_slice tables happened input) input.seen ≡ None
sleeps tables happened input none off = ap (λ (h : List Happening). next_slice tables h input.seen) (nothing_before tables happened input none) ∙ no_slice tables happened input.seen off

of_both : (a b : Bool) → (a && not b) ≡ true → (a ≡ true) × (b ≡ false)
of_both true false both = (refl, refl)
of_both true true both = cc
of_both false b both = cc

module _ (tables : TablePair) (history : List CsEntry) (input : Input) (commands : List (List ℕ)) (empty any : Bool) (both : (empty && not any) ≡ true) (is_empty : empty ≡ (length commands == 0))
    (is_any : any ≡ some_take_part (tables_after tables history) (happened_of tables history)) (these : input.commands ≡ commands) where
  silent : input.commands ≡ []
  silent = these ∙ no_packets commands (sym is_empty ∙ (of_both empty any both).0)

  unread : next_slice (tables_after tables history) (before_slice (tables_after tables history) (happened_of tables history) input) input.seen ≡ None
  unread = sleeps (tables_after tables history) (happened_of tables history) input silent (sym is_any ∙ (of_both empty any both).1)

  pub stands_asleep : (cs : Cs) → Stands tables history cs → Stands tables (history ++ Woken input ∷ []) cs
  unfolding Stands
  stands_asleep cs stood =
      let now = tables_after tables history in
      stands_more tables history input cs
      (rw (none_heard (tables_after tables history) input silent, append-nil (cs_heard tables history)) stood.counts)
      (rw (unread, append-nil (before_slice (tables_after tables history) (happened_of tables history) input), nothing_before (tables_after tables history) (happened_of tables history) input silent) stood.duty)

  pub items_asleep : cs_items tables history input ≡ []
  unfolding cs_items slice_at
  items_asleep = rw (unread, none_heard (tables_after tables history) input silent, no_answers cs_answers cs_name (turn_of tables history input)) refl

pub idle_is : (tables : TablePair) (history : List CsEntry) (commands : List (List ℕ)) (empty any : Bool) → empty ≡ (length commands == 0)
    → any ≡ some_take_part (tables_after tables history) (happened_of tables history) → (empty && not any) ≡ is_idle_on tables history commands
unfolding is_idle_on
idle_is tables history commands empty any none is = rw (none, is) refl
