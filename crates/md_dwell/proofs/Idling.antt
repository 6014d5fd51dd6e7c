-- A wakeup in which MD does nothing.
use Rattle.std.proofs.Common.{◌≡◌, ℕ, ◌<◌, Bool, true, false, not, ◌&&◌, ◌||◌, List, [], ◌∷◌, ◌++◌, length, None, refl, sym, ap, ◌∙◌, lt-ltb, append-nil}
use Rattle.std.specs.Prelude.{nat_lt, ◌==◌}
use Rattle.histories.specs.Entries.Entry.{Woken}
use Rattle.commands.specs.Verdicts.{orders_in, verdicts_on}
use Rattle.commands.specs.Counting.{counts_of}
use Rattle.commands.specs.declared.verdicts.Verdict.{Verdict}
use Rattle.commands.proofs.Heard.{no_packets, no_answers, verdicts_none}
use Rattle.memory_window.specs.Memory.{Memory}
use Rattle.md_dwell.specs.Messages.{md_name}
use Rattle.md_dwell.specs.Tables.{DwellTable}
use Rattle.md_dwell.specs.Lists.{list_of, delays}
use Rattle.md_dwell.specs.Rounds.{dwell_at}
use Rattle.md_dwell.specs.Verdicts.{md_protocol}
use Rattle.md_dwell.specs.Orders.{Input, heard_at, ordered_at}
use Rattle.md_dwell.specs.Histories.{MdEntry, images_of}
use Rattle.md_dwell.specs.Housekeeping.{entries_now, is_on, dwells}
use Rattle.md_dwell.specs.Answers.{dwell_items}
use Rattle.md_dwell.specs.Step.{md_heard, md_answers, turn_of, table_items, md_items}
use Rattle.md_dwell.specs.State.{TableStands, DutyStands, Stands, is_idle_on}
use Rattle.md_dwell.specs.declared.instructions.Instruction.{Instruction}
use Rattle.md_dwell.specs.declared.streams.Stream.{Stream}
use Rattle.md_dwell.specs.declared.duty.Duty.{Duty}
use Rattle.md_dwell.specs.declared.state.Md.{Md}
use Rattle.md_dwell.proofs.Courses.{idle}
use Rattle.md_dwell.proofs.Following.{heard_woken}
use Rattle.md_dwell.proofs.Turns.{table_wakeup, table_gives}

-- what is kept of a table tells whether it dwells
abbrev pub kept : Stream → Bool
kept s = s.enabled && nat_lt 0 (delays (list_of s.plan))

pub dwells_is : (tables : List DwellTable) (history : List MdEntry) (n : ℕ) (s : Stream) → TableStands tables history [] n s → kept s ≡ dwells tables history n
dwells_is tables history n s stood = rw (stood.enabled, stood.plan) refl

-- by all four
pub idle_is : (tables : List DwellTable) (history : List MdEntry) (commands : List (List ℕ)) (empty any : Bool) (s : Duty) → DutyStands tables history [] s → empty ≡ (length commands == 0)
    → any ≡ (kept s.first || kept s.second || kept s.third || kept s.fourth) → (empty && not any) ≡ is_idle_on tables history commands
unfolding is_idle_on
idle_is tables history commands empty any s stood none is =
    rw (none, is, dwells_is tables history 1 s.first stood.first, dwells_is tables history 2 s.second stood.second, dwells_is tables history 3 s.third stood.third, dwells_is tables history 4 s.fourth stood.fourth)
    (ap (λ (b : Bool). (length commands == 0) && not b) (of_list (dwells tables history 1) (dwells tables history 2) (dwells tables history 3) (dwells tables history 4)))
  where
    of_list : (a b c d : Bool) → (a || b || c || d) ≡ (a || (b || (c || (d || false))))
    of_list true b c d = refl
    of_list false true c d = refl
    of_list false false true d = refl
    of_list false false false true = refl
    of_list false false false false = refl

-- no packets, nothing heard
none_heard : (input : Input) → input.commands ≡ [] → heard_at input ≡ []
none_heard input none = ap (verdicts_on md_protocol input.seen) none ∙ verdicts_none md_protocol input.seen

pub none_ordered : (input : Input) → input.commands ≡ [] → ordered_at input ≡ []
unfolding orders_in
none_ordered input none = ap (λ (heard : List (Verdict Instruction)). orders_in heard) (none_heard input none)

-- a table that doesn't dwell
still : (on : Bool) (n : ℕ) → (on && nat_lt 0 n) ≡ false → on ≡ true → 0 < n → ⊥
still true n off active some = let more : nat_lt 0 n ≡ true = lt-ltb 0 n some in absurd (true_false (sym more ∙ off))
  where
    true_false : true ≡ false → ⊥
    true_false e = cc
still false n off active some = cc

dwells_not : (on : Bool) (entries : List _) (since : ℕ) (images : List Memory) → (on && nat_lt 0 (delays (list_of entries))) ≡ false → dwell_at on entries since images ≡ None
unfolding dwell_at
dwells_not on entries since images off = rw off refl

pub table_asleep : (tables : List DwellTable) (history : List MdEntry) (input : Input) (n : ℕ) (s : Stream) → input.commands ≡ [] → kept s ≡ false → TableStands tables history [] n s → TableStands tables (history ++ Woken input ∷ []) [] n s
table_asleep tables history input n s none off stood =
    table_wakeup tables history input n s
    (rw (none_ordered input none)
    (idle _ _ _ (images_of history) _ s (λ active some. still (is_on tables history [] n) (delays (list_of (entries_now tables history [] n))) (rw (← stood.enabled, ← stood.plan) off) active some) stood))

gives_nothing : (tables : List DwellTable) (history : List MdEntry) (input : Input) (time n : ℕ) (s : Stream) → input.commands ≡ [] → kept s ≡ false → TableStands tables history [] n s → table_items tables (history ++ Woken input ∷ []) time n ≡ []
gives_nothing tables history input time n s none off stood =
    sym (table_gives tables history input time n)
    ∙ rw (none_ordered input none) (ap (dwell_items time n) (dwells_not _ _ _ _ (rw (← stood.enabled, ← stood.plan) off)))

of_four : (a b c d : Bool) → (a || b || c || d) ≡ false → (a ≡ false) × (b ≡ false) × (c ≡ false) × (d ≡ false)
of_four false false false false none = (refl, refl, refl, refl)
of_four true b c d none = cc
of_four false true c d none = cc
of_four false false true d none = cc
of_four false false false true none = cc

of_both : (a b : Bool) → (a && not b) ≡ true → (a ≡ true) × (b ≡ false)
of_both true false both = (refl, refl)
of_both true true both = cc
of_both false b both = cc

pub stands_asleep : (tables : List DwellTable) (history : List MdEntry) (input : Input) (commands : List (List ℕ)) (empty any : Bool) (md : Md) → (empty && not any) ≡ true → empty ≡ (length commands == 0)
    → any ≡ (kept md.duty.first || kept md.duty.second || kept md.duty.third || kept md.duty.fourth) → input.commands ≡ commands → Stands tables history md → Stands tables (history ++ Woken input ∷ []) md
unfolding Stands
stands_asleep tables history input commands empty any md both is_empty is_any these stood =
    let parts = of_both empty any both in
    let none : input.commands ≡ [] = these ∙ no_packets commands (sym is_empty ∙ parts.0) in
    let off = of_four (kept md.duty.first) (kept md.duty.second) (kept md.duty.third) (kept md.duty.fourth) (sym is_any ∙ parts.1) in
    record {
      counts = stood.counts ∙ ap counts_of (sym (heard_woken history input ∙ ap (λ (heard : List (Verdict Instruction)). md_heard history ++ heard) (none_heard input none) ∙ append-nil (md_heard history)));
      duty = record {
        first = table_asleep tables history input 1 md.duty.first none off.0 stood.duty.first;
        second = table_asleep tables history input 2 md.duty.second none off.1 stood.duty.second;
        third = table_asleep tables history input 3 md.duty.third none off.2 stood.duty.third;
        fourth = table_asleep tables history input 4 md.duty.fourth none off.3 stood.duty.fourth;
      };
    }

pub items_asleep : (tables : List DwellTable) (history : List MdEntry) (input : Input) (commands : List (List ℕ)) (empty any : Bool) (md : Md) → (empty && not any) ≡ true → empty ≡ (length commands == 0)
    → any ≡ (kept md.duty.first || kept md.duty.second || kept md.duty.third || kept md.duty.fourth) → input.commands ≡ commands → Stands tables history md → md_items tables history input ≡ []
unfolding Stands md_items
items_asleep tables history input commands empty any md both is_empty is_any these stood =
    let parts = of_both empty any both in
    let none : input.commands ≡ [] = these ∙ no_packets commands (sym is_empty ∙ parts.0) in
    let off = of_four (kept md.duty.first) (kept md.duty.second) (kept md.duty.third) (kept md.duty.fourth) (sym is_any ∙ parts.1) in
    rw (
      none_heard input none,
      no_answers md_answers md_name (turn_of tables history input),
      gives_nothing tables history input input.time 1 md.duty.first none off.0 stood.duty.first,
      gives_nothing tables history input input.time 2 md.duty.second none off.1 stood.duty.second,
      gives_nothing tables history input input.time 3 md.duty.third none off.2 stood.duty.third,
      gives_nothing tables history input input.time 4 md.duty.fourth none off.3 stood.duty.fourth,
    ) refl
