-- What was left behind in a wakeup, and what the next one's commands make of it.
use Rattle.std.proofs.Common.{◌≡◌, ◌⊎◌, ℕ, ◌+◌, ◌<◌, ◌≤◌, Bool, true, false, cond, List, [], ◌∷◌, set, Option, Some, None, inl, inr, refl, sym, ap, subst, ◌∙◌, arith}
use Rattle.std.specs.Prelude.{nat_le}
use Rattle.std.proofs.lemmas.Bool.{le-leb, lt-leb, leb-true, cases_lt}
use Rattle.sc_tables.specs.Commands.{TimedCommand}
use Rattle.sc_sequences.specs.Sequences.{Sequence, at_place, with_at, is_relative, base_at, going_on, stopped, from_time, started_with, started_at, first_time, head_time, running_ats, ats_place, rts_place, other_ats}
use Rattle.sc_sequences.specs.Orders.{where_placed, allowed, switched, jumped, obeyed, after_orders}
use Rattle.sc_sequences.specs.Turns.{next_place}
use Rattle.sc_sequences.specs.Laws.{RiseFrom, AreTimed, ComesFirst}
use Rattle.sc_sequences.specs.declared.instructions.Instruction.{Instruction}
use Rattle.sc_sequences.specs.declared.instructions.Instruction.TheVariants.{Plain, StartAts, StopAts, StartRts, StopRts, DisableRts, EnableRts, SwitchAts, JumpAts}
use Rattle.sc_sequences.proofs.Firsts.{comes_next, changed_or_not, no_time}
use Rattle.sc_sequences.proofs.Departing.{rise_weaker}

-- a time is of now or later, or no sooner than that of a sequence
abbrev pub NoSooner : ℕ → Sequence → ℕ → Type 0
NoSooner now old t = (now ≤ t) ⊎ ((u : ℕ) × (head_time old ≡ Some u) × (u ≤ t))

-- all sequences after an order: none has a next command that is sooner than before, and all stay timed
pub record AreFollowed (now : ℕ) (old new : List Sequence) : Type 0 where
  pub each : (k t : ℕ) → head_time (at_place new k) ≡ Some t → NoSooner now (at_place old k) t
  pub timed : AreTimed new

followed_none : (now : ℕ) (all : List Sequence) → AreTimed all → AreFollowed now all all
followed_none now all timed = record { each = λ k t some. inr (t, some, let le : t ≤ t = omega arith in le); timed = timed }

followed_both : (now : ℕ) (a b c : List Sequence) → AreFollowed now a b → AreFollowed now b c → AreFollowed now a c
followed_both now a b c first second = record { each = λ k t some. before k t (second.each k t some); timed = second.timed }
  where
    through : (k u t : ℕ) → u ≤ t → NoSooner now (at_place a k) u → NoSooner now (at_place a k) t
    through k u t le (inl late) = inl (omega arith)
    through k u t le (inr found) = let few = found.2 in inr (found.0, found.1, let all : found.0 ≤ t = omega arith in all)

    before : (k t : ℕ) → NoSooner now (at_place b k) t → NoSooner now (at_place a k) t
    before k t (inl late) = inl late
    before k t (inr found) = through k found.0 t found.2 (first.each k found.0 found.1)

-- what is asked of the sequence in a place that changes
record IsFollowed (now place : ℕ) (old new : Sequence) : Type 0 where
  times : (t : ℕ) → head_time new ≡ Some t → NoSooner now old t
  loaded : new.loaded ≡ old.loaded
  left : place < 2 → RiseFrom 0 new.left
  base : place < 2 → new.base ≡ 0

followed_at : (now place : ℕ) (all : List Sequence) (new : Sequence) → AreTimed all → IsFollowed now place (at_place all place) new → AreFollowed now all (set all place new)
followed_at now place all new timed follows = record {
  each = λ k t some. by_change k t some (changed_or_not all place new k);
  timed = record { loaded = λ k two. by_loaded k two (changed_or_not all place new k); left = λ k two. by_left k two (changed_or_not all place new k); base = λ k two. by_base k two (changed_or_not all place new k) };
}
  where
    by_change : (k t : ℕ) → head_time (at_place (set all place new) k) ≡ Some t → ((at_place (set all place new) k ≡ at_place all k) ⊎ ((k ≡ place) × (at_place (set all place new) k ≡ new))) → NoSooner now (at_place all k) t
    by_change k t some (inl same) = inr (t, sym (ap head_time same) ∙ some, let le : t ≤ t = omega arith in le)
    by_change k t some (inr changed) = subst (λ (j : ℕ). NoSooner now (at_place all j) t) (sym changed.0) (follows.times t (sym (ap head_time changed.1) ∙ some))

    low : (k : ℕ) → k ≡ place → k < 2 → place < 2
    low k same two = omega arith

    by_loaded : (k : ℕ) → k < 2 → ((at_place (set all place new) k ≡ at_place all k) ⊎ ((k ≡ place) × (at_place (set all place new) k ≡ new))) → RiseFrom 0 (at_place (set all place new) k).loaded
    by_loaded k two (inl same) = subst (λ (s : Sequence). RiseFrom 0 s.loaded) (sym same) (timed.loaded k two)
    by_loaded k two (inr changed) = subst (λ (s : Sequence). RiseFrom 0 s.loaded) (sym changed.1) (subst (RiseFrom 0) (sym follows.loaded) (timed.loaded place (low k changed.0 two)))

    by_left : (k : ℕ) → k < 2 → ((at_place (set all place new) k ≡ at_place all k) ⊎ ((k ≡ place) × (at_place (set all place new) k ≡ new))) → RiseFrom 0 (at_place (set all place new) k).left
    by_left k two (inl same) = subst (λ (s : Sequence). RiseFrom 0 s.left) (sym same) (timed.left k two)
    by_left k two (inr changed) = subst (λ (s : Sequence). RiseFrom 0 s.left) (sym changed.1) (follows.left (low k changed.0 two))

    by_base : (k : ℕ) → k < 2 → ((at_place (set all place new) k ≡ at_place all k) ⊎ ((k ≡ place) × (at_place (set all place new) k ≡ new))) → (at_place (set all place new) k).base ≡ 0
    by_base k two (inl same) = ap (λ (s : Sequence). s.base) same ∙ timed.base k two
    by_base k two (inr changed) = ap (λ (s : Sequence). s.base) changed.1 ∙ follows.base (low k changed.0 two)

-- commands from a time on stay in order
rise_filter : (low time : ℕ) (commands : List TimedCommand) → RiseFrom low commands → RiseFrom low (from_time time commands)
unfolding from_time
rise_filter low time [] rise = tt
rise_filter low time (c ∷ commands) rise = by_test (nat_le time c.tag) (rise_filter c.tag time commands rise.1)
  where
    by_test : (b : Bool) → RiseFrom c.tag (from_time time commands) → RiseFrom low (cond b (c ∷ from_time time commands) (from_time time commands))
    by_test true later = (rise.0, later)
    by_test false later = rise_weaker low c.tag (from_time time commands) rise.0 later

rise_head : (low t : ℕ) (commands : List TimedCommand) → RiseFrom low commands → first_time 0 commands ≡ Some t → low ≤ t
rise_head low t [] rise some = no_time (first_time 0 []) t refl some
rise_head low t (c ∷ commands) rise some = let first = rise.0 in let same : 0 + c.tag ≡ t = cc in omega arith

-- and none of them is earlier
all_late : (time : ℕ) (commands : List TimedCommand) (low : ℕ) → RiseFrom low commands → RiseFrom time (from_time time commands)
unfolding from_time
all_late time [] low rise = tt
all_late time (c ∷ commands) low rise = by_test (nat_le time c.tag) refl (all_late time commands c.tag rise.1)
  where
    by_test : (b : Bool) → nat_le time c.tag ≡ b → RiseFrom time (from_time time commands) → RiseFrom time (cond b (c ∷ from_time time commands) (from_time time commands))
    by_test true late later = (leb-true time c.tag late, rise_filter c.tag time commands rise.1)
    by_test false early later = later

-- a relative sequence counts from now
counts_from_now : (now t : ℕ) (commands : List TimedCommand) → first_time now commands ≡ Some t → now ≤ t
counts_from_now now t [] some = no_time (first_time now []) t refl some
counts_from_now now t (c ∷ commands) some = let same : now + c.tag ≡ t = cc in omega arith

-- the base of an absolute sequence that goes on
zero_base : (now place : ℕ) → place < 2 → base_at place now ≡ 0
zero_base now place two = ap (λ (r : Bool). cond r now 0) (lt-leb 2 place two)

-- orders, place by place
start_follows : (now place : ℕ) (s : Sequence) → (place < 2 → RiseFrom 0 s.loaded) → IsFollowed now place s (going_on place now (started_with place now s.loaded) s)
start_follows now place s rise = record { times = λ t some. inl (late t some (is_relative place) refl (cases_lt place 2)); loaded = refl; left = in_order; base = λ two. zero_base now place two }
  where
    both : {X : Type 0} (b : Bool) → b ≡ true → b ≡ false → X
    both b holds fails = absurd cc

    late : (t : ℕ) → first_time (base_at place now) (started_with place now s.loaded) ≡ Some t → (b : Bool) → is_relative place ≡ b → (place < 2) ⊎ (2 ≤ place) → now ≤ t
    late t some true relative side = counts_from_now now t (started_with place now s.loaded) (sym (ap (λ (r : Bool). first_time (cond r now 0) (started_with place now s.loaded)) relative) ∙ some)
    late t some false relative (inl two) =
        rise_head now t (from_time now s.loaded) (all_late now s.loaded 0 (rise two)) (sym (ap (λ (r : Bool). first_time (cond r now 0) (cond r s.loaded (from_time now s.loaded))) relative) ∙ some)
    late t some false relative (inr two) = both (is_relative place) (le-leb 2 place two) relative

    in_order : place < 2 → RiseFrom 0 (started_with place now s.loaded)
    in_order two = subst (λ (r : Bool). RiseFrom 0 (cond r s.loaded (from_time now s.loaded))) (sym (lt-leb 2 place two)) (rise_filter 0 now s.loaded (rise two))

jump_follows : (now time place : ℕ) (s : Sequence) → (place < 2 → RiseFrom 0 s.left) → (place < 2 → s.base ≡ 0) → IsFollowed now place s (going_on place now (from_time time s.left) s)
unfolding from_time
jump_follows now time place s rise zeroed = record { times = λ t some. by_place t some (is_relative place) refl (cases_lt place 2); loaded = refl; left = λ two. rise_filter 0 time s.left (rise two); base = λ two. zero_base now place two }
  where
    both : {X : Type 0} (b : Bool) → b ≡ true → b ≡ false → X
    both b holds fails = absurd cc

    behind : (t base : ℕ) (left : List TimedCommand) → RiseFrom 0 left → base ≡ 0 → first_time 0 (from_time time left) ≡ Some t → (u : ℕ) × (first_time base left ≡ Some u) × (u ≤ t)
    behind t base [] rises based some = no_time (first_time 0 []) t refl some
    behind t base (c ∷ rest) rises based some =
        let far = rise_head c.tag t (from_time time (c ∷ rest)) (rise_filter c.tag time (c ∷ rest) (let le : c.tag ≤ c.tag = omega arith in le, rises.1)) some in
        (base + c.tag, refl, let le : base + c.tag ≤ t = omega arith in le)

    by_place : (t : ℕ) → first_time (base_at place now) (from_time time s.left) ≡ Some t → (b : Bool) → is_relative place ≡ b → (place < 2) ⊎ (2 ≤ place) → NoSooner now s t
    by_place t some true relative side = inl (counts_from_now now t (from_time time s.left) (sym (ap (λ (r : Bool). first_time (cond r now 0) (from_time time s.left)) relative) ∙ some))
    by_place t some false relative (inl two) = inr (behind t s.base s.left (rise two) (zeroed two) (sym (ap (λ (r : Bool). first_time (cond r now 0) (from_time time s.left)) relative) ∙ some))
    by_place t some false relative (inr two) = both (is_relative place) (le-leb 2 place two) relative

stop_follows : (now place : ℕ) (s : Sequence) → (place < 2 → s.base ≡ 0) → IsFollowed now place s (stopped s)
stop_follows now place s zeroed = record { times = λ t some. no_time (first_time s.base []) t refl some; loaded = refl; left = λ two. tt; base = zeroed }

allow_follows : (now place : ℕ) (on : Bool) (s : Sequence) → (place < 2 → RiseFrom 0 s.left) → (place < 2 → s.base ≡ 0) → IsFollowed now place s (allowed on s)
allow_follows now place on s rise zeroed = record { times = λ t some. inr (t, some, let le : t ≤ t = omega arith in le); loaded = refl; left = rise; base = zeroed }

-- the four changes of all sequences
module _ (now : ℕ) (all : List Sequence) (timed : AreTimed all) where
  starts : (place : ℕ) → AreFollowed now all (started_at place now all)
  starts place = followed_at now place all (going_on place now (started_with place now (at_place all place).loaded) (at_place all place)) timed (start_follows now place (at_place all place) (timed.loaded place))

  stops : (place : ℕ) → AreFollowed now all (with_at place stopped all)
  stops place = followed_at now place all (stopped (at_place all place)) timed (stop_follows now place (at_place all place) (timed.base place))

  allows : (on : Bool) (place : ℕ) → AreFollowed now all (with_at place (allowed on) all)
  allows on place = followed_at now place all (allowed on (at_place all place)) timed (allow_follows now place on (at_place all place) (timed.left place) (timed.base place))

  jumps : (time place : ℕ) → AreFollowed now all (jumped now time place all)
  jumps time place = followed_at now place all (going_on place now (from_time time (at_place all place).left) (at_place all place)) timed (jump_follows now time place (at_place all place) (timed.left place) (timed.base place))

  placed : (o : Option ℕ) (change : ℕ → List Sequence → List Sequence) → ((place : ℕ) → AreFollowed now all (change place all)) → AreFollowed now all (where_placed o change all)
  placed None change each = followed_none now all timed
  placed (Some place) change each = each place

switches : (now place : ℕ) (all : List Sequence) → AreTimed all → AreFollowed now all (switched now place all)
switches now place all timed =
    let first = stops now all timed place in
    followed_both now all (with_at place stopped all) (switched now place all) first (starts now (with_at place stopped all) first.timed (other_ats place))

both_stop : (now : ℕ) (all : List Sequence) → AreTimed all → AreFollowed now all (with_at 1 stopped (with_at 0 stopped all))
both_stop now all timed =
    let first = stops now all timed 0 in
    followed_both now all (with_at 0 stopped all) (with_at 1 stopped (with_at 0 stopped all)) first (stops now (with_at 0 stopped all) first.timed 1)

order_follows : (now : ℕ) (all : List Sequence) (o : Instruction) → AreTimed all → AreFollowed now all (obeyed now all o)
order_follows now all Plain timed = followed_none now all timed
order_follows now all (StartAts number) timed = placed now all timed (ats_place number) (λ place. started_at place now) (starts now all timed)
order_follows now all StopAts timed = both_stop now all timed
order_follows now all (StartRts number) timed = placed now all timed (rts_place number) (λ place. started_at place now) (starts now all timed)
order_follows now all (StopRts number) timed = placed now all timed (rts_place number) (λ place. with_at place stopped) (stops now all timed)
order_follows now all (DisableRts number) timed = placed now all timed (rts_place number) (λ place. with_at place (allowed false)) (allows now all timed false)
order_follows now all (EnableRts number) timed = placed now all timed (rts_place number) (λ place. with_at place (allowed true)) (allows now all timed true)
order_follows now all SwitchAts timed = placed now all timed (running_ats all) (λ place. switched now place) (λ place. switches now place all timed)
order_follows now all (JumpAts time) timed = placed now all timed (running_ats all) (λ place. jumped now time place) (jumps now all timed time)

pub orders_follow : (now : ℕ) (all : List Sequence) (orders : List Instruction) → AreTimed all → AreFollowed now all (after_orders now all orders)
unfolding after_orders
orders_follow now all [] timed = followed_none now all timed
orders_follow now all (o ∷ orders) timed =
    let first = order_follows now all o timed in
    followed_both now all (obeyed now all o) (after_orders now (obeyed now all o) orders) first (orders_follow now (obeyed now all o) orders first.timed)

-- what came first and was left behind comes first after the orders of a later wakeup, unless it isn't there any more
pub rests_first : (now later place time : ℕ) (all : List Sequence) (orders : List Instruction) → AreTimed all → ComesFirst now all place time → now < later → head_time (at_place (after_orders later all orders) place) ≡ Some time
    → ComesFirst later (after_orders later all orders) place time
rests_first now later place time all orders timed comes after there = record {
  here = there;
  due = let due = comes.due in omega arith;
  first = λ k t some. by_before k t ((orders_follow later all orders timed).each k t some);
}
  where
    by_before : (k t : ℕ) → NoSooner later (at_place all k) t → (time < t) ⊎ ((time ≡ t) × (place ≤ k))
    by_before k t (inl late) = inl (let due = comes.due in omega arith)
    by_before k t (inr found) = moved k found.0 t found.2 (comes.first k found.0 found.1)
      where
        moved : (k u t : ℕ) → u ≤ t → (time < u) ⊎ ((time ≡ u) × (place ≤ k)) → (time < t) ⊎ ((time ≡ t) × (place ≤ k))
        moved k u t le (inl earlier) = inl (omega arith)
        moved k u t le (inr both) = let same = both.0 in elim (cases_lt time t) [
          | inl earlier ↦ inl earlier
          | inr level ↦ inr (let is : time ≡ t = omega arith in is, both.1)
        ]

pub leaves_first : (now later place time : ℕ) (all : List Sequence) (orders : List Instruction) → AreTimed all → ComesFirst now all place time → now < later → head_time (at_place (after_orders later all orders) place) ≡ Some time
    → next_place later (after_orders later all orders) ≡ Some place
leaves_first now later place time all orders timed comes after there = comes_next later (after_orders later all orders) place time (rests_first now later place time all orders timed comes after there)
