-- What leaves in some turns, and what is left behind.
use Rattle.std.proofs.Common.{◌≡◌, ◌⊎◌, ℕ, zero, suc, ◌+◌, ◌<◌, ◌≤◌, Bool, true, false, cond, not, ◌||◌, List, [], ◌∷◌, ◌++◌, length, set, Option, Some, None, inl, inr, refl, sym, ap, subst, ◌∙◌, arith, append-nil, length-append}
use Rattle.std.specs.Prelude.{filter_map}
use Rattle.std.specs.List.{All, cons_option}
use Rattle.std.proofs.lemmas.Bool.{le-leb, lt-leb, cases_lt}
use Rattle.std.proofs.lemmas.List.Elements.{filter_map-append, All-append, All-nil, All-cons}
use Rattle.packet_forms.specs.Packets.{is_checksum_right}
use Rattle.sc_tables.specs.Commands.{TimedCommand}
use Rattle.sc_sequences.specs.Sequences.{Sequence, at_place, is_relative, base_at, going_on, first_time, head_time}
use Rattle.sc_sequences.specs.declared.messages.Event.TheVariants.{WrongInAts, WrongInRts}
use Rattle.sc_sequences.specs.Answers.{sc_event, ending_items, head_items}
use Rattle.sc_sequences.specs.Turns.{Sequences, Done, next_place, left_behind, leaving, turn, turns}
use Rattle.sc_sequences.specs.Laws.{Departure, departing, departing_at, departures, right_packet, stored_in, IsBefore, LeavesNoneBefore, RiseFrom, AreTimed, ComesFirst}
use Rattle.sc_sequences.proofs.Firsts.{next_comes, changed_or_not, no_time}
use Rattle.sc_sequences.proofs.Takes.{turn_taken, turn_idle}

-- commands in order, from an earlier time
pub rise_weaker : (early late : ℕ) (commands : List TimedCommand) → early ≤ late → RiseFrom late commands → RiseFrom early commands
rise_weaker early late [] before rise = tt
rise_weaker early late (c ∷ commands) before rise = (let first = rise.0 in omega arith, rise.1)

-- an absolute place
absolute : (place : ℕ) → place < 2 → is_relative place ≡ false
absolute place two = lt-leb 2 place two

-- what a place has next behind a command that left isn't earlier
next_later : (now place time t : ℕ) (right : Bool) (c : TimedCommand) (rest : List TimedCommand) (s : Sequence) → (place < 2 → RiseFrom 0 (c ∷ rest)) → (place < 2 → s.base ≡ 0) → s.base + c.tag ≡ time → time ≤ now
    → first_time (base_at place now) (left_behind place right rest) ≡ Some t → time ≤ t
next_later now place time t right c rest s rise zeroed is due some = by_place (is_relative place) refl (cases_lt place 2)
  where
    none : (o : Option ℕ) → o ≡ None → o ≡ Some t → time ≤ t
    none o gone there = no_time o t gone there

    behind : (base : ℕ) (commands : List TimedCommand) → base ≡ now → first_time base commands ≡ Some t → time ≤ t
    behind base [] based there = none None refl there
    behind base (d ∷ more) based there = let same : base + d.tag ≡ t = cc in omega arith

    after : (commands : List TimedCommand) → RiseFrom c.tag commands → s.base ≡ 0 → first_time 0 commands ≡ Some t → time ≤ t
    after [] rises based there = none None refl there
    after (d ∷ more) rises based there = let same : 0 + d.tag ≡ t = cc in let far = rises.0 in omega arith

    by_place : (b : Bool) → is_relative place ≡ b → (place < 2) ⊎ (2 ≤ place) → time ≤ t
    by_place true relative side = behind (base_at place now) (left_behind place right rest) (ap (λ (r : Bool). cond r now 0) relative) some
    by_place false relative (inl two) =
        after rest (rise two).1 (zeroed two) (sym (ap (λ (r : Bool). first_time (cond r now 0) (cond (right || not r) rest [])) relative ∙ ap (λ (kept : List TimedCommand). first_time 0 kept) (kept_all right)) ∙ some)
      where
        kept_all : (b : Bool) → cond (b || true) rest [] ≡ rest
        kept_all true = refl
        kept_all false = refl
    by_place false relative (inr two) = absurd (both (is_relative place) (le-leb 2 place two) relative)
      where
        both : (b : Bool) → b ≡ true → b ≡ false → ⊥
        both b holds fails = cc

-- the sequences behind one that left
abbrev behind : ℕ → ℕ → TimedCommand → List TimedCommand → List Sequence → List Sequence
behind now place c rest all = set all place (going_on place now (left_behind place (is_checksum_right c.packet) rest) (at_place all place))

module _ (now place time : ℕ) (c : TimedCommand) (rest : List TimedCommand) (all : List Sequence) (timed : AreTimed all) (comes : ComesFirst now all place time) (is : (at_place all place).left ≡ c ∷ rest) where
  due_at : (at_place all place).base + c.tag ≡ time
  due_at = same_some ((at_place all place).base + c.tag) time (ap (first_time (at_place all place).base) (sym is) ∙ comes.here)
    where
      same_some : (t u : ℕ) → ◌≡◌ {A = Option ℕ} (Some t) (Some u) → t ≡ u
      same_some t u same = cc

  rises : place < 2 → RiseFrom 0 (c ∷ rest)
  rises two = subst (RiseFrom 0) is (timed.left place two)

  -- what comes first now comes before what comes next
  next_behind : (k t : ℕ) → head_time (at_place (behind now place c rest all) k) ≡ Some t → (time < t) ⊎ ((time ≡ t) × (place ≤ k))
  next_behind k t some = elim (changed_or_not all place (going_on place now (left_behind place (is_checksum_right c.packet) rest) (at_place all place)) k) [
    | inl same ↦ comes.first k t (sym (ap head_time same) ∙ some)
    | inr changed ↦
        let later : time ≤ t = next_later now place time t (is_checksum_right c.packet) c rest (at_place all place) rises (timed.base place) due_at comes.due (sym (ap head_time changed.1) ∙ some) in
        elim (cases_lt time t) [
          | inl before ↦ inl before
          | inr after ↦ inr (let same : time ≡ t = omega arith in same, let there = changed.0 in let le : place ≤ k = omega arith in le)
        ]
  ]

  -- so does what left before
  still_before : (d : Departure) → LeavesNoneBefore all d → LeavesNoneBefore (behind now place c rest all) d
  still_before d none = record { none = λ k t some. moved k t some }
    where
      later_still : (t : ℕ) → time ≤ t → (k : ℕ) → place ≡ k → IsBefore d time place → IsBefore d t k
      later_still t late k here (inl before) = inl (let b = before in omega arith)
      later_still t late k here (inr both) = elim (cases_lt d.time t) [
        | inl before ↦ inl before
        | inr after ↦ let same = both.0 in inr (let is : d.time ≡ t = omega arith in is, let le = both.1 in omega arith)
      ]

      moved : (k t : ℕ) → head_time (at_place (behind now place c rest all) k) ≡ Some t → IsBefore d t k
      moved k t some = elim (changed_or_not all place (going_on place now (left_behind place (is_checksum_right c.packet) rest) (at_place all place)) k) [
        | inl same ↦ none.none k t (sym (ap head_time same) ∙ some)
        | inr changed ↦
            let later : time ≤ t = next_later now place time t (is_checksum_right c.packet) c rest (at_place all place) rises (timed.base place) due_at comes.due (sym (ap head_time changed.1) ∙ some) in
            later_still t later k (sym changed.0) (none.none place time comes.here)
      ]

  -- and all stay timed
  still_timed : AreTimed (behind now place c rest all)
  still_timed = record { loaded = λ k two. by_loaded k two; left = λ k two. by_left k two; base = λ k two. by_base k two }
    where
      by_loaded : (k : ℕ) → k < 2 → RiseFrom 0 (at_place (behind now place c rest all) k).loaded
      by_loaded k two = elim (changed_or_not all place (going_on place now (left_behind place (is_checksum_right c.packet) rest) (at_place all place)) k) [
        | inl same ↦ subst (λ (s : Sequence). RiseFrom 0 s.loaded) (sym same) (timed.loaded k two)
        | inr changed ↦ let here = changed.0 in subst (λ (s : Sequence). RiseFrom 0 s.loaded) (sym changed.1) (timed.loaded place (omega arith))
      ]

      kept : (b : Bool) (r : Bool) → RiseFrom 0 rest → RiseFrom 0 (cond (b || not r) rest [])
      kept true r rise = rise
      kept false true rise = tt
      kept false false rise = rise

      by_left : (k : ℕ) → k < 2 → RiseFrom 0 (at_place (behind now place c rest all) k).left
      by_left k two = elim (changed_or_not all place (going_on place now (left_behind place (is_checksum_right c.packet) rest) (at_place all place)) k) [
        | inl same ↦ subst (λ (s : Sequence). RiseFrom 0 s.left) (sym same) (timed.left k two)
        | inr changed ↦
            let here = changed.0 in
            let low : place < 2 = omega arith in
            subst (λ (s : Sequence). RiseFrom 0 s.left) (sym changed.1) (kept (is_checksum_right c.packet) (is_relative place) (rise_weaker 0 c.tag rest (omega arith) (rises low).1))
      ]

      by_base : (k : ℕ) → k < 2 → (at_place (behind now place c rest all) k).base ≡ 0
      by_base k two = elim (changed_or_not all place (going_on place now (left_behind place (is_checksum_right c.packet) rest) (at_place all place)) k) [
        | inl same ↦ ap (λ (s : Sequence). s.base) same ∙ timed.base k two
        | inr changed ↦
            let here = changed.0 in
            let low : place < 2 = omega arith in
            ap (λ (s : Sequence). s.base) changed.1 ∙ ap (λ (r : Bool). cond r now 0) (absolute place low)
      ]

-- what is true of some turns
pub record Leaves (n now : ℕ) (s : Sequences) : Type 0 where
  pub timed : AreTimed (turns n now s).after.all
  pub none : All (LeavesNoneBefore (turns n now s).after.all) (departures n now s)

leaves_one : (now place time : ℕ) (m : Sequences) (left : List TimedCommand) (before : List Departure) → AreTimed m.all → ComesFirst now m.all place time → (at_place m.all place).left ≡ left → All (LeavesNoneBefore m.all) before
    → AreTimed (leaving now m place left).after.all × All (LeavesNoneBefore (leaving now m place left).after.all) (before ++ departing place (at_place m.all place).base left)
leaves_one now place time m [] before timed comes is none = no_time (head_time (at_place m.all place)) time (ap (first_time (at_place m.all place).base) is) comes.here
leaves_one now place time m (c ∷ rest) before timed comes is none =
    let d : Departure = record { time = (at_place m.all place).base + c.tag; place = place; packet = c.packet } in (
      still_timed now place time c rest m.all timed comes is,
      All-append (LeavesNoneBefore (behind now place c rest m.all)) before (d ∷ [])
          (λ k e below. still_before now place time c rest m.all timed comes is _ (none k e below))
          (All-cons (LeavesNoneBefore (behind now place c rest m.all)) d [] (record { none = λ k t some. here k t some }) (All-nil (LeavesNoneBefore (behind now place c rest m.all)))),
    )
  where
    here : (k t : ℕ) → head_time (at_place (behind now place c rest m.all) k) ≡ Some t → IsBefore (record { time = (at_place m.all place).base + c.tag; place = place; packet = c.packet }) t k
    here k t some = subst (λ (u : ℕ). IsBefore (record { time = u; place = place; packet = c.packet }) t k) (sym (due_at now place time c rest m.all timed comes is)) (next_behind now place time c rest m.all timed comes is k t some)

pub leaves : (n now : ℕ) (s : Sequences) → AreTimed s.all → Leaves n now s
unfolding turns departures
leaves zero now s timed = record { timed = timed; none = All-nil (LeavesNoneBefore s.all) }
leaves (suc n) now s timed = by_next (next_place now (turns n now s).after.all) refl (leaves n now s timed)
  where
    by_next : (o : Option ℕ) → next_place now (turns n now s).after.all ≡ o → Leaves n now s → Leaves (suc n) now s
    by_next None idle before =
        let same : (turn now (turns n now s).after).after ≡ (turns n now s).after = ap (λ (done : Done). done.after) (turn_idle now (turns n now s).after idle) in
        record {
          timed = subst (λ (m : Sequences). AreTimed m.all) (sym same) before.timed;
          none =
              subst (λ (ds : List Departure). All (LeavesNoneBefore (turn now (turns n now s).after).after.all) ds) (sym (ap (λ (o : Option ℕ). departures n now s ++ departing_at (turns n now s).after.all o) idle ∙ append-nil (departures n now s)))
              (subst (λ (m : Sequences). All (LeavesNoneBefore m.all) (departures n now s)) (sym same) before.none);
        }
    by_next (Some place) next before =
        let m = (turns n now s).after in
        let comes = next_comes now m.all place next in
        let one = leaves_one now place comes.0 m (at_place m.all place).left (departures n now s) before.timed comes.1 refl before.none in
        let same : (turn now m).after ≡ (leaving now m place (at_place m.all place).left).after = ap (λ (done : Done). done.after) (turn_taken now place m next) in
        record {
          timed = subst (λ (q : Sequences). AreTimed q.all) (sym same) one.0;
          none =
              subst (λ (ds : List Departure). All (LeavesNoneBefore (turn now m).after.all) ds) (sym (ap (λ (o : Option ℕ). departures n now s ++ departing_at m.all o) next))
              (subst (λ (q : Sequences). All (LeavesNoneBefore q.all) (departures n now s ++ departing place (at_place m.all place).base (at_place m.all place).left)) (sym same) one.1);
        }

-- how many leave, and when they were due
few_one : (place base : ℕ) (left : List TimedCommand) → length (departing place base left) ≤ 1
few_one place base [] = omega arith
few_one place base (c ∷ rest) = omega arith

few_at : (all : List Sequence) (o : Option ℕ) → length (departing_at all o) ≤ 1
few_at all None = omega arith
few_at all (Some place) = few_one place (at_place all place).base (at_place all place).left

pub few_leave : (n now : ℕ) (s : Sequences) → length (departures n now s) ≤ n
unfolding departures
few_leave zero now s = omega arith
few_leave (suc n) now s =
    let one = few_at (turns n now s).after.all (next_place now (turns n now s).after.all) in
    let others = few_leave n now s in
    let both = length-append (departures n now s) (departing_at (turns n now s).after.all (next_place now (turns n now s).after.all)) in
    omega arith

due_one : (now place time : ℕ) (all : List Sequence) (left : List TimedCommand) → ComesFirst now all place time → (at_place all place).left ≡ left → All (λ (d : Departure). d.time ≤ now) (departing place (at_place all place).base left)
due_one now place time all [] comes is = All-nil (λ (d : Departure). d.time ≤ now)
due_one now place time all (c ∷ rest) comes is =
    All-cons (λ (d : Departure). d.time ≤ now) (record { time = (at_place all place).base + c.tag; place = place; packet = c.packet }) []
    (at_time ((at_place all place).base + c.tag) (ap (first_time (at_place all place).base) (sym is) ∙ comes.here)) (All-nil (λ (d : Departure). d.time ≤ now))
  where
    at_time : (t : ℕ) → ◌≡◌ {A = Option ℕ} (Some t) (Some time) → t ≤ now
    at_time t some = let same : t ≡ time = cc in let due = comes.due in omega arith

due_at_next : (now : ℕ) (all : List Sequence) (o : Option ℕ) → next_place now all ≡ o → All (λ (d : Departure). d.time ≤ now) (departing_at all o)
due_at_next now all None idle = All-nil (λ (d : Departure). d.time ≤ now)
due_at_next now all (Some place) next = let comes = next_comes now all place next in due_one now place comes.0 all (at_place all place).left comes.1 refl

pub all_due : (n now : ℕ) (s : Sequences) → All (λ (d : Departure). d.time ≤ now) (departures n now s)
unfolding departures
all_due zero now s = All-nil (λ (d : Departure). d.time ≤ now)
all_due (suc n) now s =
    All-append (λ (d : Departure). d.time ≤ now) (departures n now s) (departing_at (turns n now s).after.all (next_place now (turns n now s).after.all)) (all_due n now s)
    (due_at_next now (turns n now s).after.all (next_place now (turns n now s).after.all) refl)

-- and what is sent of them
ends_unstored : (place now : ℕ) (left : List TimedCommand) → filter_map stored_in (ending_items place now left) ≡ []
ends_unstored place now [] = refl
ends_unstored place now (c ∷ left) = refl

head_stored : (place now : ℕ) (right : Bool) (packet : List ℕ) (left : List TimedCommand) → filter_map stored_in (head_items place now right packet left) ≡ cond right (packet ∷ []) []
unfolding head_items
head_stored place now true packet left = ap (λ (more : List (List ℕ)). packet ∷ more) (ends_unstored place now left)
head_stored place now false packet left = by_place (is_relative place)
  where
    by_place : (b : Bool) → filter_map stored_in (cond b (sc_event WrongInRts now ∷ []) (sc_event WrongInAts now ∷ ending_items place now left)) ≡ []
    by_place true = refl
    by_place false = ends_unstored place now left

one_right : (b : Bool) (packet : List ℕ) → cond b (packet ∷ []) [] ≡ cons_option (cond b (Some packet) None) []
one_right true packet = refl
one_right false packet = refl

stored_one : (now place : ℕ) (m : Sequences) (left : List TimedCommand) → filter_map stored_in (leaving now m place left).items ≡ filter_map right_packet (departing place (at_place m.all place).base left)
stored_one now place m [] = refl
stored_one now place m (c ∷ rest) = head_stored place now (is_checksum_right c.packet) c.packet (left_behind place (is_checksum_right c.packet) rest) ∙ one_right (is_checksum_right c.packet) c.packet

stored_at : (now : ℕ) (m : Sequences) (o : Option ℕ) → next_place now m.all ≡ o → filter_map stored_in (turn now m).items ≡ filter_map right_packet (departing_at m.all o)
stored_at now m None idle = ap (λ (done : Done). filter_map stored_in done.items) (turn_idle now m idle)
stored_at now m (Some place) next = ap (λ (done : Done). filter_map stored_in done.items) (turn_taken now place m next) ∙ stored_one now place m (at_place m.all place).left

pub stored_leave : (n now : ℕ) (s : Sequences) → filter_map stored_in (turns n now s).items ≡ filter_map right_packet (departures n now s)
unfolding turns departures
stored_leave zero now s = refl
stored_leave (suc n) now s =
    let m = (turns n now s).after in
    filter_map-append stored_in (turns n now s).items (turn now m).items
    ∙ ap (λ (more : List (List ℕ)). more ++ filter_map stored_in (turn now m).items) (stored_leave n now s)
    ∙ ap (λ (more : List (List ℕ)). filter_map right_packet (departures n now s) ++ more) (stored_at now m (next_place now m.all) refl)
    ∙ sym (filter_map-append right_packet (departures n now s) (departing_at m.all (next_place now m.all)))

pub none_before : (n now : ℕ) (s : Sequences) → AreTimed s.all → All (LeavesNoneBefore (turns n now s).after.all) (departures n now s)
none_before n now s timed = (leaves n now s timed).none
