-- A stream through its wakeups.
use Rattle.std.proofs.Common.{◌≡◌, ℕ, ◌+◌, ◌-◌, ◌*◌, ◌<◌, ◌≤◌, Bool, true, false, cond, eqb, ◌&&◌, List, [], ◌∷◌, ◌++◌, length, set, Some, None, refl, sym, ap, subst, ◌∙◌, arith, lt-ltb, ◌⊎◌, inl, inr, eq-eqb}
use Rattle.std.specs.Prelude.{nat_lt}
use Rattle.std.proofs.lemmas.Bool.{cases_lt}
use Rattle.std.proofs.lemmas.List.{length_push}
use Rattle.memory_window.specs.Memory.{Memory}
use Rattle.md_dwell.specs.Lists.{list_of, delays, delays_to_last}
use Rattle.md_dwell.specs.Rounds.{gathered, round_bytes, round_at, dwell_at}
use Rattle.md_dwell.specs.Readings.{IsReadTo, IsInRound}
use Rattle.md_dwell.specs.Streams.{Runs, StreamStands}
use Rattle.md_dwell.specs.Orders.{names, jammed, switched, starts}
use Rattle.md_dwell.specs.declared.tables.DwellEntry.{DwellEntry}
use Rattle.md_dwell.specs.declared.streams.Stream.{Stream}
use Rattle.md_dwell.specs.declared.instructions.Instruction.TheVariants.{Start, Jam}
use Rattle.md_dwell.specs.Tables.{blank_entry}
use Rattle.md_dwell.proofs.Lists.{delays_rise, delays_all}
use Rattle.md_dwell.proofs.Rounds.{read_none, read_wakeup, not_due, round_due}

-- a list with a delay has an entry
some_entry : (list : List DwellEntry) → 0 < delays list → 0 < length list
unfolding delays
some_entry [] some_delay = absurd (omega arith)
some_entry (e ∷ list) some_delay = omega arith

-- a stream that starts in the next wakeup
pub begun : (entries : List DwellEntry) (on : Bool) (since : ℕ) (images : List Memory) (s : Stream) → s.plan ≡ entries → s.enabled ≡ on → s.next ≡ 0 → s.wait ≡ 1 → s.bytes ≡ [] → since ≡ length images
    → StreamStands entries on since images s
begun entries on since images s plan enabled next wait bytes now = record {
  plan = plan;
  enabled = enabled;
  runs = λ active some_delay.
      let list = list_of entries in
      let some_place = some_entry (list_of entries) some_delay in
      record {
        round = 0;
        in_round = rw (next, wait, bytes) (record {
          within = some_place;
          read = read_none (list_of entries) (since + 0 * delays (list_of entries)) images 1 (omega arith);
          over = λ e below. absurd (omega arith);
        });
        waits = omega arith;
      };
}

-- what a start and a jam of the table leave
pub obey_start : (table mask : ℕ) (entries : List DwellEntry) (on : Bool) (since : ℕ) (images : List Memory) (old new : Stream) → true ≡ names mask table → StreamStands entries on since images old
    → new.plan ≡ old.plan → new.enabled ≡ true → new.next ≡ 0 → new.wait ≡ 1 → new.bytes ≡ []
    → StreamStands (jammed table entries (Start mask)) (switched table on (Start mask)) (cond (starts table (Start mask)) (length images) since) images new
obey_start table mask entries on since images old new named stood plan enabled next wait bytes =
    rw (← named) (begun entries true (length images) images new (plan ∙ stood.plan) enabled next wait bytes refl)

pub obey_jam : (table t number : ℕ) (e : DwellEntry) (entries : List DwellEntry) (on : Bool) (since : ℕ) (images : List Memory) (old new : Stream) → t ≡ table → StreamStands entries on since images old
    → new.plan ≡ set old.plan (number - 1) e → new.enabled ≡ old.enabled → new.next ≡ 0 → new.wait ≡ 1 → new.bytes ≡ []
    → StreamStands (jammed table entries (Jam t number e)) (switched table on (Jam t number e)) (cond (starts table (Jam t number e)) (length images) since) images new
obey_jam table t number e entries on since images old new is stood plan enabled next wait bytes =
    let same : eqb t table ≡ true = eq-eqb t table is in
    rw same (begun (set entries (number - 1) e) on (length images) images new (plan ∙ ap (λ (es : List DwellEntry). set es (number - 1) e) stood.plan) (enabled ∙ stood.enabled) next wait bytes refl)

-- the next wakeup of a stream that waits
pub wakes : (list : List DwellEntry) (since : ℕ) (images : List Memory) (image : Memory) (r n wait : ℕ) (bytes : List ℕ) → 0 < wait → IsInRound list since images images r n wait bytes
    → IsInRound list since images (images ++ image ∷ []) r n (wait - 1) bytes
wakes list since images image r n wait bytes waits held = record {
  within = held.within;
  read = read_wakeup blank_entry list (since + r * delays list) images image n wait bytes (let within = held.within in omega arith) waits held.read;
  over = held.over;
}

-- a wakeup after which the stream waits in the round that it was in: it stands, and no round ends
pub paused : (list : List DwellEntry) (since : ℕ) (past : List Memory) (image : Memory) (r n wait : ℕ) (bytes : List ℕ) → 0 < delays list
    → ((e : ℕ) → e < r → since + e * delays list + delays_to_last list < length past) → n < length list → 0 < wait
    → IsReadTo list (since + r * delays list) (past ++ image ∷ []) n wait bytes
    → IsInRound list since (past ++ image ∷ []) (past ++ image ∷ []) r n wait bytes × (round_at list since (past ++ image ∷ []) ≡ None)
unfolding round_at
paused list since past image r n wait bytes some_delay over within waits read =
    let long = length_push past image in
    let below = delays_rise list n (length list - 1) (omega arith) in
    let now : length (past ++ image ∷ []) - 1 ≡ length past = omega arith in
    let none = not_due list since (length past) r some_delay (omega (arith, read.distance)) over in (
      record {
        within = within;
        read = read;
        over = λ e earlier. let was = over e earlier in omega arith;
      },
      rw (now, none) refl,
    )

-- the bytes of a whole round
round_is : (list : List DwellEntry) (since : ℕ) (images : List Memory) (r n : ℕ) (bytes : List ℕ) → n ≡ length list → bytes ≡ gathered list images (since + r * delays list) n → round_bytes list since images r ≡ bytes
unfolding round_bytes
round_is list since images r n bytes all is = sym (is ∙ ap (gathered list images (since + r * delays list)) all)

before_or_at : (e r : ℕ) → e < r + 1 → (e < r) ⊎ (e ≡ r)
before_or_at e r below = elim (cases_lt e r) [
  | inl earlier ↦ inl earlier
  | inr later ↦ inr (omega arith)
]

-- a wakeup in which the last entry of a round is read: its bytes are those of the round, and the next round begins
pub record RoundEnds (list : List DwellEntry) (since : ℕ) (past images : List Memory) (r wait : ℕ) (bytes : List ℕ) : Type 0 where
  pub due : round_at list since images ≡ Some bytes
  pub last : since + r * delays list + delays_to_last list ≡ length past
  pub begun : IsReadTo list (since + (r + 1) * delays list) images 0 wait []
  pub over : (e : ℕ) → e < r + 1 → since + e * delays list + delays_to_last list < length images

pub ended : (list : List DwellEntry) (since : ℕ) (past : List Memory) (image : Memory) (r n wait : ℕ) (bytes : List ℕ) → 0 < delays list
    → ((e : ℕ) → e < r → since + e * delays list + delays_to_last list < length past) → n ≡ length list → since + r * delays list + delays_to_last list ≡ length past
    → IsReadTo list (since + r * delays list) (past ++ image ∷ []) n wait bytes
    → RoundEnds list since past (past ++ image ∷ []) r wait bytes
ended list since past image r n wait bytes some_delay over all last read =
    let long = length_push past image in
    let whole = delays_all list n (omega arith) in
    record {
      due = round_due list since (past ++ image ∷ []) r some_delay (omega arith) ∙ ap (λ (b : List ℕ). Some b) (round_is list since (past ++ image ∷ []) r n bytes all read.bytes_so_far);
      last = last;
      begun = read_none list (since + (r + 1) * delays list) (past ++ image ∷ []) wait (omega (arith, read.distance));
      over = λ e below. elim (before_or_at e r below) [
        | inl earlier ↦ let was = over e earlier in omega arith
        | inr here ↦ let same = ap (λ (k : ℕ). k * delays list) here in omega arith
      ];
    }

-- a stream that was read on to the end of its list
pub round_over : (since r : ℕ) (past : List Memory) (image : Memory) (old new : Stream) (shown : List DwellEntry) → 0 < delays (list_of old.plan)
    → IsInRound (list_of old.plan) since past (past ++ image ∷ []) r old.next 0 old.bytes → shown ≡ list_of new.plan → new.plan ≡ old.plan → length shown ≤ new.next
    → IsReadTo (list_of old.plan) (since + r * delays (list_of old.plan)) (past ++ image ∷ []) new.next new.wait new.bytes
    → (new.next ≡ length (list_of old.plan) → since + r * delays (list_of old.plan) + delays_to_last (list_of old.plan) ≡ length past)
    → RoundEnds (list_of old.plan) since past (past ++ image ∷ []) r new.wait new.bytes
round_over since r past image old new shown some_delay held is plan whole read last =
    let same : shown ≡ list_of old.plan = is ∙ ap list_of plan in
    let few : new.next ≤ length (list_of old.plan) = rw (← plan) new.within in
    let end : length (list_of old.plan) ≤ new.next = rw (← same) whole in
    let all : new.next ≡ length (list_of old.plan) = omega arith in
    ended (list_of old.plan) since past image r new.next new.wait new.bytes some_delay held.over all (last all) read

-- a table that doesn't dwell gives nothing
pub dwell_off : (on : Bool) (entries : List DwellEntry) (since : ℕ) (images : List Memory) → on ≡ false → dwell_at on entries since images ≡ None
unfolding dwell_at
dwell_off on entries since images off = rw off refl

pub dwell_still : (on : Bool) (entries : List DwellEntry) (since : ℕ) (images : List Memory) → delays (list_of entries) ≡ 0 → dwell_at on entries since images ≡ None
unfolding dwell_at
dwell_still on entries since images still = rw still (by_case on)
  where
    by_case : (b : Bool) → cond (b && false) (round_at (list_of entries) since images) None ≡ None
    by_case true = refl
    by_case false = refl

-- one that does gives what its rounds give
pub dwell_active : (on : Bool) (entries : List DwellEntry) (since : ℕ) (images : List Memory) → on ≡ true → 0 < delays (list_of entries) → dwell_at on entries since images ≡ round_at (list_of entries) since images
unfolding dwell_at
dwell_active on entries since images active some_delay = let test : nat_lt 0 (delays (list_of entries)) ≡ true = lt-ltb _ _ some_delay in rw (active, test) refl

-- a stream that doesn't dwell stands after one more wakeup
pub idle : (entries : List DwellEntry) (on : Bool) (since : ℕ) (images more : List Memory) (s : Stream) → (on ≡ true → 0 < delays (list_of entries) → ⊥) → StreamStands entries on since images s → StreamStands entries on since more s
idle entries on since images more s still stood = record { plan = stood.plan; enabled = stood.enabled; runs = λ active some_delay. absurd (still active some_delay) }

-- after a round ended, what was read of the next one in the same wakeup isn't all of it
pub again : (list : List DwellEntry) (since : ℕ) (past : List Memory) (image : Memory) (r n wait : ℕ) (bytes : List ℕ) → 0 < delays list
    → ((e : ℕ) → e < r + 1 → since + e * delays list + delays_to_last list < length (past ++ image ∷ [])) → since + r * delays list + delays_to_last list ≡ length past
    → n ≤ length list → (n < length list → 0 < wait) → (n ≡ length list → since + (r + 1) * delays list + delays_to_last list ≡ length past)
    → IsReadTo list (since + (r + 1) * delays list) (past ++ image ∷ []) n wait bytes
    → IsInRound list since (past ++ image ∷ []) (past ++ image ∷ []) (r + 1) n wait bytes × (0 < wait)
again list since past image r n wait bytes some_delay over last within waits whole read = elim (cases_lt n (length list)) [
  | inl before ↦ (record { within = before; read = read; over = over }, waits before)
  | inr all ↦ let twice = whole (omega arith) in absurd (omega arith)
]

-- a table that dwells has a stream that runs
pub runs_on : (entries : List DwellEntry) (on : Bool) (since : ℕ) (images : List Memory) (s : Stream) → StreamStands entries on since images s → s.enabled ≡ true → 0 < delays (list_of s.plan) → Runs (list_of s.plan) since images s
runs_on entries on since images s stood enabled some_delay =
    subst (λ (plan : List DwellEntry). Runs (list_of plan) since images s) (sym stood.plan) (stood.runs (sym stood.enabled ∙ enabled) (subst (λ (plan : List DwellEntry). 0 < delays (list_of plan)) stood.plan some_delay))

-- in its next wakeup
pub wakes_on : (since : ℕ) (images : List Memory) (image : Memory) (s : Stream) (wait : ℕ) → wait ≡ s.wait - 1 → (run : Runs (list_of s.plan) since images s)
    → IsInRound (list_of s.plan) since images (images ++ image ∷ []) run.round s.next wait s.bytes
wakes_on since images image s wait is run = rw is (wakes (list_of s.plan) since images image run.round s.next s.wait s.bytes run.waits run.in_round)
