-- Histories whose entries are wakeups and activations, the oldest first.
use Rattle.std.specs.Prelude.{ℕ, Bool, List, length, take, filter_map, Option, Some, None}
use Rattle.histories.specs.Words.{last_or, last_place}

-- A wakeup with what is read in it, or an activation of something.
pub data Entry (W A : Type 0) : Type 0 where
  Woken : W → Entry W A
  Activated : A → Entry W A

module _ {W A : Type 0} where
  -- What is read in an entry that is a wakeup.
  abbrev pub wakeup_in : Entry W A → Option W
  wakeup_in (Woken w) = Some w
  wakeup_in (Activated a) = None

  -- What an entry activates that is an activation.
  abbrev pub activation_in : Entry W A → Option A
  activation_in (Woken w) = None
  activation_in (Activated a) = Some a

  -- The wakeups among these entries: each is numbered by its place here.
  unfoldable pub wakeups : List (Entry W A) → List W
  wakeups entries = filter_map wakeup_in entries

  -- The activations among them.
  unfoldable pub activations : List (Entry W A) → List A
  activations entries = filter_map activation_in entries

  -- What is in force behind these entries: what the last activation of its kind gave, or what was in force before them.
  unfoldable pub in_force : {X : Type 0} → (A → Option X) → X → List (Entry W A) → X
  in_force of_kind before entries = last_or before (filter_map of_kind (activations entries))

  -- How many wakeups there were before the last entry that passes a test, 0 where none passes.
  unfoldable pub wakeups_before : (Entry W A → Bool) → List (Entry W A) → ℕ
  wakeups_before test entries = length (wakeups (take (last_place test entries) entries))

-- What is in force once something was activated that may be of the kind.
abbrev pub replaced_by : {X : Type 0} → Option X → X → X
replaced_by None before = before
replaced_by (Some x) before = x
