-- What workers leave: scratches in the relation with their jobs, and lists of draws.
use Rattle.std.specs.Prelude.{◌≡◌, ℕ, ◌<◌, List, length, slice_index, slice_index_or, All, SomeIndex, []}
use Rattle.crew_board.specs.Claim.{IsStrictlyIncreasing, times}

-- The scratch of a job is one that its task leaves.
abbrev pub IsRight : {T S : Type 0} → (T → S → Type 0) → List T → List S → ℕ → Type 0
IsRight {T} {S} leaves tasks scratches job = (t : T) (s : S) → slice_index_or tasks job t ≡ t → slice_index_or scratches job s ≡ s → leaves t s

-- The scratch of each job of a list is.
abbrev pub AreDone : {T S : Type 0} → (T → S → Type 0) → List T → List S → List ℕ → Type 0
AreDone leaves tasks scratches jobs = (k : ℕ) → k < length jobs → IsRight leaves tasks scratches (slice_index jobs k)

-- A scratch that was right stays right.
abbrev pub StayRight : {T S : Type 0} → (T → S → Type 0) → List T → List S → List S → Type 0
StayRight leaves tasks before now = (job : ℕ) → IsRight leaves tasks before job → IsRight leaves tasks now job

-- The scratches of all jobs but these are what they were.
abbrev pub StayBut : {S : Type 0} → List ℕ → List S → List S → Type 0
StayBut {S} jobs before now = (job : ℕ) (s : S) → times job jobs ≡ 0 → slice_index_or now job s ≡ slice_index_or before job s

-- Job numbers that rise.
abbrev pub AreDraws : ℕ → List ℕ → Type 0
AreDraws jobs numbers = IsStrictlyIncreasing numbers × All (λ job. job < jobs) numbers

-- The numbers of all jobs, in order.
abbrev pub AreInOrder : ℕ → List ℕ → Type 0
AreInOrder jobs numbers = (length numbers ≡ jobs) × ((k : ℕ) → k < jobs → slice_index numbers k ≡ k)

-- A number stands in some list.
abbrev pub StandsIn : ℕ → List (List ℕ) → Type 0
StandsIn number lists = SomeIndex lists (λ w. SomeIndex (slice_index_or lists w []) (λ k. slice_index (slice_index_or lists w []) k ≡ number))
