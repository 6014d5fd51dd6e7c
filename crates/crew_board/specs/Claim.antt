-- The claim machine. Workers draw job numbers from one number that only goes up, and perform what they drew.
use Rattle.std.specs.Prelude.{◌≡◌, ℕ, ◌+◌, ◌-◌, ◌<◌, ◌≤◌, ◌==◌, Option, Some, None, IsSome, List, [], ◌∷◌, ◌++◌, length, replicate, slice_set, slice_index, slice_index_or, All, SomeIndex, count_by, sum_by}

-- The next number, the numbers that each worker drew, in the order in which it drew them, and the result of each job that was performed.
pub record ClaimMachine : Type 0 where
  pub next : ℕ
  pub drawn : List (List ℕ)
  pub results : List (Option ℕ)

-- A worker draws the next number, or performs the job that it drew last.
pub data ClaimStep : Type 0 where
  Draw : ℕ → ClaimStep
  Perform : ℕ → ClaimStep

-- What a worker drew.
abbrev pub list_of : ClaimMachine → ℕ → List ℕ
list_of s worker = slice_index_or s.drawn worker []

-- What it drew last.
abbrev pub last_of : ClaimMachine → ℕ → ℕ
last_of s worker = slice_index (list_of s worker) (length (list_of s worker) - 1)

-- The result of a job.
abbrev pub result_of : ClaimMachine → ℕ → Option ℕ
result_of s job = slice_index_or s.results job None

-- The machine at the start.
abbrev pub opened : ℕ → ℕ → ClaimMachine
opened jobs workers = record { next = 0; drawn = replicate {A = List ℕ} workers []; results = replicate {A = Option ℕ} jobs None }

-- The machine after a step, where performing a job gives what `gives` says.
abbrev pub after : (ℕ → ℕ) → ClaimMachine → ClaimStep → ClaimMachine
after gives s (Draw worker) = record { next = s.next + 1; drawn = slice_set s.drawn worker (list_of s worker ++ s.next ∷ []); results = s.results }
after gives s (Perform worker) = record { next = s.next; drawn = s.drawn; results = slice_set s.results (last_of s worker) (Some (gives (last_of s worker))) }

-- Whether a step is open. A worker draws while each number that it drew is a job's and was performed; it performs the job that it drew last.
abbrev pub IsOpen : ℕ → ClaimMachine → ClaimStep → Type 0
IsOpen jobs s (Draw worker) = (worker < length s.drawn) × All (λ job. (job < jobs) × IsSome (result_of s job)) (list_of s worker)
IsOpen jobs s (Perform worker) = (worker < length s.drawn) × (0 < length (list_of s worker)) × (last_of s worker < jobs)

-- The machine after a list of steps, the first one first.
abbrev pub run : (ℕ → ℕ) → ClaimMachine → List ClaimStep → ClaimMachine
run gives s [] = s
run gives s (step ∷ steps) = run gives (after gives s step) steps

-- Each step is open when it comes.
abbrev pub IsSchedule : (ℕ → ℕ) → ℕ → ClaimMachine → List ClaimStep → Type 0
IsSchedule gives jobs s [] = Unit {0}
IsSchedule gives jobs s (step ∷ steps) = IsOpen jobs s step × IsSchedule gives jobs (after gives s step) steps

-- Each worker drew a number that is no job's.
abbrev pub IsFinished : ℕ → ClaimMachine → Type 0
IsFinished jobs s = All (λ numbers. SomeIndex numbers (λ k. jobs ≤ slice_index numbers k)) s.drawn

-- How often a number stands in a list, and in all lists together.
abbrev pub times : ℕ → List ℕ → ℕ
times number numbers = count_by (λ n. n == number) numbers

abbrev pub times_in : ℕ → List (List ℕ) → ℕ
times_in number lists = sum_by (times number) lists

-- Each number is greater than those before it.
abbrev pub IsStrictlyIncreasing : List ℕ → Type 0
IsStrictlyIncreasing numbers = (i j : ℕ) → i < j → j < length numbers → slice_index numbers i < slice_index numbers j

-- Each job stands in exactly one list, once; each list rises; and the result of each job is what performing it gives.
pub record IsDone (gives : ℕ → ℕ) (jobs : ℕ) (s : ClaimMachine) : Type 0 where
  pub once : (job : ℕ) → job < jobs → times_in job s.drawn ≡ 1
  pub rising : All IsStrictlyIncreasing s.drawn
  pub count : length s.results ≡ jobs
  pub results : (job : ℕ) → job < jobs → result_of s job ≡ Some (gives job)

-- However many jobs and workers there are, and in whatever order they step: once each worker drew a number that is no job's, all is done. So the
-- results in order don't depend on the number of workers.
abbrev pub ClaimLaw : Type 0
ClaimLaw =
    (gives : ℕ → ℕ) (jobs workers : ℕ) (schedule : List ClaimStep) → 0 < workers → IsSchedule gives jobs (opened jobs workers) schedule
    → IsFinished jobs (run gives (opened jobs workers) schedule) → IsDone gives jobs (run gives (opened jobs workers) schedule)
