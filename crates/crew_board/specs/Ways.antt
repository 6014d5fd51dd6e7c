-- What a run leaves as draws.
use Rattle.std.specs.Prelude.{◌≡◌, ℕ, ◌<◌, List, [], length, replicate, All}
use Rattle.crew_board.specs.declared.way.Way.{Way}
use Rattle.crew_board.specs.declared.way.Way.TheVariants.{Shared, Alone}
use Rattle.crew_board.specs.Claim.{times, times_in}
use Rattle.crew_board.specs.Work.{AreDraws}

-- Where the workers shared the jobs, one list for each of them: each rises, each job stands in exactly one of them, once, and no other number
-- stands in any. Where the caller was alone, nobody drew.
abbrev pub AreLeft : Way → ℕ → ℕ → List (List ℕ) → Type 0
AreLeft Shared jobs workers draws = (length draws ≡ workers) × All (AreDraws jobs) draws × ((job : ℕ) → job < jobs → times_in job draws ≡ 1)
AreLeft Alone jobs workers draws = draws ≡ replicate workers []

-- The same of some of the jobs, which rise: each of them stands in exactly one list, once, and no other job stands in any.
abbrev pub AreLeftOf : Way → ℕ → List ℕ → ℕ → List (List ℕ) → Type 0
AreLeftOf Shared jobs chosen workers draws = (length draws ≡ workers) × All (AreDraws jobs) draws × ((job : ℕ) → times_in job draws ≡ times job chosen)
AreLeftOf Alone jobs chosen workers draws = draws ≡ replicate workers []
