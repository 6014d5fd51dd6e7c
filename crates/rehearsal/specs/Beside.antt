-- Which simulated applications a rehearsal runs beside, where there are any.
use Rattle.std.specs.Prelude.{Bool, true, false, List, Option, Some, None}
use Rattle.subjects.specs.Plans.{Simulated}

-- the crowd of these subjects, where the words ask for it
abbrev pub crowd_for : Bool → List Simulated → Option (List Simulated)
crowd_for false subjects = None
crowd_for true subjects = Some subjects
