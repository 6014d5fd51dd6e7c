-- A crowd of simulated applications beside a run, where there is one.
use Rattle.std.specs.Prelude.{List, map, Option, Some, None}
use Rattle.subjects.specs.Plans.{Simulated}
use Rattle.subjects.specs.Crowds.{Seen}
use Rattle.scenario.specs.FrameLists.{Frame}
use Rattle.frame_runs.specs.Runs.{Setup, run_of}
use Rattle.frame_runs.specs.Crowds.{crowd_after}

-- what the subjects of a crowd are, where there is one
abbrev pub crowd_in : {S : Type 0} → (S → Simulated) → Option (Seen S) → Option (List Simulated)
crowd_in seen None = None
crowd_in seen (Some crowd) = Some (map seen crowd.subjects)

-- the crowd behind a further frame, which was run as it stands here behind these frames
abbrev pub crowd_then : Setup → List Frame → Frame → Option (List Simulated) → Option (List Simulated)
crowd_then setup frames frame None = None
crowd_then setup frames frame (Some subjects) = Some (crowd_after setup (run_of setup frames) frame subjects)
