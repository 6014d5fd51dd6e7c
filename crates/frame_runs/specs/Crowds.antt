-- A run beside a crowd of simulated applications, which gives the execution counters.
use Rattle.std.specs.Prelude.{Bool, if◌then◌else◌, List, [], ◌∷◌, ◌++◌, map, Option, Some, None}
use Rattle.std.specs.List.{flat_map, fold}
use Rattle.bus_pipes.specs.declared.names.Out.{Out}
use Rattle.bus_pipes.specs.declared.names.Out.TheVariants.{Made, Stored, Reset, Restart, Delete}
use Rattle.packet_forms.specs.declared.name.Counter.{Counter}
use Rattle.scenario.specs.FrameLists.{Frame}
use Rattle.subjects.specs.Plans.{Simulated}
use Rattle.subjects.specs.Crowds.{counter_of, all_cycled, with_restarted, without, all_restarted}
use Rattle.subjects.specs.Calls.{Call}
use Rattle.subjects.specs.Calls.Call.{Cycle, Restart as RestartCall, Delete as DeleteCall, RestartAll}
use Rattle.frame_runs.specs.Runs.{Setup, State, activated_at, sent_at, resets_at, run_of}

-- a frame with these execution counters in place of its own
abbrev pub with_counters : List Counter → Frame → Frame
with_counters counters frame = record frame { counters = counters }

-- a frame as it is run beside a crowd: its execution counters are those that the subjects give, in their order, and its own have no effect
abbrev pub beside : List Simulated → Frame → Frame
beside subjects frame = with_counters (map counter_of subjects) frame

-- the subjects once they obeyed an item
abbrev pub obeying : List Simulated → Out → List Simulated
obeying subjects (Restart name) = with_restarted name subjects
obeying subjects (Delete name) = without name subjects
obeying subjects (Made p) = subjects
obeying subjects (Stored p) = subjects
obeying subjects Reset = subjects

-- the subjects once they obeyed all items of a frame, by whether a processor reset is asked for in it
unfoldable pub behind_items : Bool → List Out → List Simulated → List Simulated
behind_items resets items subjects = let left = fold obeying subjects items in if resets then all_restarted left else left

-- the subjects behind a frame that was run in this state: each was cycled once, and then they obeyed its items
unfoldable pub crowd_after : Setup → State → Frame → List Simulated → List Simulated
crowd_after setup s frame subjects = let t = activated_at setup s frame in behind_items (resets_at setup t frame) (sent_at setup t frame) (all_cycled subjects)

-- how far a run beside a crowd has come: the frames as they were run, and the subjects behind them
pub record Course : Type 0 where
  pub frames : List Frame
  pub subjects : List Simulated

-- the same, one frame further
unfoldable pub gone_on : Setup → Course → Frame → Course
gone_on setup course frame =
    let run = beside course.subjects frame in
    record { frames = course.frames ++ run ∷ []; subjects = crowd_after setup (run_of setup course.frames) run course.subjects }

-- how far these frames bring a run that these subjects begin with
unfoldable pub course_of : Setup → List Simulated → List Frame → Course
course_of setup subjects frames = fold (gone_on setup) (record { frames = []; subjects = subjects }) frames

-- the frames of a run as they are run, beside these subjects where there is a crowd
abbrev pub frames_run : Setup → Option (List Simulated) → List Frame → List Frame
frames_run setup None frames = frames
frames_run setup (Some subjects) frames = (course_of setup subjects frames).frames

-- the subjects behind these frames, where there is a crowd
abbrev pub crowd_behind : Setup → Option (List Simulated) → List Frame → Option (List Simulated)
crowd_behind setup None frames = None
crowd_behind setup (Some subjects) frames = Some (course_of setup subjects frames).subjects

-- a further frame as it is run, beside these subjects where there is a crowd
abbrev pub frame_beside : Option (List Simulated) → Frame → Frame
frame_beside None frame = frame
frame_beside (Some subjects) frame = beside subjects frame

-- what the items of a frame ask of a crowd, as its calls
abbrev pub call_of : Out → List Call
call_of (Restart name) = RestartCall name ∷ []
call_of (Delete name) = DeleteCall name ∷ []
call_of (Made p) = []
call_of (Stored p) = []
call_of Reset = []

-- the calls of a frame: it is cycled, and then its items are obeyed
abbrev pub calls_in : Bool → List Out → List Call
calls_in resets items = Cycle ∷ flat_map call_of items ++ (if resets then RestartAll ∷ [] else [])
