-- The frames of a text as they are run beside a crowd, at one more frame.
use Rattle.std.proofs.Common.{◌≡◌, ℕ, ◌+◌, List, [], ◌∷◌, ◌++◌, length, refl, sym, ◌∙◌, ap, append_assoc, append-nil, length-append, arith, Option, Some, None}
use Rattle.std.specs.List.{fold}
use Rattle.subjects.specs.Plans.{Simulated}
use Rattle.scenario.specs.FrameLists.{Frame}
use Rattle.frame_exec.specs.Runs.{Setup}
use Rattle.frame_exec.specs.Crowds.{Course, beside, gone_on, course_of, frames_run, crowd_behind, frame_beside}
use Rattle.frame_exec.specs.Standing.{CanRun}
use Rattle.frame_exec.specs.Beside.{crowd_then}

-- as many frames are run as there are
course_length : (setup : Setup) (course : Course) (frames : List Frame) → length (fold (gone_on setup) course frames).frames ≡ length course.frames + length frames
unfolding gone_on
course_length setup course [] = omega arith
course_length setup course (frame ∷ frames) =
    course_length setup (gone_on setup course frame) frames
    ∙ ap (λ (count : ℕ). count + length frames) (length-append course.frames (beside course.subjects frame ∷ []))
    ∙ omega arith

pub run_length : (setup : Setup) (crowd : Option (List Simulated)) (frames : List Frame) → length (frames_run setup crowd frames) ≡ length frames
unfolding course_of
run_length setup None frames = refl
run_length setup (Some subjects) frames = course_length setup (record { frames = []; subjects = subjects }) frames ∙ omega arith

-- the course of more frames
fold_append : (setup : Setup) (course : Course) (front frames : List Frame) → fold (gone_on setup) course (front ++ frames) ≡ fold (gone_on setup) (fold (gone_on setup) course front) frames
fold_append setup course [] frames = refl
fold_append setup course (first ∷ front) frames = fold_append setup (gone_on setup course first) front frames

-- one frame more is run beside the crowd behind the others
pub run_more : (setup : Setup) (crowd : Option (List Simulated)) (frames : List Frame) (frame : Frame)
    → frames_run setup crowd (frames ++ frame ∷ []) ≡ frames_run setup crowd frames ++ frame_beside (crowd_behind setup crowd frames) frame ∷ []
unfolding course_of gone_on
run_more setup None frames frame = refl
run_more setup (Some subjects) frames frame = ap (λ (course : Course). course.frames) (fold_append setup (record { frames = []; subjects = subjects }) frames (frame ∷ []))

-- and leaves the crowd behind it
pub crowd_more : (setup : Setup) (crowd : Option (List Simulated)) (frames : List Frame) (frame : Frame)
    → crowd_behind setup crowd (frames ++ frame ∷ []) ≡ crowd_then setup (frames_run setup crowd frames) (frame_beside (crowd_behind setup crowd frames) frame) (crowd_behind setup crowd frames)
unfolding course_of gone_on
crowd_more setup None frames frame = refl
crowd_more setup (Some subjects) frames frame = ap (λ (course : Course). Some course.subjects) (fold_append setup (record { frames = []; subjects = subjects }) frames (frame ∷ []))

-- the frames that were run stay
course_grows : (setup : Setup) (course : Course) (frames : List Frame) → (more : List Frame) × ((fold (gone_on setup) course frames).frames ≡ course.frames ++ more)
unfolding gone_on
course_grows setup course [] = ([], sym (append-nil course.frames))
course_grows setup course (frame ∷ frames) =
    let rest = course_grows setup (gone_on setup course frame) frames in
    (beside course.subjects frame ∷ rest.0, rest.1 ∙ append_assoc course.frames (beside course.subjects frame ∷ []) rest.0)

pub run_grows : (setup : Setup) (crowd : Option (List Simulated)) (front frames : List Frame)
    → (more : List Frame) × (frames_run setup crowd (front ++ frames) ≡ frames_run setup crowd front ++ more)
unfolding course_of
run_grows setup None front frames = (frames, refl)
run_grows setup (Some subjects) front frames =
    let start : Course = record { frames = []; subjects = subjects } in
    let grown = course_grows setup (fold (gone_on setup) start front) frames in
    (grown.0, ap (λ (course : Course). course.frames) (fold_append setup start front frames) ∙ grown.1)

-- no frames are run where there are none
pub run_none : (setup : Setup) (crowd : Option (List Simulated)) → frames_run setup crowd [] ≡ []
unfolding course_of
run_none setup None = refl
run_none setup (Some subjects) = refl

-- and the crowd is as it began
pub crowd_none : (setup : Setup) (crowd : Option (List Simulated)) → crowd_behind setup crowd [] ≡ crowd
unfolding course_of
crowd_none setup None = refl
crowd_none setup (Some subjects) = refl

-- a further frame can be run as it stands here
pub can_run_beside : (setup : Setup) (crowd : Option (List Simulated)) (frames : List Frame) (frame : Frame) → CanRun setup frames frame → CanRun setup (frames_run setup crowd frames) frame
can_run_beside setup crowd frames frame can = record { time = rw (run_length setup crowd frames) can.time; upsets = can.upsets }
