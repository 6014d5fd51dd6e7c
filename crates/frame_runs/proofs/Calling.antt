-- The subjects of a run, as what calls leave of them.
use Rattle.std.proofs.Common.{◌≡◌, Bool, true, false, ◌+◌, List, [], ◌∷◌, ◌++◌, length, fold, refl, sym, ◌∙◌, ap, zero-add, arith}
use Rattle.std.specs.List.{flat_map}
use Rattle.std.proofs.lemmas.List.{length-append}
use Rattle.std.proofs.lemmas.List.Sums.{fold_push, fold-append}
use Rattle.bus_pipes.specs.declared.names.Out.{Out}
use Rattle.bus_pipes.specs.declared.names.Out.TheVariants.{Made, Stored, Reset, Restart, Delete}
use Rattle.scenario.specs.FrameLists.{Frame}
use Rattle.subjects.specs.Plans.{Simulated}
use Rattle.subjects.specs.Crowds.{all_cycled, with_restarted, without}
use Rattle.subjects.specs.Calls.{Call, after_call, after_calls}
use Rattle.subjects.specs.Calls.Call.{RestartAll}
use Rattle.frame_runs.specs.Runs.{Setup, State, activated_at, sent_at, resets_at, run_of}
use Rattle.frame_runs.specs.Crowds.{beside, obeying, behind_items, crowd_after, Course, gone_on, course_of, call_of, calls_in}

-- a list of calls behind another
calls_both : (subjects : List Simulated) (first second : List Call) → after_calls subjects (first ++ second) ≡ after_calls (after_calls subjects first) second
calls_both subjects [] second = refl
calls_both subjects (call ∷ first) second = calls_both (after_call subjects call) first second

-- items that are obeyed, as calls
items_called : (subjects : List Simulated) (items : List Out) (more : List Call) → after_calls subjects (flat_map call_of items ++ more) ≡ after_calls (fold obeying subjects items) more
items_called subjects [] more = refl
items_called subjects (Restart name ∷ items) more = items_called (with_restarted name subjects) items more
items_called subjects (Delete name ∷ items) more = items_called (without name subjects) items more
items_called subjects (Made p ∷ items) more = items_called subjects items more
items_called subjects (Stored p ∷ items) more = items_called subjects items more
items_called subjects (Reset ∷ items) more = items_called subjects items more

-- and those of a frame, with its reset
frame_called : (resets : Bool) (items : List Out) (subjects : List Simulated) → behind_items resets items (all_cycled subjects) ≡ after_calls subjects (calls_in resets items)
unfolding behind_items
frame_called true items subjects = sym (items_called (all_cycled subjects) items (RestartAll ∷ []))
frame_called false items subjects = sym (items_called (all_cycled subjects) items [])

pub crowd_called : (setup : Setup) (s : State) (frame : Frame) (subjects : List Simulated) → crowd_after setup s frame subjects
    ≡ after_calls subjects (calls_in (resets_at setup (activated_at setup s frame) frame) (sent_at setup (activated_at setup s frame) frame))
unfolding crowd_after
crowd_called setup s frame subjects = let t = activated_at setup s frame in frame_called (resets_at setup t frame) (sent_at setup t frame) subjects

-- a run beside a crowd without frames, and at one frame more
pub course_none : (setup : Setup) (subjects : List Simulated) → course_of setup subjects [] ≡ record { frames = []; subjects = subjects }
unfolding course_of
course_none setup subjects = refl

pub course_more : (setup : Setup) (subjects : List Simulated) (frames : List Frame) (frame : Frame) → course_of setup subjects (frames ++ frame ∷ []) ≡ gone_on setup (course_of setup subjects frames) frame
unfolding course_of
course_more setup subjects frames frame = fold_push (gone_on setup) (record { frames = []; subjects = subjects }) frames frame

-- it has as many frames as were run
number_from : (setup : Setup) (course : Course) (frames : List Frame) → length (fold (gone_on setup) course frames).frames ≡ length course.frames + length frames
unfolding gone_on
number_from setup course [] = omega arith
number_from setup course (frame ∷ frames) =
    let one = length-append course.frames (beside course.subjects frame ∷ []) in
    let rest = number_from setup (gone_on setup course frame) frames in
    omega (arith, one, rest)

pub course_number : (setup : Setup) (subjects : List Simulated) (frames : List Frame) → length (course_of setup subjects frames).frames ≡ length frames
unfolding course_of
course_number setup subjects frames = number_from setup (record { frames = []; subjects = subjects }) frames ∙ zero-add (length frames)

-- whatever frames follow, the subjects are what calls leave
later_calls : (setup : Setup) (course : Course) (frames : List Frame) → (calls : List Call) × ((fold (gone_on setup) course frames).subjects ≡ after_calls course.subjects calls)
unfolding gone_on
later_calls setup course [] = ([], refl)
later_calls setup course (frame ∷ frames) =
    let run = beside course.subjects frame in
    let s = run_of setup course.frames in
    let t = activated_at setup s run in
    let one = calls_in (resets_at setup t run) (sent_at setup t run) in
    let rest = later_calls setup (gone_on setup course frame) frames in
    (one ++ rest.0, rest.1 ∙ ap (λ (subjects : List Simulated). after_calls subjects rest.0) (crowd_called setup s run course.subjects) ∙ sym (calls_both course.subjects one rest.0))

pub called_later : (setup : Setup) (subjects : List Simulated) (frames more : List Frame)
    → (calls : List Call) × ((course_of setup subjects (frames ++ more)).subjects ≡ after_calls (course_of setup subjects frames).subjects calls)
unfolding course_of
called_later setup subjects frames more =
    let start : Course = record { frames = []; subjects = subjects } in
    let later = later_calls setup (fold (gone_on setup) start frames) more in
    (later.0, ap (λ (course : Course). course.subjects) (fold-append (gone_on setup) start frames more) ∙ later.1)
