-- Items of a frame that a crowd obeys.
use Rattle.std.proofs.Common.{◌≡◌, Bool, List, ◌∙◌, ap, Some, Result, Ok, Err}
use Rattle.std.specs.Prelude.{OnOk}
use Rattle.bus_pipes.specs.declared.names.Out.{Out}
use Rattle.subjects.specs.Plans.{Simulated}
use Rattle.subjects.specs.Crowds.{all_cycled}
use Rattle.scenario.specs.FrameLists.{Frame}
use Rattle.frame_exec.specs.declared.bench.Bench.{Bench}
use Rattle.app_suite.specs.Wakes.{joined}
use Rattle.frame_runs.specs.Runs.{Setup, activated_at, sent_at, resets_at, run_of}
use Rattle.frame_runs.specs.Crowds.{behind_items, crowd_after}
use Rattle.frame_exec.specs.Parts.{items_in}
use Rattle.frame_exec.specs.Stages.{HasGiven}

-- all items of a frame were obeyed by subjects that were cycled
pub obeyed_frame : (b : Bench) (setup : Setup) (frames : List Frame) (frame : Frame) (old cycled now : List Simulated) → HasGiven b setup frames frame → cycled ≡ all_cycled old
    → now ≡ behind_items b.resets (joined (items_in b.apps)) cycled → now ≡ crowd_after setup (run_of setup frames) frame old
unfolding crowd_after
obeyed_frame b setup frames frame old cycled now given once obeyed =
    let t = activated_at setup (run_of setup frames) frame in
    obeyed ∙ ap (λ (resets : Bool). behind_items resets (joined (items_in b.apps)) cycled) given.resets ∙ ap (λ (items : List Out). behind_items (resets_at setup t frame) items cycled) given.items
    ∙ ap (behind_items (resets_at setup t frame) (sent_at setup t frame)) once

-- there is a crowd still
pub still_some : {A E : Type 0} (result : Result A E) (now then : List Simulated) → OnOk result (now ≡ then) → OnOk result (Some now ≡ Some then)
still_some (Ok done) now then same = ap (λ (subjects : List Simulated). Some subjects) same
still_some (Err e) now then same = tt
