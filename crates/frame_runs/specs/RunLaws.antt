-- Laws of the log of a run.
use Rattle.std.proofs.Common.{◌≡◌, ℕ, List, [], ◌∷◌, ◌++◌, ◌∙◌, ap}
use Rattle.std.specs.List.{flat_map}
use Rattle.histories.specs.Words.{along}
use Rattle.histories.proofs.Along.{along_more, along_none}
use Rattle.histories.proofs.Fronts.{flat_map_more}
use Rattle.scenario.specs.FrameLists.{Frame}
use Rattle.frame_runs.specs.Runs.{Setup, frame_lines, log_of}

-- the log of a run at one more frame
pub log_more : (setup : Setup) (frames : List Frame) (frame : Frame) → log_of setup (frames ++ frame ∷ []) ≡ log_of setup frames ++ frame_lines setup frames frame
unfolding log_of
log_more setup frames frame =
    ap (flat_map (λ (lines : List ℕ). lines)) (along_more (frame_lines setup) frames frame)
    ∙ flat_map_more (λ (lines : List ℕ). lines) (along (frame_lines setup) frames) (frame_lines setup frames frame)

-- the log of a run without frames
pub log_none : (setup : Setup) → log_of setup [] ≡ []
unfolding log_of
log_none setup = ap (flat_map (λ (lines : List ℕ). lines)) (along_none (frame_lines setup))
