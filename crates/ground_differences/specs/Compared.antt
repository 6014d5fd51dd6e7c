-- What a comparison of two logs finds.
use Rattle.std.specs.Prelude.{◌≡◌, ◌↔◌, ℕ, Bool, ◌&&◌, List, Option, None}
use Rattle.log_lines.specs.declared.line.LogLine.{LogLine}
use Rattle.ground_logs.specs.Making.{lines_of, is_log}
use Rattle.ground_differences.specs.declared.frame_source.FrameSource.{FrameSource}
use Rattle.ground_differences.specs.Frames.{HasLeft}
use Rattle.ground_differences.specs.Same.{AreSameLines}

-- No frame that differs was found so far exactly where none was before and this holds.
abbrev pub IsNoneWhere : Option ℕ → Type 0 → Option ℕ → Type 0
IsNoneWhere before same after = (after ≡ None) ↔ ((before ≡ None) × same)

-- Two logs have lines left. None of their frames was found to differ so far, and the lines left are the same, exactly where this holds.
pub record AreLeft {L E : Type 0} (remaining : L → Option (List ℕ)) (ones others : FrameSource L E) (one_whole other_whole : Bool) (first : Option ℕ) (same : Type 0) : Type 0 where
  pub one : List LogLine
  pub other : List LogLine
  pub one_left : HasLeft remaining ones one one_whole
  pub other_left : HasLeft remaining others other other_whole
  pub found : ((first ≡ None) × AreSameLines one other) ↔ same

-- Frames of two logs were compared, as far as these sources: what they say of the lines that were left before.
pub record ComparesOn {L E : Type 0} (remaining : L → Option (List ℕ)) (ones others : FrameSource L E) (before : Option ℕ) (new_ones new_others : FrameSource L E) (after : Option ℕ) : Type 0 where
  pub on : (one other : List LogLine) (one_whole other_whole : Bool) → HasLeft remaining ones one one_whole → HasLeft remaining others other other_whole
      → AreLeft remaining new_ones new_others one_whole other_whole after ((before ≡ None) × AreSameLines one other)

-- Two logs are at their ends: whether all of their lines are a log's is known, and no frame was found to differ exactly where this holds.
pub record AreEnded {L E : Type 0} (ones others : FrameSource L E) (one_whole other_whole : Bool) (first : Option ℕ) (same : Type 0) : Type 0 where
  pub one : ones.source.is_whole ≡ one_whole
  pub other : others.source.is_whole ≡ other_whole
  pub found : (first ≡ None) ↔ same

-- All frames of two logs were compared that were left.
pub record ComparesAll {L E : Type 0} (remaining : L → Option (List ℕ)) (ones others : FrameSource L E) (before : Option ℕ) (new_ones new_others : FrameSource L E) (after : Option ℕ) : Type 0 where
  pub all : (one other : List LogLine) (one_whole other_whole : Bool) → HasLeft remaining ones one one_whole → HasLeft remaining others other other_whole
      → AreEnded new_ones new_others one_whole other_whole after ((before ≡ None) × AreSameLines one other)

-- Two texts of logs were compared: whether both are logs, and a first frame that differs exactly where their lines aren't the same.
pub record IsFoundOf (one other : List ℕ) (whole : Bool) (first : Option ℕ) : Type 0 where
  pub both : whole ≡ (is_log one && is_log other)
  pub same : (first ≡ None) ↔ AreSameLines (lines_of one) (lines_of other)
