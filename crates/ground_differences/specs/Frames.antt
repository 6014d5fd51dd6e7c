-- A log's lines, frame by frame.
use Rattle.std.specs.Prelude.{◌≡◌, ◌==◌, ℕ, min, Bool, List, take, drop, Option, Some, None}
use Rattle.std.specs.List.{prefix_len}
use Rattle.log_lines.specs.declared.line.LogLine.{LogLine}
use Rattle.ground_logs.specs.Coming.{GivesLine}
use Rattle.ground_differences.specs.declared.frame_source.FrameSource.{FrameSource}

-- whether a line is of a frame
abbrev pub is_of : ℕ → LogLine → Bool
is_of frame line = line.frame == frame

-- how many of the first lines are of a frame, at most 4,096
abbrev pub frame_count : ℕ → List LogLine → ℕ
frame_count frame lines = min 4096 (prefix_len (is_of frame) lines)

-- A log has these lines left that are a log's, the next of which is known, and this is whether all of its lines are.
abbrev pub HasLeft : {L E : Type 0} → (L → Option (List ℕ)) → FrameSource L E → List LogLine → Bool → Type 0
HasLeft remaining log lines whole = GivesLine remaining log.source lines whole log.next

-- Of the lines that a log had left those of a frame were read, and the others are left.
pub record ReadsFrame {L E : Type 0} (remaining : L → Option (List ℕ)) (new : FrameSource L E) (frame : ℕ) (lines : List LogLine) (whole : Bool) : Type 0 where
  pub read : new.lines.items ≡ take (frame_count frame lines) lines
  pub left : HasLeft remaining new (drop (frame_count frame lines) lines) whole

-- the frame that comes next in one of two logs, by the next line of each
abbrev pub next_frame : Option LogLine → Option LogLine → Option ℕ
next_frame (Some one) (Some other) = Some (min one.frame other.frame)
next_frame (Some one) None = Some one.frame
next_frame None (Some other) = Some other.frame
next_frame None None = None
