use Rattle.std.proofs.Common.{◌≡◌, ◌<◌, ◌≤◌, ◌+◌, ◌++◌, length, take}
use Rattle.scenario.specs.Drill.{text_left}
use Rattle.scenario.proofs.drill.put_frames.Given as goal

-- the frames so far are in the buffer
abbrev pub invariant-frames : goal.invariant-frames
invariant-frames l = record {
  moved : text_left l.fn.left.frames l.fn.left.x ≡ take l.filled l.buf ++ text_left l.left.frames l.left.x;
  size : length l.buf ≡ length l.fn.buf;
  few : l.filled ≤ length l.buf;
  frames : l.left.frames + l.k ≡ l.fn.left.frames;
  some : 0 < l.k → 0 < l.filled;
}
