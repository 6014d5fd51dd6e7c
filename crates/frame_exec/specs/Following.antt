-- When a bench stands for frames whose lines may still wait, and where a log is cut.
use Rattle.std.specs.Prelude.{◌≡◌, ℕ, ◌+◌, ◌<◌, ◌≤◌, ◌-◌, false, List, [], ◌∷◌, ◌++◌, length, take, Option, Result, MatchResult, OnOk, IfErr}
use Rattle.fsw_outside.specs.Told.{WhereTold}
use Rattle.fsw_outside.specs.Written.{AppendsPart}
use Rattle.histories.specs.Words.{along}
use Rattle.packet_log.specs.Blocks.{Waiting, Notes, ends_from, joined, tells}
use Rattle.scenario.specs.FrameLists.{Frame}
use Rattle.frame_exec.specs.declared.bench.Bench.{Bench}
use Rattle.frame_exec.specs.declared.cut.Cut.{Cut}
use Rattle.frame_runs.specs.Runs.{Setup, run_of, frame_lines, log_of}
use Rattle.frame_exec.specs.Standing.{Has, has_failed, waiting_in, IsReady, IsNoted}

-- the lines of each of the later frames, which come behind the earlier ones
unfoldable pub lines_behind : Setup → List Frame → List Frame → List (List ℕ)
lines_behind setup earlier later = along (λ between frame. frame_lines setup (earlier ++ between) frame) later

-- The bench stands for the earlier frames, whose lines were handed on, and behind them for the later ones, whose lines it has put into
-- its block.
pub record Follows (b : Bench) (setup : Setup) (earlier later : List Frame) : Type 0 where
  pub epoch : b.epoch ≡ setup.epoch
  pub files : b.tables.files ≡ setup.files
  pub well : has_failed b ≡ false
  pub has : Has b (run_of setup (earlier ++ later))
  pub ready : IsReady b
  pub idle : IsNoted b
  pub notes : Notes (ends_from 0 (lines_behind setup earlier later)) (length (joined (lines_behind setup earlier later))) (waiting_in b)

-- A log is cut in the lines of one of these frames, behind so many whole ones: what was written is their log, and a proper first part of
-- its lines.
pub record IsCutAt (setup : Setup) (frames : List Frame) (whole : ℕ) (old new : List ℕ) : Type 0 where
  pub front : List Frame
  pub frame : Frame
  pub more : List Frame
  pub parts : frames ≡ front ++ frame ∷ more
  pub number : whole ≡ length front
  pub written : AppendsPart (frame_lines setup front frame) (old ++ log_of setup front) new

-- A text was given to a block, and its end was noted: all of it where the call succeeded; else a part of it, and some bytes wait.
pub record Adds {E : Type 0} (result : Result Unit E) (text : List ℕ) (old new : Waiting) (before after : Option (List ℕ)) : Type 0 where
  pub count : ℕ
  pub size : MatchResult result (λ _. count ≡ length text) (λ _. (count ≤ length text) × (0 < length new.bytes))
  pub notes : (ends : List ℕ) (given : ℕ) → Notes ends given old → MatchResult result (λ _. Notes (ends ++ (given + count) ∷ []) (given + count) new) (λ _. Notes ends (given + count) new)
  pub told : WhereTold (tells before old) (tells after new) (λ earlier later. later ≡ earlier ++ take count text)

-- A frame was added behind these frames, beside no crowd: its lines are put behind those that waited, or the log is cut.
pub record AddsFrame (result : Result Unit Cut) (setup : Setup) (earlier later : List Frame) (frame : Frame) (old new : Bench) (before after : Option (List ℕ)) : Type 0 where
  pub follows : OnOk result (Follows new setup earlier (later ++ frame ∷ []))
  pub told : OnOk result (WhereTold (tells before (waiting_in old)) (tells after (waiting_in new)) (λ start end. end ≡ start ++ frame_lines setup (earlier ++ later) frame))
  pub cut : IfErr result (λ cut. (cut.late ≤ length later)
      × WhereTold (tells before (waiting_in old)) after (λ a b. (start : List ℕ) → a ≡ start ++ log_of setup (earlier ++ later) → IsCutAt setup ((earlier ++ later) ++ frame ∷ []) (length (earlier ++ later) - cut.late) start b))
