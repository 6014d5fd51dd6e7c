-- What the run of the frames begins with, and what it hands on.
use Rattle.std.specs.Prelude.{◌≡◌, ℕ, ◌<◌, ◌≤◌, List, [], ◌++◌, length, Option, None, ◌⊎◌}
use Rattle.fsw_outside.specs.Told.{WhereTold}
use Rattle.fsw_outside.specs.Written.{AppendsPart}
use Rattle.packet_log.specs.Blocks.{empty_block}
use Rattle.scenario.specs.FrameLists.{Frame}
use Rattle.scenario.specs.Texts.{Given}
use Rattle.frame_exec.specs.Runs.{Setup, log_of}
use Rattle.frame_exec.specs.Following.{Follows, IsCutAt}
use Rattle.frame_exec.specs.Standing.{waiting_in}
use Rattle.frame_exec.specs.declared.bench.Bench.{Bench}
use Rattle.rehearsal.specs.declared.report.Report.{Report}
use Rattle.rehearsal.specs.declared.report.Status.TheVariants as statuses
use Rattle.rehearsal.specs.Outcome.{frames_of, setup_of, refused_read}

-- A bench begins to run the frames of a text with the tables of these files: the header was given, whose map gives their reads, no frame
-- was, and nothing waits.
pub record Begins (bench : Bench) (files : List (List ℕ)) (gave : List Given) : Type 0 where
  pub follows : Follows bench (setup_of files gave) [] []
  pub waits : waiting_in bench ≡ empty_block
  pub given : refused_read files gave ≡ None
  pub none : frames_of gave ≡ []
  pub some : 0 < length gave

-- The output failed in the lines of one of these frames, behind at least so many; the bytes before are the log of those that were added.
pub record IsCutShort (report : Report) (setup : Setup) (added frames : List Frame) (handed : ℕ) (before after : Option (List ℕ)) : Type 0 where
  pub status : report ≡ record { status = statuses.WriteFailed; file = 0; line = 0; reason = 0; frames = report.frames }
  pub least : handed ≤ report.frames
  pub within : report.frames < length frames
  pub cut : WhereTold before after (λ old new. (start : List ℕ) → old ≡ start ++ log_of setup added → IsCutAt setup frames report.frames start new)

-- All lines of the later frames were handed on behind those of the earlier ones, and the report stays; else the output failed in the lines
-- of a later one, and the report says so.
abbrev pub HandsOn : Report → Report → Setup → List Frame → List Frame → Option (List ℕ) → Option (List ℕ) → Type 0
HandsOn result report setup earlier later before after =
    ((result ≡ report) × WhereTold before after (λ old new. new ≡ old)) ⊎ IsCutShort result setup (earlier ++ later) (earlier ++ later) (length earlier) before after

-- the output failed behind so many frames
abbrev pub failed_at : ℕ → Report
failed_at frames = record { status = statuses.WriteFailed; file = 0; line = 0; reason = 0; frames = frames }

-- the summary was written and the report stays, or the output failed in it
abbrev pub Sums : Report → Report → List ℕ → List ℕ → List ℕ → Type 0
Sums result report text old new = ((result ≡ report) × (new ≡ old ++ text)) ⊎ ((result ≡ failed_at report.frames) × AppendsPart text old new)
