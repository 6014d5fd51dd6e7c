-- When a bench stands for a list of frames.
use Rattle.std.specs.Prelude.{◌≡◌, ℕ, Bool, ◌+◌, ◌<◌, true, false, List, length, All}
use Rattle.memory_window.specs.Regions.{is_mapped}
use Rattle.memory_window.specs.Memory.{Memory, regions_of}
use Rattle.md_dwell.specs.State.{AllGiven}
use Rattle.sc_sequences.specs.State.{IsReady as ScIsReady}
use Rattle.packet_log.specs.Blocks.{Waiting, empty_block}
use Rattle.packet_log.specs.Standing.{Stands as LogStands}
use Rattle.scenario.specs.declared.progress.Header.{Header}
use Rattle.scenario.specs.declared.frame.Upset.{Upset}
use Rattle.scenario.specs.FrameLists.{Frame}
use Rattle.frame_exec.specs.declared.bench.Bench.{Bench}
use Rattle.frame_exec.specs.declared.applications.Applications.{Applications}
use Rattle.app_suite.specs.Applications.{lc_setup, hs_stands, cs_stands, sc_stands, mm_stands, md_stands, lc_stands}
use Rattle.active_tables.specs.Tables.{AreGiven}
use Rattle.frame_runs.specs.Runs.{Setup, State, active_in, image_at, run_of}
use Rattle.frame_exec.specs.Idling.{IsIdle}

-- the state of each application stands for its history
pub record AppsStand (a : Applications) (s : State) : Type 0 where
  pub hs : hs_stands (active_in s) s.hs a.hs.state.value
  pub cs : cs_stands (active_in s) s.cs a.cs.state.value
  pub sc : sc_stands (active_in s) s.sc a.sc.state.value
  pub mm : mm_stands s.tables s.mm a.mm.state.value
  pub md : md_stands (active_in s) s.md a.md.state.value
  pub lc : lc_stands (lc_setup s.tables) s.lc a.lc.slot.state.value

-- the bench has what a run has come to
pub record Has (b : Bench) (s : State) : Type 0 where
  pub number : b.number ≡ s.number
  pub tables : b.tables.set ≡ s.tables
  pub apps : AppsStand b.apps s
  pub pipes : b.wires.bus ≡ s.pipes
  pub made : LogStands s.made b.wires.log
  pub memory : b.memory.ram ≡ s.memory

-- each application can be woken
pub record IsReady (b : Bench) : Type 0 where
  pub sc : ScIsReady b.tables.set.sc b.apps.sc.state.value
  pub md : AllGiven (regions_of b.memory.ram.areas) b.apps.md.state.value
  pub given : AreGiven (regions_of b.memory.ram.areas) b.tables

-- where it is noted that the bench is idle it is
abbrev pub IsNoted : Bench → Type 0
IsNoted b = b.idle ≡ true → IsIdle b.wires.bus b.counts b.apps

-- these upsets lie in memory
abbrev pub AreMapped : List Upset → Memory → Type 0
AreMapped upsets memory = All (λ (u : Upset). is_mapped (regions_of memory.areas) u.at ≡ true) upsets

-- whether a frame of the bench failed
abbrev pub has_failed : Bench → Bool
has_failed b = b.failed

-- the lines that the bench put into its block and didn't hand on yet
abbrev pub waiting_in : Bench → Waiting
waiting_in b = b.lines.block

-- the bench stands for these frames, of a scenario with this header
pub record Stands (b : Bench) (setup : Setup) (frames : List Frame) : Type 0 where
  pub epoch : b.epoch ≡ setup.epoch
  pub files : b.tables.files ≡ setup.files
  pub well : has_failed b ≡ false
  pub waits : waiting_in b ≡ empty_block
  pub has : Has b (run_of setup frames)
  pub ready : IsReady b
  pub idle : IsNoted b

-- A frame behind these frames was interrupted, as its lines couldn't all be written: its upsets are in memory, and none of its operations is.
pub record IsInterrupted (b : Bench) (setup : Setup) (frames : List Frame) (frame : Frame) : Type 0 where
  pub memory : b.memory.ram ≡ image_at (run_of setup frames) frame

-- a further frame can be run: its time and that of the frame behind it are numbers of four bytes, and its upsets lie in the map
pub record CanRun (setup : Setup) (frames : List Frame) (frame : Frame) : Type 0 where
  pub time : setup.epoch + length frames + 1 < 4294967296
  pub upsets : All (λ (u : Upset). is_mapped setup.regions u.at ≡ true) frame.upsets

-- what a header and the named files say
abbrev pub setup_in : Header → List (List ℕ) → Setup
setup_in header files = record { epoch = header.epoch; regions = header.map; files = files }
