-- What the wakeups of a frame read.
use Rattle.std.specs.Prelude.{ℕ, List}
use Rattle.packet_forms.specs.declared.name.Counter.{Counter}
use Rattle.memory_window.specs.Memory.{Memory, regions_of}
use Rattle.cs_slices.specs.Given.{SegmentsGiven}
use Rattle.cs_slices.specs.declared.state.Cs.{Cs}
use Rattle.hs_monitors.specs.declared.state.Hs.{Hs}
use Rattle.sc_sequences.specs.declared.state.Sc.{Sc}
use Rattle.sc_sequences.specs.State.{IsReady as ScIsReady}
use Rattle.mm_core.specs.declared.state.Mm.{Mm}
use Rattle.md_dwell.specs.declared.state.Md.{Md}
use Rattle.md_dwell.specs.State.{AllGiven}
use Rattle.lc_watch.specs.declared.state.Lc.{Lc}
use Rattle.app_suite.specs.declared.slot.Slot.{Slot}
use Rattle.active_tables.specs.Tables.{TableSet}

-- the slots of the applications, the packets that HS took from its pipe of events and LC from that of telemetry, the tables, the files, the frame's image and its
-- execution counters, and its time
pub record Seen : Type 0 where
  pub hs : Slot Hs
  pub events : List (List ℕ)
  pub cs : Slot Cs
  pub sc : Slot Sc
  pub mm : Slot Mm
  pub md : Slot Md
  pub lc : Slot Lc
  pub telemetry : List (List ℕ)
  pub tables : TableSet
  pub files : List (List ℕ)
  pub memory : Memory
  pub counters : List Counter
  pub time : ℕ

-- each application can be woken: memory gives what CS's tables and MD's read, and SC reads the sequences that are active
pub record CanWake (s : Seen) : Type 0 where
  pub eeprom : SegmentsGiven (regions_of s.memory.areas) s.tables.eeprom
  pub memory : SegmentsGiven (regions_of s.memory.areas) s.tables.memory
  pub sc : ScIsReady s.tables.sc s.sc.state.value
  pub md : AllGiven (regions_of s.memory.areas) s.md.state.value
