-- When a bench is idle: a frame of no items does nothing there but count, as long as no command of SC is due and HS has at most a check to count.
use Rattle.std.specs.Prelude.{◌≡◌, ℕ, Bool, false, List, []}
use Rattle.bus_pipes.specs.Pipes.{Pipes, emptied_pipes}
use Rattle.bus_pipes.specs.declared.names.Out.{Out}
use Rattle.memory_window.specs.Memory.{Memory}
use Rattle.hs_monitors.specs.declared.state.Hs.{Hs}
use Rattle.mm_core.specs.Step.{mm_operations}
use Rattle.lc_watch.specs.Histories.{Setup as LcSetup}
use Rattle.active_tables.specs.Tables.{TableSet}
use Rattle.app_suite.specs.Applications.{Active, hs_stands, cs_stands, sc_stands, mm_stands, md_stands, lc_stands, hs_gives, cs_gives, sc_gives, mm_gives, md_gives, lc_gives, hs_reads, cs_reads, sc_reads, mm_reads, md_reads, lc_reads}
use Rattle.app_suite.specs.Wakes.{IsWoken}
use Rattle.frame_exec.specs.declared.applications.Applications.{Applications}

-- an application rests on an input: its state stays where it is woken on it, and it gives nothing
abbrev pub Rests : {Input State : Type 0} → (List Input → State → Type 0) → (List Input → Input → List Out) → Input → State → Type 0
Rests stands gives input state = IsWoken stands gives false input state state []

-- HS is woken without packets and counters, whatever the time, and gives nothing
abbrev pub HsPasses : Hs → Hs → Type 0
HsPasses old new = (tables : Active) (time : ℕ) → IsWoken (hs_stands tables) (hs_gives tables) false (hs_reads time [] [] []) old new []

-- and the states of the other applications stay
pub record HasPassed (old new : Applications) : Type 0 where
  pub hs : HsPasses old.hs.state.value new.hs.state.value
  pub cs : new.cs.state ≡ old.cs.state
  pub sc : new.sc.state ≡ old.sc.state
  pub mm : new.mm.state ≡ old.mm.state
  pub md : new.md.state ≡ old.md.state
  pub lc : new.lc.slot.state ≡ old.lc.slot.state

-- each application but HS and SC rests at any time and on any memory, where it has no packets
pub record AreIdle (a : Applications) : Type 0 where
  pub cs : (tables : Active) (time : ℕ) (memory : Memory) → Rests (cs_stands tables) (cs_gives tables) (cs_reads time [] memory) a.cs.state.value
  pub mm : (tables : TableSet) (loads : List (ℕ × List ℕ)) (time : ℕ) (memory : Memory) → Rests (mm_stands tables) (mm_gives tables) (mm_reads loads time [] memory) a.mm.state.value
  pub operations : (loads : List (ℕ × List ℕ)) (time : ℕ) (memory : Memory) → mm_operations (mm_reads loads time [] memory) ≡ []
  pub md : (tables : Active) (time : ℕ) (memory : Memory) → Rests (md_stands tables) (md_gives tables) (md_reads time [] memory) a.md.state.value
  pub lc : (setup : LcSetup) (time : ℕ) → Rests (lc_stands setup) (lc_gives setup) (lc_reads time [] []) a.lc.slot.state.value

-- the pipes hold nothing, each application but HS and SC is idle, and HS rests where it isn't asked for checks to count
pub record IsIdle (pipes : Pipes) (counts : Bool) (a : Applications) : Type 0 where
  pub none : pipes ≡ emptied_pipes pipes
  pub apps : AreIdle a
  pub hs : counts ≡ false → HsPasses a.hs.state.value a.hs.state.value

-- no command of SC is due at this time
abbrev pub IsNoneDue : ℕ → Applications → Type 0
IsNoneDue time a = (tables : Active) → Rests (sc_stands tables) (sc_gives tables) (sc_reads time []) a.sc.state.value
