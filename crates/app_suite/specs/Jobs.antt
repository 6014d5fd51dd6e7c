-- What waking an application leaves, as a job of a crew.
use Rattle.std.specs.Prelude.{◌≡◌, ℕ, ◌<◌, Bool, true, if◌then◌else◌, List, length, slice_index_or}
use Rattle.bus_pipes.specs.declared.names.Out.{Out}
use Rattle.table_files.specs.Files.{loads_of}
use Rattle.memory_window.specs.Memory.{Memory, regions_of}
use Rattle.memory_window.specs.declared.operations.MemOp.{MemOp}
use Rattle.md_dwell.specs.State.{AllGiven}
use Rattle.sc_sequences.specs.State.{IsReady as ScIsReady}
use Rattle.mm_core.specs.Step.{mm_operations}
use Rattle.md_dwell.specs.declared.step.TheConstants.{MOST_ITEMS as md_most}
use Rattle.cs_slices.specs.declared.step.TheConstants.{MOST_ITEMS as cs_most}
use Rattle.sc_sequences.specs.declared.step.TheConstants.{MOST_ITEMS as sc_most}
use Rattle.mm_core.specs.declared.step.TheConstants.{MOST_ITEMS as mm_most}
use Rattle.hs_monitors.specs.declared.step.TheConstants.{MOST_ITEMS as hs_most}
use Rattle.app_suite.specs.declared.left.Left.{Left}
use Rattle.lc_watch.specs.declared.step.TheConstants.{MOST_ITEMS as lc_most}
use Rattle.crew_board.specs.Work.{IsRight}
use Rattle.app_suite.specs.declared.wakeups.Wakeup.{Wakeup}
use Rattle.app_suite.specs.declared.wakeups.Job.{Job}
use Rattle.app_suite.specs.declared.wakeups.Job.TheVariants as names
use Rattle.app_suite.specs.Turns.{Seen}
use Rattle.app_suite.specs.Applications.{Active, cs_tables, lc_setup, hs_stands, cs_stands, sc_stands, mm_stands, md_stands, lc_stands, hs_gives, cs_gives, sc_gives, mm_gives, md_gives, lc_gives, hs_reads, cs_reads, sc_reads, mm_reads, md_reads, lc_reads}
use Rattle.app_suite.specs.Landable.{CanLand}
use Rattle.active_tables.specs.Tables.{TableSet}
use Rattle.app_suite.specs.Wakes.{AreSendable, IsWoken, next_of, unless}

-- A wakeup left the application's next state, unless it stayed as it was, and items that can be sent, as they follow from any setup that
-- is the wakeup's.
pub record Gives {Setup Input State : Type 0} (belongs : Setup → Type 0) (stands : Setup → List Input → State → Type 0) (gives : Setup → List Input → Input → List Out) (most : ℕ) (held : Bool) (input : Input) (old : State) (stays : Bool) (next : State) (items : List Out) : Type 0 where
  pub woken : (setup : Setup) → belongs setup → IsWoken (stands setup) (gives setup) held input old (next_of stays next old) items
  pub sendable : AreSendable most items

-- MM left its operations, which can be landed on the image
pub record Operates (loads : List (ℕ × List ℕ)) (held : Bool) (time : ℕ) (commands : List (List ℕ)) (image : Memory) (ops : List MemOp) : Type 0 where
  pub are : ops ≡ unless held (mm_operations (mm_reads loads time commands image))
  pub can_land : CanLand loads image ops

-- what the wakeup of an application leaves in its scratch, by what the wakeups of the frame read
abbrev pub Leaves : Job → Seen → Left → Type 0
Leaves names.Hs s left = Gives (λ t. s.tables.hs ≡ t.now.hs) hs_stands hs_gives hs_most s.hs.held (hs_reads s.time s.hs.commands.value s.events s.counters) s.hs.state.value left.stays left.hs.value left.out.items
Leaves names.Cs s left = Gives (λ t. cs_tables s.tables ≡ cs_tables t.now) cs_stands cs_gives cs_most s.cs.held (cs_reads s.time s.cs.commands.value s.memory) s.cs.state.value left.stays left.cs.value left.out.items
Leaves names.Sc s left =
    Gives (λ t. s.tables.sc ≡ t.now.sc) sc_stands sc_gives sc_most s.sc.held (sc_reads s.time s.sc.commands.value) s.sc.state.value left.stays left.sc.value left.out.items × ScIsReady s.tables.sc (next_of left.stays left.sc.value s.sc.state.value)
Leaves names.Mm s left =
    Gives {Setup = TableSet} (λ t. Unit {0}) mm_stands mm_gives mm_most s.mm.held (mm_reads (loads_of s.files) s.time s.mm.commands.value s.memory) s.mm.state.value left.stays left.mm.value left.out.items
    × Operates (loads_of s.files) s.mm.held s.time s.mm.commands.value s.memory left.ops.value
Leaves names.Md s left =
    Gives {Setup = Active} (λ t. Unit {0}) md_stands md_gives md_most s.md.held (md_reads s.time s.md.commands.value s.memory) s.md.state.value left.stays left.md.value left.out.items
    × AllGiven (regions_of s.memory.areas) (next_of left.stays left.md.value s.md.state.value)
Leaves names.Lc s left = Gives (λ t. lc_setup s.tables ≡ t) lc_stands lc_gives lc_most s.lc.held (lc_reads s.time s.lc.commands.value s.telemetry) s.lc.state.value left.stays left.lc.value left.out.items

-- the result of a job is one that the wakeup leaves, which reads what the scene shows
abbrev pub IsLeftRight : List Wakeup → List Left → ℕ → Type 0
IsLeftRight jobs results job = IsRight (λ (w : Wakeup) (left : Left). Leaves w.1 w.0.now left) jobs results job

-- of each of these jobs
abbrev pub AreLeftRight : List Wakeup → List Left → Type 0
AreLeftRight jobs results = (job : ℕ) → job < length jobs → IsLeftRight jobs results job

-- how many jobs a frame has: one more where LC is there
abbrev pub jobs_of : Bool → ℕ
jobs_of watched = if watched then 6 else 5

-- the result of a job is one of which this holds
abbrev pub LeftAs : List Left → ℕ → (Left → Type 0) → Type 0
LeftAs results job P = (left : Left) → slice_index_or results job left ≡ left → P left

-- what the jobs of a frame left
pub record AllLeave (watched : Bool) (s : Seen) (results : List Left) : Type 0 where
  pub hs : LeftAs results 0 (Leaves names.Hs s)
  pub cs : LeftAs results 1 (Leaves names.Cs s)
  pub sc : LeftAs results 2 (Leaves names.Sc s)
  pub mm : LeftAs results 3 (Leaves names.Mm s)
  pub md : LeftAs results 4 (Leaves names.Md s)
  pub lc : watched ≡ true → LeftAs results 5 (Leaves names.Lc s)
