-- What the parts of the bench keep and give.
use Rattle.std.specs.Prelude.{◌≡◌, ℕ, Bool, false, not, List, [], ◌∷◌, ◌++◌, length, slice_index_or}
use Rattle.std.specs.List.{flat_map, list_any}
use Rattle.bus_pipes.specs.Pipes.{Pipes, empty_pipes}
use Rattle.bus_pipes.specs.declared.names.Out.{Out}
use Rattle.app_suite.specs.declared.left.Left.{Left}
use Rattle.app_suite.specs.Turns.{Seen}
use Rattle.app_suite.specs.Wakes.{HasTaken, IsWoken, AreSendable, joined, next_of, unless}
use Rattle.frame_wires.specs.Sending.{is_same, sent_of}
use Rattle.active_tables.specs.Tables.{TableSet}
use Rattle.app_suite.specs.Applications.{Active, cs_tables, lc_setup, hs_stands, cs_stands, sc_stands, mm_stands, md_stands, lc_stands, hs_gives, cs_gives, sc_gives, mm_gives, md_gives, lc_gives, hs_reads, cs_reads, sc_reads, mm_reads, md_reads, lc_reads}
use Rattle.table_files.specs.Files.{loads_of}
use Rattle.mm_core.specs.Step.{mm_operations}
use Rattle.hs_monitors.specs.Histories.{setup_of}
use Rattle.hs_monitors.specs.State.{Stands as HsStands}
use Rattle.cs_slices.specs.State.{Stands as CsStands}
use Rattle.sc_sequences.specs.Histories.{begun_at}
use Rattle.sc_sequences.specs.State.{Stands as ScStands, IsReady as ScIsReady}
use Rattle.mm_core.specs.State.{Stands as MmStands}
use Rattle.md_dwell.specs.Given.{TablesGiven}
use Rattle.md_dwell.specs.State.{Stands as MdStands, AllGiven}
use Rattle.lc_watch.specs.State.{Stands as LcStands}
use Rattle.memory_window.specs.declared.regions.Region.{Region}
use Rattle.packet_log.specs.Sent.{makes}
use Rattle.packet_log.specs.Standing.{Stands as LogStands}
use Rattle.md_dwell.specs.declared.step.TheConstants.{MOST_ITEMS as md_most}
use Rattle.cs_slices.specs.declared.step.TheConstants.{MOST_ITEMS as cs_most}
use Rattle.sc_sequences.specs.declared.step.TheConstants.{MOST_ITEMS as sc_most}
use Rattle.mm_core.specs.declared.step.TheConstants.{MOST_ITEMS as mm_most}
use Rattle.hs_monitors.specs.declared.step.TheConstants.{MOST_ITEMS as hs_most}
use Rattle.lc_watch.specs.declared.step.TheConstants.{MOST_ITEMS as lc_most}
use Rattle.memory_window.specs.declared.operations.MemOp.{MemOp}
use Rattle.scenario.specs.declared.frame.App.{App}
use Rattle.scenario.specs.declared.frame.App.TheVariants as names
use Rattle.frame_exec.specs.declared.applications.Applications.{Applications}
use Rattle.frame_exec.specs.declared.wires.Wires.{Wires}

-- wires over which nothing was sent, by whether LC is there
pub record AreUnused (there : Bool) (wires : Wires) : Type 0 where
  pub pipes : wires.bus ≡ empty_pipes there
  pub log : LogStands [] wires.log

-- the states of the applications stay
pub record KeepsApps (old new : Applications) : Type 0 where
  pub hs : new.hs.state ≡ old.hs.state
  pub cs : new.cs.state ≡ old.cs.state
  pub sc : new.sc.state ≡ old.sc.state
  pub mm : new.mm.state ≡ old.mm.state
  pub md : new.md.state ≡ old.md.state
  pub lc : new.lc.slot.state ≡ old.lc.slot.state

-- whether LC is there stays, how many jobs the crew has, and how many events there is room for
pub record KeepsRoom (old new : Applications) : Type 0 where
  pub there : new.lc.there ≡ old.lc.there
  pub jobs : new.crew.jobs ≡ old.crew.jobs
  pub events : new.activations.room ≡ old.activations.room

-- the slots of the applications stay, and what was told of activations
pub record KeepsSlots (old new : Applications) : Type 0 where
  pub told : new.activations ≡ old.activations
  pub hs : new.hs ≡ old.hs
  pub cs : new.cs ≡ old.cs
  pub sc : new.sc ≡ old.sc
  pub mm : new.mm ≡ old.mm
  pub md : new.md ≡ old.md
  pub lc : new.lc ≡ old.lc

-- what the applications gave, a list each, in their order
abbrev pub given_in : Applications → List (List Out)
given_in a = a.hs.out.items ∷ a.cs.out.items ∷ a.sc.out.items ∷ a.mm.out.items ∷ a.md.out.items ∷ a.lc.slot.out.items ∷ []

-- the items of a frame: what was told of its activations, and behind it what the applications gave
abbrev pub items_in : Applications → List (List Out)
items_in a = a.activations.items ∷ given_in a

-- no application gave anything yet
pub record AreClear (a : Applications) : Type 0 where
  pub hs : a.hs.out.items ≡ []
  pub cs : a.cs.out.items ≡ []
  pub sc : a.sc.out.items ≡ []
  pub mm : a.mm.out.items ≡ []
  pub md : a.md.out.items ≡ []
  pub lc : a.lc.slot.out.items ≡ []

-- each application took what its pipes held, unless it was held, and LC where its pipes are there; and gave nothing yet
pub record TakeAll (held : List App) (pipes : Pipes) (old new : Applications) : Type 0 where
  pub told : new.activations ≡ old.activations
  pub hs : HasTaken (list_any (is_same names.Hs) held) pipes.hs new.hs.held new.hs.commands.value new.hs.out.items
  pub events : list_any (is_same names.Hs) held ≡ false → new.events ≡ pipes.hs_ev
  pub cs : HasTaken (list_any (is_same names.Cs) held) pipes.cs new.cs.held new.cs.commands.value new.cs.out.items
  pub sc : HasTaken (list_any (is_same names.Sc) held) pipes.sc new.sc.held new.sc.commands.value new.sc.out.items
  pub mm : HasTaken (list_any (is_same names.Mm) held) pipes.mm new.mm.held new.mm.commands.value new.mm.out.items
  pub md : HasTaken (list_any (is_same names.Md) held) pipes.md new.md.held new.md.commands.value new.md.out.items
  pub lc : HasTaken (not pipes.watched) pipes.lc new.lc.slot.held new.lc.slot.commands.value new.lc.slot.out.items
  pub telemetry : not pipes.watched ≡ false → new.lc.telemetry.items ≡ pipes.lc_tlm

-- The applications were woken on what the wakeups of a frame read, unless they were held: their next states, their items, and MM's
-- operations.
pub record StepAll (s : Seen) (new : Applications) (ops : List MemOp) : Type 0 where
  pub hs : (tables : Active) → tables.now.hs ≡ s.tables.hs → IsWoken (hs_stands tables) (hs_gives tables) s.hs.held (hs_reads s.time s.hs.commands.value s.events s.counters) s.hs.state.value new.hs.state.value new.hs.out.items
  pub cs : (tables : Active) → cs_tables tables.now ≡ cs_tables s.tables → IsWoken (cs_stands tables) (cs_gives tables) s.cs.held (cs_reads s.time s.cs.commands.value s.memory) s.cs.state.value new.cs.state.value new.cs.out.items
  pub sc : (tables : Active) → tables.now.sc ≡ s.tables.sc → IsWoken (sc_stands tables) (sc_gives tables) s.sc.held (sc_reads s.time s.sc.commands.value) s.sc.state.value new.sc.state.value new.sc.out.items
  pub mm : (tables : TableSet) → IsWoken (mm_stands tables) (mm_gives tables) s.mm.held (mm_reads (loads_of s.files) s.time s.mm.commands.value s.memory) s.mm.state.value new.mm.state.value new.mm.out.items
  pub md : (tables : Active) → IsWoken (md_stands tables) (md_gives tables) s.md.held (md_reads s.time s.md.commands.value s.memory) s.md.state.value new.md.state.value new.md.out.items
  pub lc : IsWoken (lc_stands (lc_setup s.tables)) (lc_gives (lc_setup s.tables)) s.lc.held (lc_reads s.time s.lc.commands.value s.telemetry) s.lc.state.value new.lc.slot.state.value new.lc.slot.out.items
  pub operations : ops ≡ unless s.mm.held (mm_operations (mm_reads (loads_of s.files) s.time s.mm.commands.value s.memory))

-- what was taken over is the result of a job
abbrev pub IsTaken : Applications → ℕ → (Left → Type 0) → Type 0
IsTaken a job P = (left : Left) × (slice_index_or a.crew.results job left ≡ left) × P left

-- what the jobs left but LC's was taken over, and MM's operations
pub record TakesOver (old new : Applications) (ops : List MemOp) : Type 0 where
  pub told : new.activations ≡ old.activations
  pub hs : IsTaken old 0 (λ left. (new.hs.state.value ≡ next_of left.stays left.hs.value old.hs.state.value) × (new.hs.out.items ≡ left.out.items))
  pub cs : IsTaken old 1 (λ left. (new.cs.state.value ≡ next_of left.stays left.cs.value old.cs.state.value) × (new.cs.out.items ≡ left.out.items))
  pub sc : IsTaken old 2 (λ left. (new.sc.state.value ≡ next_of left.stays left.sc.value old.sc.state.value) × (new.sc.out.items ≡ left.out.items))
  pub mm : IsTaken old 3 (λ left. (new.mm.state.value ≡ next_of left.stays left.mm.value old.mm.state.value) × (new.mm.out.items ≡ left.out.items) × (ops ≡ left.ops.value))
  pub md : IsTaken old 4 (λ left. (new.md.state.value ≡ next_of left.stays left.md.value old.md.state.value) × (new.md.out.items ≡ left.out.items))

-- what each application gave can be sent
pub record CanBeSent (a : Applications) : Type 0 where
  pub hs : AreSendable hs_most a.hs.out.items
  pub cs : AreSendable cs_most a.cs.out.items
  pub sc : AreSendable sc_most a.sc.out.items
  pub mm : AreSendable mm_most a.mm.out.items
  pub md : AreSendable md_most a.md.out.items
  pub lc : AreSendable lc_most a.lc.slot.out.items

-- the items got their sequence counts: they are as they are sent, behind the packets that the wires counted before
pub record AreStamped (before after : Wires) (old new : Applications) : Type 0 where
  pub apps : KeepsApps old new
  pub sent : (made : List (List ℕ)) → LogStands made before.log → joined (items_in new) ≡ sent_of made (joined (items_in old))
  pub made : (made : List (List ℕ)) → LogStands made before.log → LogStands (made ++ flat_map makes (joined (items_in old))) after.log
  pub few : length (joined (items_in new)) ≡ length (joined (items_in old))
  pub pipes : after.bus ≡ before.bus
  pub drops : after.drops ≡ before.drops

-- The histories of the applications begin on these tables: SC's at this time, and HS's with so many resets made, of at most so many.
pub record HistoriesBegin (tables : TableSet) (time resets limit : ℕ) (a : Applications) : Type 0 where
  pub hs : HsStands (setup_of tables.hs resets limit) [] a.hs.state.value
  pub cs : CsStands (cs_tables tables) [] a.cs.state.value
  pub sc : ScStands (begun_at time tables.sc) [] a.sc.state.value
  pub mm : MmStands [] a.mm.state.value
  pub md : MdStands tables.dwells [] a.md.state.value
  pub lc : LcStands tables.wdt tables.adt [] a.lc.slot.state.value

-- the applications can be woken on these tables, as far as memory gives what the dwell tables read
pub record AreReadyOn (tables : TableSet) (a : Applications) : Type 0 where
  pub sc : ScIsReady tables.sc a.sc.state.value
  pub md : (regions : List Region) → TablesGiven regions tables.dwells → AllGiven regions a.md.state.value
