-- The applications before the first frame.
use Rattle.std.specs.Prelude.{◌≡◌, ℕ, Bool, List, []}
use Rattle.memory_window.specs.declared.regions.Region.{Region}
use Rattle.hs_monitors.specs.Histories.{setup_of}
use Rattle.hs_monitors.specs.State.{Stands as HsStands}
use Rattle.cs_slices.specs.State.{Stands as CsStands}
use Rattle.sc_sequences.specs.Histories.{begun_at}
use Rattle.sc_sequences.specs.State.{Stands as ScStands, IsReady as ScIsReady}
use Rattle.mm_core.specs.State.{Stands as MmStands}
use Rattle.md_dwell.specs.Given.{TablesGiven}
use Rattle.md_dwell.specs.State.{Stands as MdStands, AllGiven}
use Rattle.lc_watch.specs.State.{Stands as LcStands}
use Rattle.active_tables.specs.Tables.{TableSet}
use Rattle.app_suite.specs.Applications.{cs_tables}
use Rattle.app_suite.specs.declared.slots.Slots.{Slots}

-- slots of applications whose histories begin on these tables: SC's at this time, HS's with no reset made, of at most three, and LC's where
-- it is there
pub record HaveBegun (tables : TableSet) (time : ℕ) (watched : Bool) (slots : Slots) : Type 0 where
  pub hs : HsStands (setup_of tables.hs 0 3) [] slots.hs.state.value
  pub cs : CsStands (cs_tables tables) [] slots.cs.state.value
  pub sc : ScStands (begun_at time tables.sc) [] slots.sc.state.value
  pub ready : ScIsReady tables.sc slots.sc.state.value
  pub mm : MmStands [] slots.mm.state.value
  pub md : MdStands tables.dwells [] slots.md.state.value
  pub given : (regions : List Region) → TablesGiven regions tables.dwells → AllGiven regions slots.md.state.value
  pub lc : LcStands tables.wdt tables.adt [] slots.lc.slot.state.value
  pub there : slots.lc.there ≡ watched
