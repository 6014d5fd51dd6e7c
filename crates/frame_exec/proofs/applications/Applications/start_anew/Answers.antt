use Rattle.std.proofs.Common.{◌≡◌, ℕ, List, [], refl, sym, subst}
use Rattle.cs_slices.specs.declared.segments.Segment.{Segment}
use Rattle.cs_slices.specs.Tables.{pair_of}
use Rattle.cs_slices.specs.State.{Stands as CsStands}
use Rattle.md_dwell.specs.Given.{TablesGiven}
use Rattle.md_dwell.specs.State.{Stands as MdStands, AllGiven}
use Rattle.md_dwell.specs.Tables.{DwellTable}
use Rattle.lc_watch.specs.State.{Stands as LcStands}
use Rattle.lc_watch.specs.declared.actionpoints.ActRow.{ActRow}
use Rattle.sc_tables.specs.Commands.{TimedCommand}
use Rattle.sc_sequences.specs.Histories.{begun_at}
use Rattle.sc_sequences.specs.State.{Stands as ScStands, IsReady as ScIsReady}
use Rattle.mm_core.specs.State.{Stands as MmStands}
use Rattle.hs_tables.specs.declared.tables.HsTables.{HsTables}
use Rattle.hs_monitors.specs.Histories.{setup_of}
use Rattle.hs_monitors.specs.State.{Stands as HsStands}
use Rattle.hs_monitors.specs.declared.state.Hs.{Hs}
use Rattle.app_suite.specs.Applications.{cs_tables}
use Rattle.frame_exec.proofs.applications.Applications.start_anew.Goals as goal

-- HS begins with these resets, by other names of how many they are
with_resets : (tables : HsTables) (made n max limit : ℕ) (hs : Hs) → made ≡ n → max ≡ limit → HsStands (setup_of tables made max) [] hs → HsStands (setup_of tables n limit) [] hs
with_resets tables made n max limit hs first second stands =
    subst (λ (m : ℕ). HsStands (setup_of tables n m) [] hs) second (subst (λ (m : ℕ). HsStands (setup_of tables m max) [] hs) first stands)

pub returns-clause-begin : goal.returns-clause-begin
returns-clause-begin c = λ setup history stood.
    let tables = c.args.tables.now.set in
    let time = c.args.time in
    let made = c.resets-made.result.0 in
    let max = c.resets-made.result.1 in
    let old = subst (HsStands setup history) (sym c.deref.ensures) stood in
    record {
      hs = with_resets _ _ _ _ _ _ (c.resets-made.ensures.made setup history old) (c.resets-made.ensures.max setup history old)
          (subst (HsStands (setup_of tables.hs made max) []) (sym c.begin.ensures.state) (subst (λ (hs : HsTables). HsStands (setup_of hs made max) [] c.start.result) c.hs.ensures c.start.ensures));
      cs = subst (CsStands (cs_tables tables) []) (sym c.begin-2.ensures.state)
          (subst (λ (memory : List Segment). CsStands (pair_of tables.eeprom memory) [] c.start-2.result) c.memory.ensures
          (subst (λ (eeprom : List Segment). CsStands (pair_of eeprom c.memory.result.now) [] c.start-2.result) c.eeprom.ensures c.start-2.ensures));
      sc = subst (ScStands (begun_at time tables.sc) []) (sym c.begin-3.ensures.state) (subst (λ (sc : List (List TimedCommand)). ScStands (begun_at time sc) [] c.start-3.result) c.sc.ensures c.start-3.ensures.stands);
      mm = subst (MmStands []) (sym c.begin-4.ensures.state) c.start-4.ensures;
      md = subst (MdStands tables.dwells []) (sym c.begin-5.ensures.state) (subst (λ (ts : List DwellTable). MdStands ts [] c.start-5.result) c.dwells.ensures.dwells c.start-5.ensures.stands);
      lc = subst (LcStands tables.wdt tables.adt []) (sym c.begin-6.ensures.state) (subst (λ (adt : List ActRow). LcStands tables.wdt adt [] c.start-6.result) c.adt.ensures (c.start-6.ensures tables.wdt));
    }

pub returns-clause-ready : goal.returns-clause-ready
returns-clause-ready c =
    let tables = c.args.tables.now.set in
    record {
      sc = subst (ScIsReady tables.sc) (sym c.begin-3.ensures.state) (subst (λ (sc : List (List TimedCommand)). ScIsReady sc c.start-3.result) c.sc.ensures c.start-3.ensures.ready);
      md = λ regions given. subst (AllGiven regions) (sym c.begin-5.ensures.state) (c.start-5.ensures.given regions (subst (TablesGiven regions) (sym c.dwells.ensures.dwells) given));
    }

pub returns-clause-items : goal.returns-clause-items
returns-clause-items c = rw (c.begin.ensures.out, c.begin-2.ensures.out, c.begin-3.ensures.out, c.begin-4.ensures.out, c.begin-5.ensures.out, c.begin-6.ensures.out) refl
