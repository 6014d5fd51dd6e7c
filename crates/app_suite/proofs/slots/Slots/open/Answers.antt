use Rattle.std.proofs.Common.{List, [], sym, subst}
use Rattle.cs_slices.specs.declared.segments.Segment.{Segment}
use Rattle.cs_slices.specs.Tables.{pair_of}
use Rattle.cs_slices.specs.State.{Stands as CsStands}
use Rattle.md_dwell.specs.Given.{TablesGiven}
use Rattle.md_dwell.specs.State.{Stands as MdStands, AllGiven}
use Rattle.md_dwell.specs.Tables.{DwellTable}
use Rattle.sc_tables.specs.Commands.{TimedCommand}
use Rattle.sc_sequences.specs.Histories.{begun_at}
use Rattle.sc_sequences.specs.State.{Stands as ScStands, IsReady as ScIsReady}
use Rattle.mm_core.specs.State.{Stands as MmStands}
use Rattle.hs_tables.specs.declared.tables.HsTables.{HsTables}
use Rattle.hs_monitors.specs.Histories.{setup_of}
use Rattle.hs_monitors.specs.State.{Stands as HsStands}
use Rattle.lc_watch.specs.State.{Stands as LcStands}
use Rattle.lc_watch.specs.declared.actionpoints.ActRow.{ActRow}
use Rattle.app_suite.specs.Applications.{cs_tables}
use Rattle.app_suite.proofs.slots.Slots.open.Goals as goal

pub returns : goal.returns
returns c =
    let tables = c.args.tables.now.set in
    let time = c.args.time in
    record {
      hs = subst (HsStands (setup_of tables.hs 0 3) []) (sym c.in_ok-open.ensures.state) (subst (λ (hs : HsTables). HsStands (setup_of hs 0 3) [] c.start.result) c.hs.ensures c.start.ensures);
      cs = subst (CsStands (cs_tables tables) []) (sym c.in_ok-open-2.ensures.state)
          (subst (λ (memory : List Segment). CsStands (pair_of tables.eeprom memory) [] c.start-2.result) c.memory.ensures
          (subst (λ (eeprom : List Segment). CsStands (pair_of eeprom c.memory.result.now) [] c.start-2.result) c.eeprom.ensures c.start-2.ensures));
      sc = subst (ScStands (begun_at time tables.sc) []) (sym c.in_ok-open-3.ensures.state) (subst (λ (sc : List (List TimedCommand)). ScStands (begun_at time sc) [] c.start-3.result) c.sc.ensures c.start-3.ensures.stands);
      ready = subst (ScIsReady tables.sc) (sym c.in_ok-open-3.ensures.state) (subst (λ (sc : List (List TimedCommand)). ScIsReady sc c.start-3.result) c.sc.ensures c.start-3.ensures.ready);
      mm = subst (MmStands []) (sym c.in_ok-open-4.ensures.state) c.start-4.ensures;
      md = subst (MdStands tables.dwells []) (sym c.in_ok-open-5.ensures.state) (subst (λ (ts : List DwellTable). MdStands ts [] c.start-5.result) c.dwells.ensures.dwells c.start-5.ensures.stands);
      given = λ regions gives. subst (AllGiven regions) (sym c.in_ok-open-5.ensures.state) (c.start-5.ensures.given regions (subst (TablesGiven regions) (sym c.dwells.ensures.dwells) gives));
      lc = subst (LcStands tables.wdt tables.adt []) (sym c.in_ok-open-6.ensures.state) (subst (λ (adt : List ActRow). LcStands tables.wdt adt [] c.start-6.result) c.adt.ensures (c.start-6.ensures tables.wdt));
      there = c.in_ok-open-6.ensures.there;
    }
