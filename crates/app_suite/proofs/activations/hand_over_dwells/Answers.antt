use Rattle.std.proofs.Common.{◌-◌, subst, sym, arith}
use Rattle.table_files.specs.Kinds.{IsKnown}
use Rattle.md_dwell.specs.Given.{TablesGiven}
use Rattle.md_dwell.specs.State.{AllGiven}
use Rattle.active_tables.proofs.GivenTables.{given_at}
use Rattle.app_suite.proofs.activations.hand_over_dwells.Goals as goal

pub returns-in-Dwell-clause-given : goal.returns-in-Dwell-clause-given
returns-in-Dwell-clause-given c = λ regions all given.
    let known = subst IsKnown c.in-Dwell.is c.requires in
    let dwells = subst (TablesGiven regions) (sym c.dwells.ensures.dwells) all in
    c.activate.ensures.given regions (given_at regions c.dwells.result.now (c.in-Dwell.n - 1) c.index-dwells-n.result dwells (omega (arith, known, c.dwells.ensures.four)) c.index-dwells-n.is)
    (subst (AllGiven regions) (sym c.deref_mut.ensures.value) given)
