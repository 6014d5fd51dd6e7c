use Rattle.std.proofs.Common.{arith, sym, subst}
use Rattle.table_files.specs.Entries.{first_fault, entries_in}
use Rattle.table_files.proofs.Entries.{where_well_holds}
use Rattle.lc_watch.specs.Actionpoints.{AreAble, row_at, row_reason}
use Rattle.lc_watch.proofs.Ables.{all_able}
use Rattle.lc_watch.proofs.actionpoints.Adt.read.Goals as goal

able_rows : (c : goal.After-read_in_place) → AreAble c.read_in_place.new.place
able_rows c =
    let rows = entries_in row_at 16 c.args.payload.now in
    subst AreAble (sym c.read_in_place.ensures.place) (where_well_holds AreAble rows c.self.inside.rows (first_fault row_reason 1 rows) (all_able 1 rows) c.self.invariant.1)

pub returns-clause-able : goal.returns-clause-able
returns-clause-able c = able_rows c

pub invariant_of-self : goal.invariant_of-self
invariant_of-self c = (omega (arith, c.read_in_place.ensures.same_length), able_rows c)
