use Rattle.std.proofs.Common.{List, arith, sym, subst}
use Rattle.table_files.specs.Entries.{first_fault, entries_in}
use Rattle.table_files.proofs.Entries.{where_well_holds}
use Rattle.hs_tables.specs.Events.{AreListed, row_at, row_reason}
use Rattle.hs_tables.specs.declared.events.EventRow.{EventRow}
use Rattle.hs_tables.proofs.Listed.{events_listed}
use Rattle.hs_tables.proofs.events.EventMon.read.Goals as goal

pub invariant_of-self : goal.invariant_of-self
invariant_of-self c =
    let rows = entries_in row_at 16 c.args.payload.now in
    let held = where_well_holds (λ (rows : List EventRow). AreListed rows) rows c.self.inside.rows (first_fault row_reason 1 rows) (events_listed 1 rows) c.self.invariant.1 in
    (omega (arith, c.read_in_place.ensures.same_length), subst (λ (rows : List EventRow). AreListed rows) (sym c.read_in_place.ensures.place) held)
