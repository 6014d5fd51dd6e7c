use Rattle.std.proofs.Common.{get_or, arith}
use Rattle.std.proofs.lemmas.List.{get_or_default}
use Rattle.md_dwell.specs.Tables.{blank_table}
use Rattle.md_dwell.specs.Given.{TablesGiven}
use Rattle.md_dwell.proofs.Turns.{table_start}
use Rattle.md_dwell.proofs.duty.Duty.start.Goals as goal

pub returns-clause-stands : goal.returns-clause-stands
returns-clause-stands c =
    let tables = c.args.tables.now in
    record {
      first = table_start tables 1 (get_or c.args.tables.now 0 c.index-tables-0.result) c.start.result (get_or_default tables 0 c.index-tables-0.result blank_table (omega arith)) c.start.ensures.stands;
      second = table_start tables 2 (get_or c.args.tables.now 1 c.index-tables-1.result) c.start-2.result (get_or_default tables 1 c.index-tables-1.result blank_table (omega arith)) c.start-2.ensures.stands;
      third = table_start tables 3 (get_or c.args.tables.now 2 c.index-tables-2.result) c.start-3.result (get_or_default tables 2 c.index-tables-2.result blank_table (omega arith)) c.start-3.ensures.stands;
      fourth = table_start tables 4 (get_or c.args.tables.now 3 c.index-tables-3.result) c.start-4.result (get_or_default tables 3 c.index-tables-3.result blank_table (omega arith)) c.start-4.ensures.stands;
    }

pub returns-clause-given : goal.returns-clause-given
unfolding TablesGiven
returns-clause-given c = λ regions given.
    record {
      first = rw (c.start.ensures.plan, c.index-tables-0.is) (given 0 _ (omega arith));
      second = rw (c.start-2.ensures.plan, c.index-tables-1.is) (given 1 _ (omega arith));
      third = rw (c.start-3.ensures.plan, c.index-tables-2.is) (given 2 _ (omega arith));
      fourth = rw (c.start-4.ensures.plan, c.index-tables-3.is) (given 3 _ (omega arith));
    }
