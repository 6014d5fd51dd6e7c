use Rattle.std.proofs.Common.{refl}
use Rattle.packet_forms.specs.Numbers.{be16_at, be32_at}
use Rattle.table_files.specs.Entries.{first_fault, entries_in}
use Rattle.lc_watch.specs.Expressions.{words_at, values_left}
use Rattle.lc_watch.specs.Watchpoints as w
use Rattle.lc_watch.specs.Actionpoints as a
use Rattle.lc_watch.proofs.laws.blank_tables.Goals as goal

pub returns : goal.returns
unfolding be16_at be32_at first_fault entries_in words_at values_left w.row_reason w.rows_of w.rows_fault_of w.blank_rows a.row_reason a.rows_of a.rows_fault_of a.blank_rows
returns c = record {
  watch_fault = refl;
  watch = refl;
  act_fault = refl;
  act = refl;
}
