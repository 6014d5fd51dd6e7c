use Rattle.std.proofs.Common.{refl}
use Rattle.packet_forms.specs.Numbers.{be16_at, be32_at}
use Rattle.table_files.specs.Entries.{first_fault}
use Rattle.md_dwell.specs.Tables.{entries_in, entry_reason, dwell_fault_of, dwell_of}
use Rattle.md_dwell.proofs.laws.table_rows.Goals as goal

pub returns : goal.returns
unfolding be16_at be32_at first_fault entries_in entry_reason dwell_fault_of dwell_of
returns c = record {
  entry = refl;
  last = refl;
  accepted = refl;
  length = refl;
  flag = refl;
  alignment = refl;
}
