use Rattle.std.proofs.Common.{refl}
use Rattle.packet_forms.specs.Numbers.{be16_at, be32_at}
use Rattle.table_files.specs.Entries.{first_fault}
use Rattle.md_dwell.specs.Tables.{entries_in, entry_reason, dwell_fault_of, dwell_of, blank_table}
use Rattle.md_dwell.proofs.laws.blank_dwell.Goals as goal

pub returns : goal.returns
unfolding be16_at be32_at entries_in entry_reason first_fault dwell_fault_of dwell_of blank_table
returns c = record { fault = refl; table = refl }
