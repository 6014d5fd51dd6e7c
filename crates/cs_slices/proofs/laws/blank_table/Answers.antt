use Rattle.std.proofs.Common.{refl}
use Rattle.packet_forms.specs.Numbers.{be16_at, be32_at}
use Rattle.table_files.specs.Entries.{first_fault}
use Rattle.cs_slices.specs.Tables.{segments_of, segment_reason, segments_fault_of, blank_segments}
use Rattle.cs_slices.proofs.laws.blank_table.Goals as goal

pub returns : goal.returns
unfolding be16_at be32_at segments_of segment_reason first_fault segments_fault_of blank_segments
returns c = record { fault = refl; table = refl }
