use Rattle.std.proofs.Common.{refl}
use Rattle.packet_forms.specs.Numbers.{be16_at, be32_at}
use Rattle.table_files.specs.Entries.{first_fault}
use Rattle.cs_slices.specs.Tables.{segments_of, segment_reason, segments_fault_of}
use Rattle.cs_slices.proofs.laws.table_rows.Goals as goal

pub returns : goal.returns
unfolding be16_at be32_at first_fault segments_of segment_reason segments_fault_of
returns c = record {
  first = refl;
  last = refl;
  accepted = refl;
  state = refl;
  size = refl;
}
