use Rattle.std.proofs.Common.{refl}
use Rattle.packet_forms.specs.Numbers.{be32_at}
use Rattle.table_files.specs.Kinds.{is_padded, named_kind, rts_tables}
use Rattle.table_files.specs.Headers.{content_type, subtype, table_offset, table_size, table_name, load_size, load_crc, fault_of_table, file_fault_of, is_load, kind_of_file, payload_of_file, address_of_file}
use Rattle.table_files.specs.Files.{loads_of}
use Rattle.table_files.proofs.laws.header_rows.Goals as goal

pub returns : goal.returns
unfolding be32_at is_padded named_kind rts_tables content_type subtype table_offset table_size table_name load_size load_crc fault_of_table file_fault_of is_load kind_of_file payload_of_file address_of_file loads_of
returns c = record {
  content = refl;
  sort = refl;
  offset = refl;
  size = refl;
  name = refl;
  kind = refl;
  payload = refl;
  load = refl;
  address = refl;
  load_size = refl;
  load_crc = refl;
  bytes = refl;
  loads = refl;
  load_sizes = refl;
}
