use Rattle.std.proofs.Common.{refl}
use Rattle.packet_forms.specs.Numbers.{be32_at}
use Rattle.table_files.specs.Kinds.{is_padded, named_kind, rts_tables}
use Rattle.table_files.specs.Headers.{content_type, subtype, table_offset, table_size, table_name, fault_of_table, file_fault_of}
use Rattle.table_files.proofs.laws.fault_order_rows.Goals as goal

pub returns : goal.returns
unfolding be32_at is_padded named_kind rts_tables content_type subtype table_offset table_size table_name fault_of_table file_fault_of
returns c = record { none = refl; alone = refl; longer = refl; first = refl; later = refl }
