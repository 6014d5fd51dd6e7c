use Rattle.std.proofs.Common.{refl}
use Rattle.packet_forms.specs.Numbers.{be32_at}
use Rattle.packet_forms.specs.Crc.{low_bits, crc_bit, crc_of}
use Rattle.table_files.specs.Headers.{content_type, subtype, load_size, load_crc, fault_of_load, file_fault_of}
use Rattle.table_files.proofs.laws.load_fault_rows.Goals as goal

pub returns : goal.returns
unfolding be32_at low_bits crc_bit crc_of content_type subtype load_size load_crc fault_of_load file_fault_of
returns c = record { none = refl; reserved = refl; alone = refl; empty = refl; later = refl }
