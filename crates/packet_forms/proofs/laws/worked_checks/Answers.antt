use Rattle.std.proofs.Common.{refl}
use Rattle.packet_forms.specs.Crc.{low_bits, crc_bit, crc_of}
use Rattle.packet_forms.proofs.laws.worked_checks.Goals as goal

pub returns : goal.returns
unfolding low_bits crc_bit crc_of
returns c = record { digits = refl; from_ones = refl }
