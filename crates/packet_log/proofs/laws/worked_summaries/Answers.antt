use Rattle.std.proofs.Common.{refl}
use Rattle.std.specs.Fmt.{digits}
use Rattle.packet_forms.specs.Numbers.{be16_bytes}
use Rattle.packet_forms.specs.Crc.{crc_of, crc_bit, low_bits}
use Rattle.fsw_outside.specs.Tally.{tally_of}
use Rattle.packet_forms.specs.Hex.{hex}
use Rattle.packet_log.specs.Summaries.{summary_text}
use Rattle.packet_log.proofs.laws.worked_summaries.Goals as goal

pub returns : goal.returns
unfolding digits be16_bytes crc_of crc_bit low_bits tally_of hex summary_text
returns c = record { numbers = refl; digits = refl; line = refl }
