use Rattle.std.specs.Prelude.{bit_xor}
use Rattle.packet_forms.proofs.Folding.{two_bytes}
use Rattle.packet_forms.proofs.fold.after_word.Goals as goal

pub returns : goal.returns
returns c = rw (c.entry.ensures, c.entry-2.ensures) (two_bytes (bit_xor c.args.crc c.args.word))
