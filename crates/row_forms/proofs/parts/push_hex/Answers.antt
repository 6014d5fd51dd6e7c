use Rattle.std.proofs.Common.{sym, append_assoc, append-nil}
use Rattle.packet_forms.specs.Hex.{hex}
use Rattle.row_forms.proofs.PartsLemmas.{hex_more}
use Rattle.row_forms.proofs.parts.push_hex.Goals as goal

pub loop-byte-init : goal.loop-byte-init
unfolding hex
loop-byte-init c = sym (append-nil _)

pub loop-byte-preserved : goal.loop-byte-preserved
loop-byte-preserved c =
    let more = hex_more c.args.bytes.now c.loop-byte.byte-index c.loop-byte-test.true in
    rw (more, ← append_assoc) (cc (c.in_ok-extend_from_slice.ensures.items, c.loop-byte.invariant, c.hex_digit.ensures, c.hex_digit-in-loop-byte.ensures))
