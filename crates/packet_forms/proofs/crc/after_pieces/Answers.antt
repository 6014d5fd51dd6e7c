use Rattle.std.proofs.Common.{◌≡◌, ◌*◌, ◌/◌, ◌∙◌, take, ap, sym, ℕ, arith, length}
use Rattle.packet_forms.specs.Crc.{crc_of}
use Rattle.packet_forms.proofs.Checks.{crc_none, piece_more}
use Rattle.packet_forms.proofs.crc.after_pieces.Goals as goal

pub loop-k-init : goal.loop-k-init
loop-k-init c = sym (crc_none c.args.start)

pub loop-k-preserved : goal.loop-k-preserved
loop-k-preserved c =
    piece_more c.args.start c.loop-k.crc c.after_words-crc.result c.loop-k.k _ c.args.bytes.now (omega arith) (omega (arith, c.loop-k-test.true)) c.loop-k.invariant c.after_words-crc.ensures

pub returns : goal.returns
returns c =
    let whole : 1024 * c.loop-k.k ≡ length c.args.bytes.now / 1024 * 1024 = omega arith in
    c.loop-k.invariant ∙ ap (λ (n : ℕ). crc_of c.args.start (take n c.args.bytes.now)) whole
