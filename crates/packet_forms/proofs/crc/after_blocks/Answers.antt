use Rattle.std.proofs.Common.{◌≡◌, ◌*◌, ◌/◌, ◌∙◌, take, ap, sym, ℕ, arith, length}
use Rattle.packet_forms.specs.Crc.{crc_of}
use Rattle.packet_forms.proofs.Checks.{crc_none, block_more}
use Rattle.packet_forms.proofs.crc.after_blocks.Goals as goal

pub loop-k-init : goal.loop-k-init
loop-k-init c = sym (crc_none c.args.start)

pub loop-k-preserved : goal.loop-k-preserved
loop-k-preserved c = block_more c.args.start c.loop-k.crc c.after_eight-crc.result c.loop-k.k _ c.args.bytes.now (omega arith) c.loop-k.invariant c.after_eight-crc.ensures

pub returns : goal.returns
returns c =
    let whole : 8 * c.loop-k.k ≡ length c.args.bytes.now / 8 * 8 = omega arith in
    c.loop-k.invariant ∙ ap (λ (n : ℕ). crc_of c.args.start (take n c.args.bytes.now)) whole
