use Rattle.std.proofs.Common.{◌∙◌, [], ◌∷◌, take, ap, sym, ℕ, get_or}
use Rattle.std.proofs.lemmas.List.{take_more, take_all}
use Rattle.packet_forms.specs.Crc.{crc_of}
use Rattle.packet_forms.proofs.Checks.{crc_none, crc_both}
use Rattle.packet_forms.proofs.crc.after_each.Goals as goal

pub loop-byte-init : goal.loop-byte-init
loop-byte-init c = sym (crc_none c.args.start)

pub loop-byte-preserved : goal.loop-byte-preserved
loop-byte-preserved c =
    let i = c.loop-byte.byte-index in
    let byte = get_or c.args.bytes.now i 0 in
    c.after_one-crc.ensures
    ∙ ap (λ (k : ℕ). crc_of k (byte ∷ [])) c.loop-byte.invariant
    ∙ sym (crc_both c.args.start (take i c.args.bytes.now) (byte ∷ []))
    ∙ ap (crc_of c.args.start) (sym (take_more c.args.bytes.now i 0 c.loop-byte-test.true))

pub returns : goal.returns
returns c = c.loop-byte.invariant ∙ ap (crc_of c.args.start) (take_all c.loop-byte.byte-index c.args.bytes.now c.loop-byte-test.false)
