use Rattle.std.proofs.Common.{◌∙◌, sym, rules}
use Rattle.row_forms.proofs.NumberLemmas.{bit_listed, bit_unlisted, bits_listed}
use Rattle.row_forms.proofs.numbers.push_bits.Goals as goal
use Rattle.row_forms.proofs.numbers.push_bits.Goals.{then-rest-eq1+in_ok-push_bit, else-rest-eq1}

pub loop-bit-preserved : goal.loop-bit-preserved
loop-bit-preserved c = elim c.if-rest-eq1.branch [
  | then-rest-eq1+in_ok-push_bit w ↦ rw (w.out-is, w.led-is, w.in_ok-push_bit.ensures) (c.loop-bit.invariant ∙ bit_listed c.loop-bit.out.items c.loop-bit.led _ _ _ c.loop-bit-test.true w.if-rest-eq1.true)
  | else-rest-eq1 w ↦ rw (w.out-is, w.led-is) (c.loop-bit.invariant ∙ bit_unlisted c.loop-bit.out.items c.loop-bit.led _ _ _ c.loop-bit-test.true (search (rules, w.if-rest-eq1.false)))
]

pub returns : goal.returns
returns c = sym (c.loop-bit.invariant ∙ bits_listed _ _ _ _ _ c.loop-bit-test.false)
