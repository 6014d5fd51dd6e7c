use Rattle.std.proofs.Common.{◌+◌, ◌<◌, ◌^◌, ◌*◌, false, refl, arith}
use Rattle.histories.proofs.Masks.{twice, mask_fits, bits_small, mask_none, mask_step, mask_whole}
use Rattle.histories.proofs.bits.bits_of.Goals as goal
use Rattle.histories.proofs.bits.bits_of.Goals.{After-bit_of}

pub loop-done-init : goal.loop-done-init
loop-done-init c = record { mask = mask_none c.args.bits.now; small = omega arith }

small : (c : After-bit_of) → 2 * c.loop-done.mask + c.bit_of.result < 2 ^ (c.loop-done.done + 1)
small c = let double = twice c.loop-done.done in omega (arith, double)

pub overflow_mul-mask : goal.overflow_mul-mask
overflow_mul-mask c = let within = mask_fits c.loop-done.done (omega arith) in omega (arith, within)

pub overflow_add-mask : goal.overflow_add-mask
overflow_add-mask c = let within = mask_fits c.loop-done.done (omega arith) in omega (arith, within)

pub loop-done-preserved : goal.loop-done-preserved
loop-done-preserved c = record {
  mask = mask_step c.args.bits.now c.loop-done.done c.loop-done.mask c.bit_of.result _ false c.loop-done-test.true c.loop-done.invariant.mask refl c.bit_of.ensures.bit;
  small = small c;
}

pub returns-clause-bits : goal.returns-clause-bits
returns-clause-bits c = mask_whole c.args.bits.now c.loop-done.done c.loop-done.mask c.loop-done-test.false c.loop-done.invariant.mask

pub returns-clause-small : goal.returns-clause-small
returns-clause-small c = rw (returns-clause-bits c) (bits_small c.args.bits.now)
