use Rattle.std.proofs.Common.{arith}
use Rattle.lc_watch.proofs.Showing.{codes_none, codes_step, codes_whole, codes_fit, four_more}
use Rattle.lc_watch.proofs.outcomes.codes_of.Goals as goal

pub loop-done-init : goal.loop-done-init
loop-done-init c = record { small = omega arith; codes = codes_none c.args.outcomes.now c.told-outcomes }

pub overflow_mul-codes : goal.overflow_mul-codes
overflow_mul-codes c = let fits = codes_fit c.loop-done.done c.loop-done-test.true in let small = c.loop-done.invariant.small in omega (arith, fits, small)

pub overflow_add-codes : goal.overflow_add-codes
overflow_add-codes c =
    let fits = codes_fit c.loop-done.done c.loop-done-test.true in
    let small = c.loop-done.invariant.small in
    let code = c.code_of.ensures.small in
    omega (arith, fits, small, code)

pub loop-done-preserved : goal.loop-done-preserved
loop-done-preserved c =
    let small = c.loop-done.invariant.small in
    let code = c.code_of.ensures.small in
    let more = four_more c.loop-done.done in
    record {
      small = omega (arith, small, code, more);
      codes = codes_step c.args.outcomes.now c.loop-done.done c.loop-done.codes c.code_of.result c.told-outcomes c.loop-done-test.true c.loop-done.invariant.codes c.code_of.ensures.code;
    }

pub returns : goal.returns
returns c = codes_whole c.args.outcomes.now c.loop-done.done c.loop-done.codes c.loop-done-test.false c.loop-done.invariant.codes
