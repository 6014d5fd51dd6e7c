use Rattle.std.proofs.Common.{◌+◌, ◌∙◌, sym, ap, arith, Some, ℕ}
use Rattle.row_forms.proofs.NumberLemmas.{bits_bad, bits_one, bits_more, bits_end, bit_power}
use Rattle.row_forms.specs.Numbers.{bits_said}
use Rattle.row_forms.proofs.numbers.+bits_number.Goals as goal

pub returns-in_default-clause-value : goal.returns-in_default-clause-value
returns-in_default-clause-value t c = bits_bad _ _ c.split_part.result.0.now c.args.text.now c.split_part.result.1 c.split_part.ensures.parts c.in_default.ensures.value

pub returns-in_default-rest-clause-value : goal.returns-in_default-rest-clause-value
returns-in_default-rest-clause-value t c =
    let parts = rw c.in_default-rest.is at c.split_part.ensures.parts in
    let power = bit_power c.args.bits c.args.last c.in-Some.bit c.requires c.in-Some.ensures.above c.in-Some.ensures.within in
    let one = bits_one _ _ _ _ (sym c.in-Some.ensures.value) in
    ap Some (power.whole ∙ omega arith) ∙ sym one ∙ ap (bits_said c.args.bits c.args.last) (sym parts)

pub returns-in_default-rest-clause-bound : goal.returns-in_default-rest-clause-bound
returns-in_default-rest-clause-bound t c =
    let power = bit_power c.args.bits c.args.last c.in-Some.bit c.requires c.in-Some.ensures.above c.in-Some.ensures.within in
    omega (arith, power.above, power.within, power.whole)

pub overflow_add-result : goal.overflow_add-result
overflow_add-result t c =
    let power = bit_power c.args.bits c.args.last c.in-Some.bit c.requires c.in-Some.ensures.above c.in-Some.ensures.within in
    let bound = c.in-Some-bits_number.ensures.bound in
    omega (arith, power.within, power.whole, power.fits, power.twice, bound)

pub returns-in-Some-bits_number-clause-value : goal.returns-in-Some-bits_number-clause-value
returns-in-Some-bits_number-clause-value t c =
    let parts = rw c.in-Some-rest.is at c.split_part.ensures.parts in
    let power = bit_power c.args.bits c.args.last c.in-Some.bit c.requires c.in-Some.ensures.above c.in-Some.ensures.within in
    let more = bits_more _ _ _ _ _ _ (sym c.in-Some.ensures.value) (sym c.in-Some-bits_number.ensures.value) in
    ap (λ (n : ℕ). Some (n + c.in-Some-bits_number.more)) power.whole ∙ sym more ∙ ap (bits_said c.args.bits c.args.last) (sym parts)

pub returns-in-Some-bits_number-clause-bound : goal.returns-in-Some-bits_number-clause-bound
returns-in-Some-bits_number-clause-bound t c =
    let power = bit_power c.args.bits c.args.last c.in-Some.bit c.requires c.in-Some.ensures.above c.in-Some.ensures.within in
    let bound = c.in-Some-bits_number.ensures.bound in
    omega (arith, power.above, power.twice, power.whole, bound)

pub returns-in-None-clause-value : goal.returns-in-None-clause-value
returns-in-None-clause-value t c =
    let parts = rw c.in-Some-rest.is at c.split_part.ensures.parts in
    let more = bits_end _ _ _ _ _ (sym c.in-Some.ensures.value) (sym c.in-None.ensures.value) in
    sym more ∙ ap (bits_said c.args.bits c.args.last) (sym parts)
