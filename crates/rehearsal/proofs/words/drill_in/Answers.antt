use Rattle.std.proofs.Common.{◌≤◌, sym, arith}
use Rattle.rehearsal.proofs.Numbers.{few_digits}
use Rattle.rehearsal.proofs.words.drill_in.Goals as goal

pub overflow_cast-result : goal.overflow_cast-result
overflow_cast-result c =
    let few : c.in-Some.number ≤ 999999 = few_digits _ c.in-Some.number (sym c.in-Some.ensures) in
    omega (arith, few)

pub returns-clause-range : goal.returns-clause-range
returns-clause-range c = few_digits _ c.in-Some.number (sym c.in-Some.ensures)
