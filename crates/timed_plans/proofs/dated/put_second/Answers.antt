use Rattle.std.proofs.Common.{refl, arith}
use Rattle.std.specs.Prelude.{decimal}
use Rattle.timed_plans.proofs.DatedLemmas.{second_put, second_alone}
use Rattle.timed_plans.proofs.dated.put_second.Goals as goal

pub returns-in-Ok : goal.returns-in-Ok
returns-in-Ok c =
    let put = second_put c.args.out.now.items c.extend_from_slice.new.self.items c.push_decimal.new.out.items (decimal c.args.second) c.in_default.ensures.items c.in-Ok.ensures in
    (_, refl, put, second_alone c.args.second (omega arith))
