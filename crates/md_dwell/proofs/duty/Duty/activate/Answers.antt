use Rattle.std.proofs.Common.{◌≡◌, refl, arith}
use Rattle.md_dwell.proofs.Activating.{taken, kept_apart}
use Rattle.md_dwell.proofs.duty.Duty.activate.Goals as goal

pub returns-in-1-clause-stands : goal.returns-in-1-clause-stands
returns-in-1-clause-stands c = λ tables history stood.
    record {
      first = taken tables history c.args.n 1 c.args.table.now _ (rw c.in-1.is refl) c.activate.ensures.stands;
      second = kept_apart tables history c.args.n 2 c.args.table.now _ (rw c.in-1.is refl) stood.second;
      third = kept_apart tables history c.args.n 3 c.args.table.now _ (rw c.in-1.is refl) stood.third;
      fourth = kept_apart tables history c.args.n 4 c.args.table.now _ (rw c.in-1.is refl) stood.fourth;
    }

pub returns-in-2-clause-stands : goal.returns-in-2-clause-stands
returns-in-2-clause-stands c = λ tables history stood.
    record {
      first = kept_apart tables history c.args.n 1 c.args.table.now _ (rw c.in-2.is refl) stood.first;
      second = taken tables history c.args.n 2 c.args.table.now _ (rw c.in-2.is refl) c.activate-in-2.ensures.stands;
      third = kept_apart tables history c.args.n 3 c.args.table.now _ (rw c.in-2.is refl) stood.third;
      fourth = kept_apart tables history c.args.n 4 c.args.table.now _ (rw c.in-2.is refl) stood.fourth;
    }

pub returns-in-3-clause-stands : goal.returns-in-3-clause-stands
returns-in-3-clause-stands c = λ tables history stood.
    record {
      first = kept_apart tables history c.args.n 1 c.args.table.now _ (rw c.in-3.is refl) stood.first;
      second = kept_apart tables history c.args.n 2 c.args.table.now _ (rw c.in-3.is refl) stood.second;
      third = taken tables history c.args.n 3 c.args.table.now _ (rw c.in-3.is refl) c.activate-in-3.ensures.stands;
      fourth = kept_apart tables history c.args.n 4 c.args.table.now _ (rw c.in-3.is refl) stood.fourth;
    }

pub returns-in_default-clause-stands : goal.returns-in_default-clause-stands
returns-in_default-clause-stands c = λ tables history stood.
    let is : c.args.n ≡ 4 = omega arith in
    record {
      first = kept_apart tables history c.args.n 1 c.args.table.now _ (rw is refl) stood.first;
      second = kept_apart tables history c.args.n 2 c.args.table.now _ (rw is refl) stood.second;
      third = kept_apart tables history c.args.n 3 c.args.table.now _ (rw is refl) stood.third;
      fourth = taken tables history c.args.n 4 c.args.table.now _ (rw is refl) c.activate-in_default.ensures.stands;
    }
