use Rattle.std.proofs.Common.{◌≤◌, ◌-◌, arith}
use Rattle.lc_watch.proofs.Serving.{plain_ordered, one_ordered}
use Rattle.lc_watch.proofs.duty.Duty.obey.Goals as goal

pub returns-in-Plain : goal.returns-in-Plain
returns-in-Plain c = λ setup history orders stood.
    rw c.in-Plain.is (record { outcomes = stood.outcomes; points = plain_ordered setup history orders c.args.self.now.points stood.points; fired = stood.fired; calm = stood.calm })

pub returns-in-Switch : goal.returns-in-Switch
returns-in-Switch c = λ setup history orders stood.
    let number = c.in-Switch.number in
    let named : (1 ≤ number) × (number ≤ 16) = rw c.in-Switch.is at c.requires in
    let least : 1 ≤ number = named.0 in
    let most : number ≤ 16 = named.1 in
    rw c.in-Switch.is (record {
      outcomes = stood.outcomes;
      points = one_ordered setup history orders c.args.self.now.points number (number - 1) c.in-Switch.on c.set.result (omega arith) (omega arith) c.set.ensures stood.points;
      fired = stood.fired;
      calm = λ is. cc;
    })
