use Rattle.std.proofs.Common.{◌∙◌, ap, sym}
use Rattle.bus_pipes.specs.Held.{adding}
use Rattle.bus_pipes.proofs.Deliveries.{adding_none}
use Rattle.sc_sequences.proofs.Sending.{none_ends}
use Rattle.sc_sequences.proofs.answers.put_end.Goals as goal

pub returns-then-not-ends-clause-items : goal.returns-then-not-ends-clause-items
returns-then-not-ends-clause-items c = λ left is.
    sym (ap (adding c.args.out.now) (none_ends c.args.place c.args.now left (sym c.if-not-ends.true ∙ is)) ∙ adding_none c.args.out.now)
