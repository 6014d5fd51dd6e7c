use Rattle.std.proofs.Common.{◌∙◌, sym}
use Rattle.cs_slices.proofs.Passes.{stands_renewed, stands_elsewhere}
use Rattle.cs_slices.proofs.passing.Passing.renew.Goals as goal

pub returns-then-table-from : goal.returns-then-table-from
returns-then-table-from c = λ happened stood.
    stands_renewed happened c.args.table c.args.self.now _ stood (c.if-table-from.true ∙ c.from.ensures) c.abandon.ensures.place c.abandon.ensures.offset c.abandon.ensures.check

pub returns-else-table-from : goal.returns-else-table-from
returns-else-table-from c = λ happened stood. stands_elsewhere happened c.args.table c.args.self.now stood (λ same. c.if-table-from.false (same ∙ sym c.from.ensures))
