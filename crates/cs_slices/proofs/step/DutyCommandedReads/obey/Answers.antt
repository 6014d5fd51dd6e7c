use Rattle.cs_slices.specs.Histories.{tables_after, happened_of}
use Rattle.cs_slices.proofs.Histories.{stands_ordered}
use Rattle.cs_slices.proofs.Tallying.{tally_ordered}
use Rattle.cs_slices.proofs.step.DutyCommandedReads.obey.Goals as goal

pub returns-clause-stands : goal.returns-clause-stands
returns-clause-stands c = λ turn orders belongs stood.
    stands_ordered (tables_after turn.setup turn.history) (happened_of turn.setup turn.history) orders c.args.instruction.now _ (record {
      switches = c.obey.ensures _ _ stood.switches;
      passing = c.obey-2.ensures _ stood.passing;
      tally = tally_ordered _ c.args.instruction.now c.args.self.now.tally stood.tally;
    })
