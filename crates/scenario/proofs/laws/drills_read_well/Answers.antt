use Rattle.scenario.specs.DrillLaws.{drills_end_well, drills_are_long}
use Rattle.scenario.proofs.laws.drills_read_well.Goals as goal

pub returns-clause-ended : goal.returns-clause-ended
returns-clause-ended c = drills_end_well

pub returns-clause-items : goal.returns-clause-items
returns-clause-items c = drills_are_long
