use Rattle.shown_plans.proofs.PlainLemmas.{plain_keeps, scenario_keeps}
use Rattle.shown_plans.proofs.laws.plain_lines_keep_frames.Goals as goal

pub returns-clause-plain : goal.returns-clause-plain
returns-clause-plain c = scenario_keeps

pub returns-clause-shown : goal.returns-clause-shown
returns-clause-shown c = plain_keeps
