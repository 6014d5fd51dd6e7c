use Rattle.ground_tools.proofs.SurveyLemmas.{surveys_none}
use Rattle.ground_tools.proofs.survey.Survey.new.Goals as goal

pub returns : goal.returns
returns c = surveys_none _ c.new.ensures c.new-3.ensures.items
