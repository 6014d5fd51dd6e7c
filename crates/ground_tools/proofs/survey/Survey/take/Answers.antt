use Rattle.std.proofs.Common.{◌++◌, take, subst}
use Rattle.ground_tools.specs.Surveys.{Surveys}
use Rattle.ground_tools.proofs.TellingLemmas.{part_fits}
use Rattle.ground_tools.proofs.SurveyLemmas.{parts_surveyed}
use Rattle.ground_tools.proofs.survey.Survey.take.Goals as goal

pub lines-preserved : goal.lines-preserved
lines-preserved c = record {
  surveys = λ log s.
      parts_surveyed c.take_line.new.self log c.args.piece.now c.lines.taken c.in_ok-step.step
      (subst (λ xs. Surveys c.take_line.new.self ((log ++ take c.lines.taken c.args.piece.now) ++ take c.in_ok-step.step xs)) c.behind.ensures
      (c.in_ok-step.ensures.surveys (log ++ take c.lines.taken c.args.piece.now) (c.lines.invariant.surveys log s)));
  taken = part_fits c.args.piece.now c.behind.result.now c.lines.taken c.in_ok-step.step c.lines.invariant.taken c.behind.ensures c.in_ok-step.ensures.taken;
}
