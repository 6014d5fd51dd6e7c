use Rattle.std.proofs.Common.{[], ◌∷◌, arith}
use Rattle.std.proofs.lemmas.Grind.{common_steps}
use Rattle.rehearsal_tests.proofs.tests.frames.run_noop.Goals as goal

pub frame-answer-requires-clause-started : goal.frame-answer-requires-clause-started
frame-answer-requires-clause-started g c = λ _ _.
    (_, c.frame-sends.result.now ∷ [], c.in-Ok-frame.ensures.stands _ [] c.in-Ok-open.ensures.stands, record { time = omega arith; upsets = λ at upset less. grind (arith, common_steps) })
