use Rattle.plan_text.proofs.TimeLemmas.{digits_small, scenario_digits_are}
use Rattle.plan_text.proofs.times.short_digits.Goals as goal

pub returns-clause-bound : goal.returns-clause-bound
returns-clause-bound c = rw (c.digits.ensures, scenario_digits_are 10 c.args.room c.args.word.now) (digits_small c.args.room c.args.word.now c.requires)
