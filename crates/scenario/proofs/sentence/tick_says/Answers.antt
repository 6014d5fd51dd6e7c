use Rattle.std.proofs.Common.{[], sym, ◌∙◌}
use Rattle.scenario.proofs.BeginLemmas.{tick_well, begun_badly}
use Rattle.scenario.specs.declared.sentence.Verb.TheVariants as verbs
use Rattle.scenario.proofs.sentence.tick_says.Goals as goal

pub returns-then-may_stand-clause-value : goal.returns-then-may_stand-clause-value
returns-then-may_stand-clause-value c = λ line b. tick_well c.args.place line b (sym c.may_stand.ensures ∙ c.if-may_stand.true)

pub returns-else-may_stand-clause-value : goal.returns-else-may_stand-clause-value
returns-else-may_stand-clause-value c = λ line b. begun_badly c.args.place line verbs.Tick [] b (sym c.may_stand.ensures ∙ c.if-may_stand.false)
