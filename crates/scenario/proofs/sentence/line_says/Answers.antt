use Rattle.std.proofs.Common.{Option, Result, sym, subst, ◌∙◌}
use Rattle.scenario.specs.declared.reason.Reason.{Reason}
use Rattle.scenario.specs.declared.sentence.Sentence.{Sentence}
use Rattle.scenario.specs.declared.sentence.Verb.TheVariants as verbs
use Rattle.scenario.specs.Words.{words}
use Rattle.scenario.specs.Sentences.{Gives, sentence_of}
use Rattle.scenario.proofs.BeginLemmas.{begun_well, begun_badly}
use Rattle.scenario.proofs.sentence.line_says.Goals as goal

pub returns-then-may_stand-clause-value : goal.returns-then-may_stand-clause-value
unfolding sentence_of
returns-then-may_stand-clause-value c =
    subst (λ (read : Result (Option Sentence) Reason). Gives (λ _. c.send_line.new.said) c.send_line.result read)
    (sym (begun_well c.args.place c.args.line.now verbs.Send (words c.in-Some.rest.now) c.in-Some.ensures (sym c.may_stand.ensures ∙ c.if-may_stand.true)))
    c.send_line.ensures.value

pub returns-else-may_stand-clause-value : goal.returns-else-may_stand-clause-value
returns-else-may_stand-clause-value c = begun_badly c.args.place c.args.line.now verbs.Send (words c.in-Some.rest.now) c.in-Some.ensures (sym c.may_stand.ensures ∙ c.if-may_stand.false)
