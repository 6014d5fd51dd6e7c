use Rattle.std.proofs.Common.{◌∙◌}
use Rattle.hs_actions.proofs.Paths.{goes_restart, goes_report, stands_restart, stands_report}
use Rattle.hs_actions.proofs.state.Actions.attempt.Goals as goal

pub returns-in-Reset-clause-stands : goal.returns-in-Reset-clause-stands
returns-in-Reset-clause-stands c = λ past a is now stood. c.reset.ensures.stands c.args.acts.now past a (is ∙ c.in-Reset.is) stood

pub returns-in-Reset-clause-went : goal.returns-in-Reset-clause-went
returns-in-Reset-clause-went c = λ past a is now stood. c.reset.ensures.went c.args.acts.now past a (is ∙ c.in-Reset.is) stood

pub returns-in-Restart-clause-stands : goal.returns-in-Restart-clause-stands
returns-in-Restart-clause-stands c = λ past a is now stood. stands_restart c.args.acts.now past c.args.self.now a (is ∙ c.in-Restart.is) stood

pub returns-in-Restart-clause-went : goal.returns-in-Restart-clause-went
returns-in-Restart-clause-went c = λ past a is now stood. goes_restart c.args.acts.now past c.args.self.now a (is ∙ c.in-Restart.is)

pub returns-in-Report-clause-stands : goal.returns-in-Report-clause-stands
returns-in-Report-clause-stands c = λ past a is now stood. stands_report c.args.acts.now past c.args.self.now a (is ∙ c.in-Report.is) stood

pub returns-in-Report-clause-went : goal.returns-in-Report-clause-went
returns-in-Report-clause-went c = λ past a is now stood. goes_report c.args.acts.now past c.args.self.now a (is ∙ c.in-Report.is)

pub returns-in-Message-clause-stands : goal.returns-in-Message-clause-stands
returns-in-Message-clause-stands c = λ past a is now stood. c.send.ensures.stands past a (is ∙ c.in-Message.is) now stood

pub returns-in-Message-clause-went : goal.returns-in-Message-clause-went
returns-in-Message-clause-went c = λ past a is now stood. c.send.ensures.went past a (is ∙ c.in-Message.is) now stood
