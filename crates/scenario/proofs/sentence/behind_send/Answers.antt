use Rattle.scenario.proofs.BeginLemmas.{send_begins}
use Rattle.scenario.proofs.sentence.behind_send.Goals as goal

pub returns-in-Some : goal.returns-in-Some
returns-in-Some c = send_begins c.args.line.now c.in-Some.rest.now c.in-Some.ensures.cases.0 c.in-Some.ensures.cases.1
