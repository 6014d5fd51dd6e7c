use Rattle.ground_tools.proofs.Appending.{appends_none}
use Rattle.ground_tools.proofs.scenario_tellers.tell_counters.Goals as goal

pub returns-in_ok-tell-in-Some : goal.returns-in_ok-tell-in-Some
returns-in_ok-tell-in-Some c = (_, c.in_ok-tell-in-Some.ensures.told)

pub returns-in-None : goal.returns-in-None
returns-in-None c = appends_none c.args.out.now.items
