use Rattle.ground_tools.proofs.Appending.{appends_none, appends_on}
use Rattle.ground_tools.proofs.scenario_tellers.ScenarioTeller.tell_files_once.Goals as goal

pub returns-then-self : goal.returns-then-self
returns-then-self g c = appends_none c.args.out.now.items

pub returns : goal.returns
returns g c =
    appends_on c.args.out.now.items c.tell_files.new.out.items c.push_three.new.out.items
    (_, c.in_ok-tell_files.ensures) (_, c.in_ok-push_three.ensures)
