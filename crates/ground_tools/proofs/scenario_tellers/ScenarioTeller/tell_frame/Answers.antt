use Rattle.ground_tools.proofs.Appending.{appends_on}
use Rattle.ground_tools.proofs.scenario_tellers.ScenarioTeller.tell_frame.Goals as goal

pub returns : goal.returns
returns g c =
    appends_on c.args.out.now.items c.tell.new.out.items c.tell_inputs.new.out.items
    (appends_on c.args.out.now.items c.tell_counters.new.out.items c.tell.new.out.items c.in_ok-tell_counters.ensures (_, c.in_ok-tell.ensures.told))
    (_, c.in_ok-tell_inputs.ensures)
