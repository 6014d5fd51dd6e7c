use Rattle.timed_plans.proofs.ItemLemmas.{send_says, counter_says}
use Rattle.timed_plans.proofs.laws.items_say_their_values.Goals as goal

pub returns-clause-sends : goal.returns-clause-sends
returns-clause-sends c = send_says

pub returns-clause-counters : goal.returns-clause-counters
returns-clause-counters c = counter_says
