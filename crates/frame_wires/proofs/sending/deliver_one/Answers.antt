use Rattle.frame_wires.proofs.Offers.{offers_one, drops_of_one, offers_none, drops_of_none}
use Rattle.frame_wires.proofs.sending.deliver_one.Goals as goal

pub returns-in-Made-clause-after : goal.returns-in-Made-clause-after
returns-in-Made-clause-after c = rw c.in-Made.is (offers_one c.args.bus.now c.route.new.self c.in-Made.packet c.route.ensures.after)

pub returns-in-Made-clause-drops : goal.returns-in-Made-clause-drops
returns-in-Made-clause-drops c = rw c.in-Made.is (drops_of_one c.args.bus.now c.args.drops.now c.route.new.drops c.in-Made.packet c.route.ensures.drops)

pub returns-in-Stored-clause-after : goal.returns-in-Stored-clause-after
returns-in-Stored-clause-after c = rw c.in-Stored.is (offers_one c.args.bus.now c.route-in-Stored.new.self c.in-Stored.packet c.route-in-Stored.ensures.after)

pub returns-in-Stored-clause-drops : goal.returns-in-Stored-clause-drops
returns-in-Stored-clause-drops c = rw c.in-Stored.is (drops_of_one c.args.bus.now c.args.drops.now c.route-in-Stored.new.drops c.in-Stored.packet c.route-in-Stored.ensures.drops)

pub returns-in-Reset-clause-after : goal.returns-in-Reset-clause-after
returns-in-Reset-clause-after c = rw c.in-Reset.is (offers_none c.args.bus.now)

pub returns-in-Reset-clause-drops : goal.returns-in-Reset-clause-drops
returns-in-Reset-clause-drops c = rw c.in-Reset.is (drops_of_none c.args.bus.now c.args.drops.now)

pub returns-in-Restart-clause-after : goal.returns-in-Restart-clause-after
returns-in-Restart-clause-after c = rw c.in-Restart.is (offers_none c.args.bus.now)

pub returns-in-Restart-clause-drops : goal.returns-in-Restart-clause-drops
returns-in-Restart-clause-drops c = rw c.in-Restart.is (drops_of_none c.args.bus.now c.args.drops.now)

pub returns-in-Delete-clause-after : goal.returns-in-Delete-clause-after
returns-in-Delete-clause-after c = rw c.in-Delete.is (offers_none c.args.bus.now)

pub returns-in-Delete-clause-drops : goal.returns-in-Delete-clause-drops
returns-in-Delete-clause-drops c = rw c.in-Delete.is (drops_of_none c.args.bus.now c.args.drops.now)
