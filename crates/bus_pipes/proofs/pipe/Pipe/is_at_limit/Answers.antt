use Rattle.std.proofs.Common.{◌≤◌, length, arith}
use Rattle.bus_pipes.specs.Pipes.{count_of_id}
use Rattle.bus_pipes.proofs.Deliveries.{count_of_few, under_limit}
use Rattle.bus_pipes.proofs.pipe.Pipe.is_at_limit.Goals as goal

pub returns-then-len-self : goal.returns-then-len-self
returns-then-len-self c =
    let few : count_of_id c.args.id c.self.inside.packets.items ≤ length c.self.inside.packets.items = count_of_few c.args.id c.self.inside.packets.items in
    rw (← c.self.view_is) (under_limit c.self.inside.limit (count_of_id c.args.id c.self.inside.packets.items) (omega (arith, few, c.if-len-self.true, c.len.ensures.len)))
