use Rattle.std.proofs.Common.{ap, sym, ◌∙◌, ◌==◌, cond, ℕ, ◌+◌, arith}
use Rattle.std.proofs.lemmas.List.{take_all}
use Rattle.bus_pipes.specs.Pipes.{count_of_id}
use Rattle.bus_pipes.proofs.Deliveries.{count_of_none, count_more}
use Rattle.bus_pipes.proofs.pipe.count_of_id.Goals as goal

pub loop-packet-init : goal.loop-packet-init
loop-packet-init c = record { count = sym (count_of_none c.args.id); few = omega arith }

pub loop-packet-preserved : goal.loop-packet-preserved
loop-packet-preserved c = record {
  count =
      ap (λ (n : ℕ). n + c.one_where-count.result) c.loop-packet.invariant.count
      ∙ count_more c.args.id c.args.packets.now c.loop-packet.packet-index c.packet-item.result c.one_where-count.result c.loop-packet-test.true c.packet-item.is
      (c.one_where-count.ensures.value ∙ ap (λ (id : ℕ). cond (id == c.args.id) 1 0) c.mid.ensures);
  few = let few = c.loop-packet.invariant.few in let one = c.one_where-count.ensures.bound in omega arith;
}

pub returns-clause-count : goal.returns-clause-count
returns-clause-count c = c.loop-packet.invariant.count ∙ ap (count_of_id c.args.id) (take_all c.loop-packet.packet-index c.args.packets.now c.loop-packet-test.false)
