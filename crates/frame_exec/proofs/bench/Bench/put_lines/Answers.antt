use Rattle.std.proofs.Common.{ℕ, List, sym, subst}
use Rattle.std.specs.Prelude.{Ok}
use Rattle.fsw_outside.specs.declared.traits.Failed.{Failed}
use Rattle.packet_log.specs.Blocks.{Puts}
use Rattle.frame_wires.proofs.Lines.{nothing_put}
use Rattle.frame_wires.proofs.Handing.{lines_by}
use Rattle.frame_exec.proofs.bench.Bench.put_lines.Goals as goal

pub returns-then-is_nothing-clause-puts : goal.returns-then-is_nothing-clause-puts
returns-then-is_nothing-clause-puts g c =
    subst (λ (text : List ℕ). Puts {E = Failed} (Ok tt) text c.args.self.now.lines.block c.args.self.now.lines.block (g.O.Sink.held c.args.sink.now) (g.O.Sink.held c.args.sink.now)) (sym (c.requires.silent (c.is_nothing.ensures c.if-is_nothing.true)))
    (nothing_put c.args.self.now.lines.block (g.O.Sink.held c.args.sink.now))

pub returns-clause-puts : goal.returns-clause-puts
returns-clause-puts g c =
    let lines = lines_by c.args.self.now.number _ _ _ _ c.in_order-lists.ensures.shown c.dropped.ensures in
    subst (λ (text : List ℕ). Puts c.put.result text c.args.self.now.lines.block c.put.new.self.block (g.O.Sink.held c.args.sink.now) (g.O.Sink.held c.put.new.sink)) lines c.put.ensures.puts
