use Rattle.std.proofs.Common.{subst}
use Rattle.std.specs.Prelude.{Ok, Err}
use Rattle.fsw_outside.specs.declared.traits.Failed.{Failed}
use Rattle.packet_log.specs.Blocks.{Waiting, Puts}
use Rattle.frame_exec.specs.Stages.{lines_in}
use Rattle.frame_wires.proofs.Handing.{handed_part, handed_on, by_result}
use Rattle.frame_exec.proofs.bench.Bench.write.Goals as goal

pub returns-in_default-clause-content : goal.returns-in_default-clause-content
returns-in_default-clause-content g c =
    handed_part {E = Failed} (Err c.in_default.field-0) (lines_in c.args.self.now) c.put_lines.new.self.lines.block (g.O.Sink.held c.args.sink.now) (g.O.Sink.held c.put_lines.new.sink)
    (subst (λ (block : Waiting). Puts {E = Failed} (Err c.in_default.field-0) (lines_in c.args.self.now) block c.put_lines.new.self.lines.block (g.O.Sink.held c.args.sink.now) (g.O.Sink.held c.put_lines.new.sink)) c.requires.none c.in_default.ensures.puts)
    c.in_default.ensures.left

pub returns-clause-content : goal.returns-clause-content
returns-clause-content g c =
    handed_on c.flush.result (lines_in c.args.self.now) c.put_lines.new.self.lines.block c.flush.new.self (g.O.Sink.held c.args.sink.now) (g.O.Sink.held c.put_lines.new.sink) (g.O.Sink.held c.flush.new.sink)
    (subst (λ (block : Waiting). Puts {E = Failed} (Ok tt) (lines_in c.args.self.now) block c.put_lines.new.self.lines.block (g.O.Sink.held c.args.sink.now) (g.O.Sink.held c.put_lines.new.sink)) c.requires.none c.in-Ok.ensures.puts)
    c.flush.ensures.told c.flush.ensures.notes (by_result c.flush.result _ c.flush.ensures.handed c.flush.ensures.left)
