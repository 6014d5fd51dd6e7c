use Rattle.std.proofs.Common.{sym, ap, ◌∙◌}
use Rattle.commands.specs.Counting.{counts_of}
use Rattle.commands.proofs.Tallies.{counts_none}
use Rattle.lc_watch.specs.Histories.{setup_of}
use Rattle.lc_watch.specs.State.{Stands}
use Rattle.lc_watch.specs.declared.instructions.Instruction.{Instruction}
use Rattle.lc_watch.proofs.Following.{heard_before_all}
use Rattle.lc_watch.proofs.state.Lc.start.Goals as goal

pub returns : goal.returns
unfolding Stands
returns c = λ watch. record {
  counts = c.start_counts.ensures ∙ sym (ap counts_of (heard_before_all (setup_of watch c.args.actions.now)) ∙ counts_none Instruction);
  duty = c.start.ensures watch;
  uses = c.uses_any.ensures;
}
