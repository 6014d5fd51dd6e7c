use Rattle.std.proofs.Common.{sym, ap, ◌∙◌}
use Rattle.commands.specs.Counting.{counts_of}
use Rattle.md_dwell.specs.Histories.{activation_of}
use Rattle.md_dwell.specs.State.{Stands}
use Rattle.md_dwell.proofs.Following.{heard_activated}
use Rattle.md_dwell.proofs.state.Md.activate.Goals as goal

pub returns-clause-stands : goal.returns-clause-stands
unfolding Stands
returns-clause-stands c = λ tables history stood.
    record {
      counts = stood.counts ∙ ap counts_of (sym (heard_activated history (activation_of c.args.n c.args.table.now)));
      duty = c.activate.ensures.stands tables history stood.duty;
    }
