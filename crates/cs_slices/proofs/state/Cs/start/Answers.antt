use Rattle.std.proofs.Common.{sym, ap, ◌∙◌}
use Rattle.commands.specs.Counting.{counts_of}
use Rattle.commands.proofs.Tallies.{counts_none}
use Rattle.cs_slices.specs.Tables.{pair_of}
use Rattle.cs_slices.specs.State.{Stands}
use Rattle.cs_slices.proofs.Histories.{tables_begun, happened_none, heard_before_all}
use Rattle.cs_slices.proofs.state.Cs.start.Goals as goal

pub returns : goal.returns
unfolding Stands
returns c =
    let tables = pair_of c.args.eeprom.now c.args.memory.now in
    record {
      counts = c.start_counts.ensures ∙ sym (counts_none _) ∙ ap counts_of (sym (heard_before_all tables));
      duty = rw (tables_begun tables, happened_none tables) c.start.ensures;
    }
