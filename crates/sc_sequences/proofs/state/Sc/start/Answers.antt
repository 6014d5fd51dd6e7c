use Rattle.std.proofs.Common.{◌∙◌, [], ap, sym, subst}
use Rattle.commands.specs.Counting.{counts_of}
use Rattle.commands.proofs.Tallies.{counts_none}
use Rattle.sc_sequences.specs.Turns.{Sequences}
use Rattle.sc_sequences.specs.Histories.{Beginning, begun_at, at_start, tables_after}
use Rattle.sc_sequences.specs.State.{DutyStands, Stands}
use Rattle.sc_sequences.proofs.Waking.{sequences_none, heard_before_all, on_tables}
use Rattle.sc_sequences.proofs.Loaded.{tables_begun}
use Rattle.sc_sequences.proofs.state.Sc.start.Goals as goal
use Rattle.sc_sequences.proofs.state.Sc.start.Goals.{After-start}

begun : (c : After-start) → Stands (begun_at c.args.now c.args.tables.now) [] (record { counts = c.start_counts.result; duty = c.start.result })
unfolding Stands
begun c =
    let begin : Beginning = begun_at c.args.now c.args.tables.now in
    record {
      counts = c.start_counts.ensures ∙ sym (counts_none _) ∙ ap counts_of (sym (heard_before_all begin));
      duty =
          subst (λ (s : Sequences). DutyStands (tables_after begin []) s c.start.result) (sym (sequences_none begin))
          (on_tables c.args.tables.now (tables_after begin []) (at_start begin) c.start.result (sym (tables_begun begin)) c.start.ensures);
    }

pub returns-clause-stands : goal.returns-clause-stands
returns-clause-stands c = begun c

pub returns-clause-ready : goal.returns-clause-ready
returns-clause-ready c = record { begin = begun_at c.args.now c.args.tables.now; history = []; in_force = sym (tables_begun (begun_at c.args.now c.args.tables.now)); stands = begun c }
