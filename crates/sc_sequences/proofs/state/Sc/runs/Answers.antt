use Rattle.std.proofs.Common.{◌∙◌, ap, sym}
use Rattle.sc_sequences.specs.Histories.{sequences_of, tables_after}
use Rattle.sc_sequences.specs.State.{Stands, runs_in}
use Rattle.sc_sequences.proofs.state.Sc.runs.Goals as goal

pub returns : goal.returns
unfolding Stands
returns c = λ begin history stood.
    let all = (sequences_of begin history).all in
    c.is_running.ensures (tables_after begin history) all stood.duty.cursors ∙ sym (ap (runs_in all) (sym c.sequence_place.ensures.place ∙ c.in-Some.is))
