use Rattle.std.proofs.Common.{◌∙◌, sym}
use Rattle.sc_sequences.specs.Sequences.{with_at, stopped, running_ats}
use Rattle.sc_sequences.specs.Orders.{switched}
use Rattle.sc_sequences.proofs.Changes.{placed_stands, unplaced_stands}
use Rattle.sc_sequences.proofs.orders.switch_ats.Goals as goal

pub returns-in_default : goal.returns-in_default
returns-in_default c = λ all stood.
    unplaced_stands c.args.tables.now all c.args.cursors.now (running_ats all) (λ place. switched c.args.now place) (sym (c.running_ats.ensures.place c.args.tables.now all stood) ∙ c.in_default.is) stood

pub returns : goal.returns
returns c = λ all stood.
    let tables = c.args.tables.now in
    let place = c.in-Some.running in
    placed_stands tables all c.start.new.cursors (running_ats all) place (λ p. switched c.args.now p) (sym (c.running_ats.ensures.place tables all stood) ∙ c.in-Some.is)
    (c.start.ensures (with_at place stopped all) (c.stop.ensures tables all stood))
