use Rattle.std.proofs.Common.{◌∙◌, sym}
use Rattle.sc_sequences.specs.Sequences.{with_at, stopped, rts_place}
use Rattle.sc_sequences.proofs.Changes.{placed_stands}
use Rattle.sc_sequences.proofs.orders.stop_rts.Goals as goal

pub returns : goal.returns
returns c = λ tables all stood.
    placed_stands tables all c.stop.new.cursors (rts_place c.args.number) c.in-Some.place (λ place. with_at place stopped) (sym c.rts_place.ensures.place ∙ c.in-Some.is) (c.stop.ensures tables all stood)
