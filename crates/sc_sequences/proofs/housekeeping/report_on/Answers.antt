use Rattle.sc_sequences.proofs.Showing.{report_is}
use Rattle.sc_sequences.proofs.housekeeping.report_on.Goals as goal

pub returns : goal.returns
returns c = λ s stood.
    report_is s c.shown_ats.result c.left_in.result c.args.duty.now.sent c.args.duty.now.wrong c.masks_of.result (c.shown_ats.ensures c.args.tables.now s.all stood.cursors) (c.left_in.ensures s.all stood.cursors)
    stood.sent stood.wrong (c.masks_of.ensures.running c.args.tables.now s.all stood.cursors) (c.masks_of.ensures.enabled c.args.tables.now s.all stood.cursors)
