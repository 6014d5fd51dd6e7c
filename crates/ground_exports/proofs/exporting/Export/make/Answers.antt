use Rattle.ground_exports.proofs.exporting.Export.make.Goals as goal

pub returns-in-Words : goal.returns-in-Words
returns-in-Words g c = rw c.in-Words.is c.tell.ensures

pub returns-in-Rows : goal.returns-in-Rows
returns-in-Rows g c = rw c.in-Rows.is c.write_rows.ensures

pub returns-in-Capture : goal.returns-in-Capture
returns-in-Capture g c = rw (c.in-Capture.is, ← c.seconds_of.ensures) c.write_capture.ensures
