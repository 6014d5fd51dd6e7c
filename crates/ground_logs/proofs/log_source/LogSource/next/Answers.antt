use Rattle.ground_logs.proofs.log_source.LogSource.next.Goals as goal

pub pieces-preserved : goal.pieces-preserved
pieces-preserved g c = λ said s. rw c.in-More.is at (c.in_ok-taken.ensures said (c.pieces.invariant said s))

pub returns-in-Line : goal.returns-in-Line
returns-in-Line g c = λ said s. rw c.in-Line.is at (c.in_ok-taken.ensures said (c.pieces.invariant said s))

pub returns-in-Fault : goal.returns-in-Fault
returns-in-Fault g c = λ said s. rw c.in-Fault.is at (c.in_ok-taken.ensures said (c.pieces.invariant said s))

pub returns-in-End : goal.returns-in-End
returns-in-End g c = λ said s. rw c.in-End.is at (c.in_ok-taken.ensures said (c.pieces.invariant said s))
