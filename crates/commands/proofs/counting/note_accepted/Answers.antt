use Rattle.commands.proofs.Tallies.{note_reset, note_accepted}
use Rattle.commands.proofs.counting.note_accepted.Goals as goal

pub returns-then-code-eq1 : goal.returns-then-code-eq1
returns-then-code-eq1 g c = λ verdicts instruction counted. rw c.start_counts.ensures (note_reset verdicts c.args.code instruction c.if-code-eq1.true)

pub returns : goal.returns
returns g c = λ verdicts instruction counted. note_accepted c.args.counts.now verdicts c.args.code instruction counted c.if-code-eq1.false
