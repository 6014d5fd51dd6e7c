use Rattle.commands.proofs.Tallies.{note_refused}
use Rattle.commands.proofs.counting.note_refused.Goals as goal

pub returns : goal.returns
returns g c = λ verdicts reason counted. note_refused c.args.counts.now verdicts reason counted
