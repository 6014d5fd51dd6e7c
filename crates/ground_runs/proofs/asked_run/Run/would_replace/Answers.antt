use Rattle.std.proofs.Common.{inr}
use Rattle.ground_runs.proofs.SettlingLemmas.{over_at}
use Rattle.ground_runs.proofs.asked_run.Run.would_replace.Goals as goal

pub returns-then-replaces : goal.returns-then-replaces
returns-then-replaces g c = λ same now is. inr (over_at c.args.output.now c.args.self.now.files.now c.loop-file.file-index _ now c.loop-file-test.true (c.replaces.ensures c.if-replaces.true now is))
