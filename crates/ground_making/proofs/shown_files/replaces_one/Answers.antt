use Rattle.ground_making.proofs.VerbLemmas.{over_one}
use Rattle.ground_making.proofs.shown_files.replaces_one.Goals as goal

pub returns-then-replaces : goal.returns-then-replaces
returns-then-replaces g c = λ _ now told.
    over_one c.args.shown.now c.args.shown.now.files.now c.loop-file.file-index _ now c.loop-file-test.true (c.replaces.ensures c.if-replaces.true now told)
