use Rattle.ground_making.proofs.VerbLemmas.{others_written}
use Rattle.ground_making.proofs.shown_files.write_shown.Goals as goal

pub returns-clause-others : goal.returns-clause-others
returns-clause-others g c = λ before was.
    others_written c.write_made.result c.args.output.now c.args.text.now before _ _ was c.write_made.ensures.done c.write_made.ensures.undone
