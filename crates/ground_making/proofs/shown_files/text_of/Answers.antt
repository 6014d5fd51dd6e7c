use Rattle.ground_making.specs.MadeFiles.{asked_by}
use Rattle.ground_making.proofs.CauseLemmas.{text_unmade}
use Rattle.ground_making.proofs.shown_files.text_of.Goals as goal

pub returns-in-Ok-clause-cause : goal.returns-in-Ok-clause-cause
returns-in-Ok-clause-cause g c =
    text_unmade c.made_of.result (asked_by c.args.wanted.now) c.in-Ok.bytes.items c.as_slice.result.now (g.W.Workspace.held c.args.workspace.now) c.requires c.as_slice.ensures.value c.in-Ok.ensures.bytes c.made_of.ensures.cause
