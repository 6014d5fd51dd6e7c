use Rattle.ground_making.specs.MadeFiles.{asked_by}
use Rattle.ground_making.proofs.VerbLemmas.{load_put}
use Rattle.ground_making.proofs.made_files.make_load.Goals as goal

pub returns-in-Ok-load_of-clause-done : goal.returns-in-Ok-load_of-clause-done
returns-in-Ok-load_of-clause-done g c = λ done before was.
    load_put (asked_by c.args.wanted.now) c.args.text.now c.in-Ok.bytes.items c.as_slice.result.now c.in-Ok-load_of.file.items c.as_slice-in-Ok-load_of.result.now before
    (g.W.Workspace.held c.args.workspace.now) (g.W.Workspace.held c.bytes_asked.new.workspace) _ c.requires.making c.requires.load c.in-Ok.ensures.bytes c.as_slice.ensures.value c.in-Ok-load_of.ensures.made
    c.as_slice-in-Ok-load_of.ensures.value c.bytes_asked.ensures.held (c.write_made.ensures.done done) was
