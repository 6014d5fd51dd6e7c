use Rattle.std.proofs.Common.{ap, ◌∙◌}
use Rattle.load_texts.specs.Loaded.{named_by}
use Rattle.ground_making.specs.Named.{path_beside}
use Rattle.ground_making.proofs.CauseLemmas.{named_caused}
use Rattle.ground_making.proofs.named_files.named_bytes.Goals as goal

pub returns-in-Ok-path_beside-clause-cause : goal.returns-in-Ok-path_beside-clause-cause
returns-in-Ok-path_beside-clause-cause g c =
    named_caused c.read_path.result c.args.wanted.now.output.now c.args.wanted.now.file.now c.as_str.result.now _ (named_by c.args.asked.now) (g.W.Workspace.held c.args.workspace.now)
    c.as_str.ensures.value (c.in-Ok-path_beside.ensures ∙ ap (path_beside c.args.wanted.now.file.now) c.in-Ok.ensures.cases.0) c.read_path.ensures.cause
