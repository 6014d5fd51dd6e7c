use Rattle.ground_making.proofs.CauseLemmas.{large_named}
use Rattle.ground_making.proofs.named_files.read_named.Goals as goal

pub returns-clause-large : goal.returns-clause-large
returns-clause-large g c =
    large_named c.read_few.result c.args.path.now (g.W.File.Read.remaining c.in_ok-open.field-0) (g.W.Workspace.held c.args.workspace.now) c.read_few.ensures.few c.in_ok-open.ensures.bytes
