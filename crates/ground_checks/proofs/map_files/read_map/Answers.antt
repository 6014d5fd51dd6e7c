use Rattle.ground_checks.proofs.CheckedLemmas.{mapless_book}
use Rattle.ground_checks.proofs.map_files.read_map.Goals as goal

pub returns-then-is_book-clause-scenario : goal.returns-then-is_book-clause-scenario
returns-then-is_book-clause-scenario g c = mapless_book c.book_map.result c.args.path.now c.in-Ok.text.items _ (g.W.Workspace.held c.args.workspace.now) c.book_map.ensures.status c.in-Ok.ensures.bytes c.as_slice-text.ensures.value
