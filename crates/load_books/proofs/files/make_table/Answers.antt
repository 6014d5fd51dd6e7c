use Rattle.load_books.proofs.FilesLemmas.{taken_as}
use Rattle.load_books.proofs.files.make_table.Goals as goal

pub returns-in-Ok-clause-accepted : goal.returns-in-Ok-clause-accepted
returns-in-Ok-clause-accepted c = taken_as _ _ c.in-Ok.ensures.accepted
