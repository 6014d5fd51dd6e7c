use Rattle.load_books.proofs.NamingLemmas.{plain}
use Rattle.row_forms.specs.Words.{words}
use Rattle.load_books.proofs.naming.plain_line.Goals as goal

pub returns : goal.returns
returns c = plain c.args.first.now (words c.args.others.now)
