use Rattle.load_books.proofs.NamingLemmas.{send_plain}
use Rattle.load_books.proofs.naming.show_sending.Goals as goal

pub returns-in-Some : goal.returns-in-Some
returns-in-Some c = rw c.in-Some.ensures c.show_loading.ensures

pub returns-in-None : goal.returns-in-None
returns-in-None c = send_plain _ _ _ c.in-None.ensures c.plain_line.ensures
