use Rattle.load_books.proofs.NamingLemmas.{line_plain}
use Rattle.load_books.proofs.naming.show_line.Goals as goal

pub returns-in-Some : goal.returns-in-Some
returns-in-Some c = rw c.in-Some.ensures c.show_activation.ensures

pub returns-in-Some-behind_word : goal.returns-in-Some-behind_word
returns-in-Some-behind_word c = rw c.in-Some-behind_word.ensures c.show_sending.ensures

pub returns-in-None : goal.returns-in-None
returns-in-None c = line_plain _ _ _ c.in_default.ensures c.in-None.ensures c.show_other.ensures
