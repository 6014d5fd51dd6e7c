use Rattle.load_books.proofs.BooksLemmas.{head_none, head_other, head_nameless, head_followed, head_alone}
use Rattle.load_books.proofs.reading.read_head.Goals as goal

pub returns-in_default : goal.returns-in_default
returns-in_default c = head_none _ c.in_default.ensures.line

pub returns-in_default-behind_word : goal.returns-in_default-behind_word
returns-in_default-behind_word c = head_other _ _ _ _ c.in-Some.ensures.line c.in_default-behind_word.ensures

pub returns-in_default-book_name : goal.returns-in_default-book_name
returns-in_default-book_name c = head_nameless _ _ _ _ _ c.in-Some.ensures.line c.in-Some-behind_word.ensures c.in_default-book_name.ensures

pub returns-in-Some-next_line : goal.returns-in-Some-next_line
returns-in-Some-next_line c = head_followed _ _ _ _ _ _ _ _ _ c.in-Some.ensures.line c.in-Some-behind_word.ensures c.in-Some-book_name.ensures c.in-Some-next_line.ensures.line

pub returns-in-None : goal.returns-in-None
returns-in-None c = head_alone _ _ _ _ _ _ c.in-Some.ensures.line c.in-Some-behind_word.ensures c.in-Some-book_name.ensures c.in-None.ensures.line
