use Rattle.book_rehearsals.proofs.BookLemmas.{built_in_book}
use Rattle.book_rehearsals.proofs.laws.built_files_are_shelved.Goals as goal

pub returns : goal.returns
returns c b = built_in_book b
