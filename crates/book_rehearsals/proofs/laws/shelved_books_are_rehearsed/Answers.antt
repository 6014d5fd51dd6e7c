use Rattle.book_rehearsals.proofs.BookLemmas.{book_rehearsed}
use Rattle.book_rehearsals.proofs.laws.shelved_books_are_rehearsed.Goals as goal

pub returns : goal.returns
returns c c' b front words shelf asked report subjects seen out = book_rehearsed b front words shelf asked report subjects seen out
