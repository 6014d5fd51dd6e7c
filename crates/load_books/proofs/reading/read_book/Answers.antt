use Rattle.load_books.proofs.BooksLemmas.{book_headless, book_made, book_refused}
use Rattle.load_books.proofs.reading.read_book.Goals as goal

pub returns-in-Err-clause-said : goal.returns-in-Err-clause-said
returns-in-Err-clause-said c = book_headless c.args.forms.now c.args.text.now _ _ c.in-Err.fault c.cut_front-front.ensures.front c.cut_front-front.ensures.parts c.in-Err.ensures

pub returns-in-Ok-read_parts-clause-said : goal.returns-in-Ok-read_parts-clause-said
returns-in-Ok-read_parts-clause-said c =
    book_made c.args.forms.now c.args.text.now _ _ _ _ c.make_book.result c.cut_front-front.ensures.front c.cut_front-front.ensures.parts c.in-Ok.ensures c.in-Ok-read_parts.ensures c.make_book.ensures.said

pub returns-in-Err-read_parts-clause-said : goal.returns-in-Err-read_parts-clause-said
returns-in-Err-read_parts-clause-said c =
    book_refused c.args.forms.now c.args.text.now _ _ _ c.in-Err-read_parts.error c.cut_front-front.ensures.front c.cut_front-front.ensures.parts c.in-Ok.ensures c.in-Err-read_parts.ensures
