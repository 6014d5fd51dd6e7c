use Rattle.book_rehearsals.proofs.LeftLemmas.{front_shelved}
use Rattle.book_rehearsals.proofs.running_books.ready_book.Goals as goal

pub returns-in-Ok-shelved-clause-ready : goal.returns-in-Ok-shelved-clause-ready
returns-in-Ok-shelved-clause-ready g c = front_shelved c.args.text.now _ c.in-Ok.front c.in-Ok-shelved.shelved.shelf c.shelved.new.words c.in-Ok.ensures c.in-Ok-shelved.ensures.shelved
