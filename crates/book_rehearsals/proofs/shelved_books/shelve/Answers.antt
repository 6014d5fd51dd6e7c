use Rattle.book_rehearsals.proofs.BookLemmas.{book_shelved}
use Rattle.book_rehearsals.proofs.shelved_books.shelve.Goals as goal

pub returns-clause-shelved : goal.returns-clause-shelved
returns-clause-shelved c = book_shelved c.args.book c.as_slice-scenario.result.now c.as_slice.result.now c.args.words.now c.shelve_files.new.words c.shelve_files.new.shelf c.as_slice-scenario.ensures.value c.as_slice.ensures.value c.shelve_files.ensures.few c.in_ok-shelve_files.ensures.files
