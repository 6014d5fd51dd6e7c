use Rattle.book_rehearsals.specs.Shelves.{HasFiles}
use Rattle.book_rehearsals.proofs.ShelfLemmas.{files_to}
use Rattle.book_rehearsals.proofs.shelves.shelve_files.Given as goal

abbrev pub invariant-files : goal.invariant-files
invariant-files l = HasFiles l.fn.words (files_to l.scenario l.files l.place) l.shelf l.words
