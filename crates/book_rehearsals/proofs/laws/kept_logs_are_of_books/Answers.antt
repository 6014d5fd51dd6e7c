use Rattle.std.proofs.Common.{refl}
use Rattle.subjects.specs.Own.{own_subjects}
use Rattle.ground_runs.specs.KeptLogs.{file_use}
use Rattle.book_rehearsals.specs.LeftByBooks.{memory_use}
use Rattle.book_rehearsals.proofs.BookLemmas.{book_rehearsed}
use Rattle.book_rehearsals.proofs.laws.kept_logs_are_of_books.Goals as goal

pub returns : goal.returns
returns c b front words shelf asked report bytes log is asks can well = book_rehearsed b front words shelf asked report own_subjects (memory_use shelf log.behind) (file_use bytes) is refl asks can (well, refl) log.promise
