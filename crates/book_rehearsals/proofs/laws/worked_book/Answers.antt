use Rattle.std.proofs.Common.{refl}
use Rattle.std.specs.Fmt.{digits as written}
use Rattle.clap.proofs.OnLiterals.{clap_on_literals}
use Rattle.scenario.specs.Words.{digits}
use Rattle.rehearsal.specs.Words.{workers_in, drill_in, asked_by, faults_at, matches_at, accepted_words}
use Rattle.book_rehearsals.specs.Shelves.{by_numbers}
use Rattle.book_rehearsals.specs.Worked.{two_files, three_stored, all_asked}
use Rattle.book_rehearsals.proofs.laws.worked_book.Goals as goal

pub returns : goal.returns
unfolding written clap_on_literals digits workers_in drill_in asked_by faults_at matches_at accepted_words by_numbers two_files three_stored all_asked
returns c = record { stored = refl; asked = refl }
