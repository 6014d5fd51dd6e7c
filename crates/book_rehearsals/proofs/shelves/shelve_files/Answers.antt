use Rattle.std.proofs.Common.{arith}
use Rattle.book_rehearsals.proofs.ShelfLemmas.{first_added, next_not_there, next_of_book, all_of_book}
use Rattle.book_rehearsals.proofs.shelves.shelve_files.Goals as goal

pub files-init : goal.files-init
files-init c = first_added c.args.scenario.now c.args.shelf.now c.shelve_file.new.shelf c.args.words.now c.shelve_file.new.words c.requires.empty c.requires.well c.in_ok-shelve_file.ensures

pub shelve_file-requires-in-files-clause-new_name : goal.shelve_file-requires-in-files-clause-new_name
shelve_file-requires-in-files-clause-new_name c = next_not_there c.files.shelf c.args.words.now c.files.words c.args.scenario.now c.args.files.now c.files.place c.files-test.true (omega arith) c.files.invariant

pub shelve_file-requires-in-files-clause-closed : goal.shelve_file-requires-in-files-clause-closed
shelve_file-requires-in-files-clause-closed c = c.files.invariant.closed

pub files-preserved : goal.files-preserved
files-preserved c = next_of_book c.args.scenario.now c.args.files.now c.files.place c.index-files-place.result c.as_slice.result.now c.args.words.now c.files.words c.shelve_file-in-files.new.words c.files.shelf c.shelve_file-in-files.new.shelf c.files-test.true c.index-files-place.is c.as_slice.ensures.value c.files.invariant c.in_ok-shelve_file-2.ensures

pub returns-clause-files : goal.returns-clause-files
returns-clause-files c = all_of_book c.args.scenario.now c.args.files.now c.files.place c.args.words.now c.files.words c.files.shelf c.files-test.false c.files.invariant
