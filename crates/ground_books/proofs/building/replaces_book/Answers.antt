use Rattle.ground_books.proofs.CauseLemmas.{over_one}
use Rattle.ground_books.proofs.building.replaces_book.Goals as goal

pub returns-then-replaces : goal.returns-then-replaces
returns-then-replaces g c = λ _ now told.
    over_one c.args.files.now c.loop-file.file-index c.file-item.result _ _ c.args.book.now now c.loop-file-test.true c.file-item.is c.as_str-path.ensures.value (c.replaces.ensures c.if-replaces.true now told)
