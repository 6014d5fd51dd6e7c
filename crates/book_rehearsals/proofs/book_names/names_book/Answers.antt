use Rattle.book_rehearsals.proofs.BeginningLemmas.{gives_some, tells_book}
use Rattle.book_rehearsals.proofs.book_names.names_book.Goals as goal

pub returns-in-Some-clause-told : goal.returns-in-Some-clause-told
returns-in-Some-clause-told g c = λ before holds.
    tells_book c.args.run.now before c.as_slice.result.now c.is_book.result
    (gives_some c.args.run.now before (λ bytes. bytes.items) c.in_ok-front.field-0 c.in-Some.front c.as_slice.result.now c.in-Some.is c.as_slice.ensures.value (c.in_ok-front.ensures.beginning before holds))
    c.is_book.ensures.exact
