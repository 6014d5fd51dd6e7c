use Rattle.book_rehearsals.proofs.BeginningLemmas.{some_line, shares_first}
use Rattle.book_rehearsals.proofs.book_names.has_first_line.Goals as goal

pub returns-in-Some : goal.returns-in-Some
returns-in-Some c = λ is more short.
    let line = some_line c.next_line.result c.is_some.result _ _ _ c.is_some.ensures is c.next_line.ensures.line in
    shares_first c.args.front.now c.in-Some.lines.now c.in-Some.ensures.0 more line.0 line.1.0 c.in-Some.ensures.1 line.1.1
