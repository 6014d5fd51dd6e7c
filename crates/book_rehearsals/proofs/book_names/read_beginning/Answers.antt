use Rattle.book_rehearsals.proofs.BeginningLemmas.{read_all, read_on, read_enough}
use Rattle.book_rehearsals.proofs.book_names.read_beginning.Goals as goal

pub returns-then-not-branch : goal.returns-then-not-branch
returns-then-not-branch g c = λ whole is short.
    let front = c.pieces.invariant whole is in
    read_all whole c.pieces.front.items c.read_more.new.front.items front.0 c.in_ok-read_more.field-0 _ front.2 (c.in_ok-read_more.ensures front.0 front.1) c.if-not-branch.true

pub returns-then-has_first_line : goal.returns-then-has_first_line
returns-then-has_first_line g c = λ whole is short.
    let front = c.pieces.invariant whole is in
    let read = read_on whole c.pieces.front.items c.read_more.new.front.items front.0 c.in_ok-read_more.field-0 _ front.2 (c.in_ok-read_more.ensures front.0 front.1) in
    read_enough whole c.read_more.new.front.items c.as_slice.result.now read.0 c.as_slice.ensures.value read.2 short (c.has_first_line.ensures c.if-has_first_line.true)

pub pieces-preserved : goal.pieces-preserved
pieces-preserved g c = λ whole is.
    let front = c.pieces.invariant whole is in
    read_on whole c.pieces.front.items c.read_more.new.front.items front.0 c.in_ok-read_more.field-0 _ front.2 (c.in_ok-read_more.ensures front.0 front.1)
