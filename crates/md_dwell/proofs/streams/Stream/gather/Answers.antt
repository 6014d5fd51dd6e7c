use Rattle.std.proofs.Common.{◌≡◌, ◌∙◌, sym}
use Rattle.md_dwell.proofs.streams.Stream.gather.Goals as goal

pub returns-clause-read : goal.returns-clause-read
returns-clause-read c = λ list from past same read.
    let eq : c.list.result.now ≡ list = c.list.ensures.list ∙ sym same in
    rw (← eq) (c.gather-pause.ensures.read from past (rw eq read))

pub returns-clause-last : goal.returns-clause-last
returns-clause-last c = λ list from past same within read end.
    let eq : c.list.result.now ≡ list = c.list.ensures.list ∙ sym same in
    rw (← eq) (c.gather-pause.ensures.last from past (rw eq within) (rw eq read) (rw eq end))
