use Rattle.std.proofs.Common.{◌<◌, List, length, get_or, sym, ap, ◌∙◌, arith}
use Rattle.crew_board.proofs.Rows.{first_of, first_written}
use Rattle.crew_board.proofs.draw.draw_part.Goals as goal

pub returns-clause-others : goal.returns-clause-others
returns-clause-others g c = λ job s none.
    let part = c.args.part.now in
    let row = c.index-part-0.result in
    let some_ : 0 < length part = (let one = c.requires.one in omega arith) in
    ap (λ (l : List g.row.S.Denot). get_or l job s) (first_written part c.draw_jobs.new.row some_) ∙ c.draw_jobs.ensures.others job s none
    ∙ sym (ap (λ (l : List g.row.S.Denot). get_or l job s) (first_of part row some_))
